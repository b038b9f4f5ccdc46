use Rattle.std.proofs.Common.{[]}
use Rattle.page_source.proofs.Texts.{HasPut, put_none, put_more, put_last, put_cut}
use Rattle.row_text.proofs.write.pieces.put_two.Goals as goal

pub returns-in_err-put : goal.returns-in_err-put
returns-in_err-put g c =
    let s = g.O.ByteSink in
    let first = c.put.ensures in
    put_cut s c.args.sink.now c.args.sink.now c.put.new.self [] c.args.first.now c.args.second.now c.put.result _
    c.from_residual.result (put_none s c.args.sink.now)
    (record { ok = first.ok; failed = first.failed; cause = first.cause })
    c.in_err-put.was c.from_residual.ensures.0

pub returns : goal.returns
returns g c =
    let s = g.O.ByteSink in
    let first = c.put.ensures in
    let begun : HasPut s c.args.sink.now c.put.new.self c.args.first.now =
    put_more s c.args.sink.now c.args.sink.now c.put.new.self [] c.args.first.now c.put.result c.in_ok-put.field-0
    (put_none s c.args.sink.now)
    (record { ok = first.ok; failed = first.failed; cause = first.cause }) c.in_ok-put.was in
    let last = c.put-2.ensures in
    put_last s c.args.sink.now c.put.new.self c.put-2.new.self c.args.first.now c.args.second.now c.put-2.result begun
    (record { ok = last.ok; failed = last.failed; cause = last.cause })
