use Rattle.std.proofs.Common.{[], ◌++◌}
use Rattle.page_source.proofs.Texts.{HasPut, put_none, put_more, put_last, put_cut}
use Rattle.row_text.proofs.write.pieces.put_enclosed.Goals as goal

pub returns-in_err-put_two : goal.returns-in_err-put_two
returns-in_err-put_two g c =
    let s = g.O.ByteSink in
    put_cut s c.args.sink.now c.args.sink.now c.put_two.new.sink [] (c.args.front.now ++ c.args.piece.now)
    c.args.back.now c.put_two.result _ c.from_residual.result (put_none s c.args.sink.now) c.put_two.ensures
    c.in_err-put_two.was c.from_residual.ensures.0

pub returns : goal.returns
returns g c =
    let s = g.O.ByteSink in
    let both = c.args.front.now ++ c.args.piece.now in
    let begun : HasPut s c.args.sink.now c.put_two.new.sink both =
    put_more s c.args.sink.now c.args.sink.now c.put_two.new.sink [] both c.put_two.result
    c.in_ok-put_two.field-0 (put_none s c.args.sink.now) c.put_two.ensures c.in_ok-put_two.was in
    let last = c.put.ensures in
    put_last s c.args.sink.now c.put_two.new.sink c.put.new.self both c.args.back.now c.put.result begun
    (record { ok = last.ok; failed = last.failed; cause = last.cause })
