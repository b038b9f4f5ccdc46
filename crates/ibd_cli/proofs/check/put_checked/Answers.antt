use Rattle.std.proofs.Common.{[], codes}
use Rattle.page_source.proofs.Texts.{put_none, put_more, put_last, put_cut}
use Rattle.ibd_cli.specs.Outcome.{checked_numbers}
use Rattle.ibd_cli.proofs.check.put_checked.Goals as goal

pub returns-in_err-put_numbers : goal.returns-in_err-put_numbers
returns-in_err-put_numbers g c =
    let s = g.O.ByteSink in
    let out = c.args.out.now in
    put_cut s out out c.put_numbers.new.out [] (checked_numbers c.args.checked.now) (codes "\n") c.put_numbers.result _
    c.from_residual.result (put_none s out) c.put_numbers.ensures c.in_err-put_numbers.was c.from_residual.ensures.0

pub returns : goal.returns
returns g c =
    let s = g.O.ByteSink in
    let out = c.args.out.now in
    let numbers = checked_numbers c.args.checked.now in
    let last = c.put.ensures in
    let front = put_more s out out c.put_numbers.new.out [] numbers c.put_numbers.result
    c.in_ok-put_numbers.field-0 (put_none s out) c.put_numbers.ensures c.in_ok-put_numbers.was in
    put_last s out c.put_numbers.new.out c.put.new.self numbers (codes "\n") c.put.result front
    (record { ok = last.ok; failed = last.failed; cause = last.cause })
