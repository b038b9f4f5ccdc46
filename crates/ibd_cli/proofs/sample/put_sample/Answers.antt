use Rattle.std.proofs.Common.{◌∙◌, ℕ, List, [], ◌++◌, codes, subst}
use Rattle.page_source.specs.Calls.{Puts}
use Rattle.page_source.proofs.Texts.{put_none, put_more, put_last, put_cut}
use Rattle.command_line.specs.Lines.{counted}
use Rattle.ibd_cli.specs.Outcome.{checked_numbers}
use Rattle.ibd_cli.specs.Sample.{sum_digits}
use Rattle.ibd_cli.proofs.Joined.{joined}
use Rattle.ibd_cli.proofs.sample.put_sample.Goals as goal

pub returns-in_err-put_numbers : goal.returns-in_err-put_numbers
returns-in_err-put_numbers g c =
    let s = g.O.ByteSink in
    let out = c.args.out.now in
    let n = c.args.sample.now in
    let numbers = checked_numbers n.checked in
    let bytes = counted (codes " bytes=") n.bytes in
    let digits = sum_digits n.sum in
    subst (λ (text : List ℕ). Puts s out c.put_numbers.new.out text c.from_residual.result)
    (joined numbers bytes (codes " sum=") digits (codes "\n"))
    (put_cut s out out c.put_numbers.new.out [] numbers (bytes ++ (codes " sum=" ++ (digits ++ codes "\n")))
    c.put_numbers.result _ c.from_residual.result (put_none s out) c.put_numbers.ensures c.in_err-put_numbers.was
    c.from_residual.ensures.0)

pub returns : goal.returns
returns g c =
    let s = g.O.ByteSink in
    let out = c.args.out.now in
    let n = c.args.sample.now in
    let numbers = checked_numbers n.checked in
    let bytes = counted (codes " bytes=") n.bytes in
    let digits = sum_digits n.sum in
    let behind = rw (
      c.as_slice.ensures,
      c.as_bytes.ensures.value ∙ c.format.ensures.text,
      c.sum_digits-digits.ensures,
    ) at c.put_pieces.ensures in
    let front = put_more s out out c.put_numbers.new.out [] numbers c.put_numbers.result
    c.in_ok-put_numbers.field-0 (put_none s out) c.put_numbers.ensures c.in_ok-put_numbers.was in
    subst (λ (text : List ℕ). Puts s out c.put_pieces.new.sink text c.put_pieces.result)
    (joined numbers bytes (codes " sum=") digits (codes "\n"))
    (put_last s out c.put_numbers.new.out c.put_pieces.new.sink numbers
    (bytes ++ (codes " sum=" ++ (digits ++ codes "\n"))) c.put_pieces.result front behind)
