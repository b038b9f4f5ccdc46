use Rattle.std.proofs.Common.{◌≡◌, ◌∙◌, sym, ap}
use Rattle.std.specs.Fmt.{decimal}
use Rattle.std.proofs.lemmas.Fmt.{parse-decimal}
use Rattle.schema_text.proofs.WordLemmas.{utf8_text, utf8_decimal, ok_part_some, ok_part_is, then_some_is}
use Rattle.row_text.proofs.read.numbers.unsigned.Goals as goal

pub returns-in_err-ok-clause-only : goal.returns-in_err-ok-clause-only
returns-in_err-ok-clause-only c = λ n fits e.
    absurd (utf8_decimal _ _ n _ c.from_utf8.ensures.cases c.in_err-ok.ensures.value fits e)

pub returns-in_err-number-clause-only : goal.returns-in_err-number-clause-only
returns-in_err-number-clause-only c = λ n fits e.
    let text = utf8_text _ _ _ _ c.from_utf8.ensures.cases c.in_ok-ok.ensures.value in
    let parsed = parse-decimal 64 n _ _ fits fits (text ∙ e) c.parse.ensures.value.0 in
    absurd (ok_part_some _ n c.in_err-number.ensures.value parsed)

pub returns-clause-only : goal.returns-clause-only
returns-clause-only c = λ n fits e.
    let text = utf8_text _ _ _ _ c.from_utf8.ensures.cases c.in_ok-ok.ensures.value in
    let parsed = parse-decimal 64 n _ _ fits fits (text ∙ e) c.parse.ensures.value.0 in
    let is : c.in_ok-number.number ≡ n = ok_part_is _ _ n c.in_ok-number.ensures.value parsed in
    c.then_some.ensures ∙ then_some_is _ _ n is (c.is_unsigned.ensures.1 (e ∙ ap decimal (sym is)))
