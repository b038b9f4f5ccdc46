use Rattle.std.proofs.Common.{◌≡◌, ◌∙◌, sym, ap, rules}
use Rattle.std.specs.Fmt.{signed_decimal}
use mir.Syntax.{w64}
use mir.Val.{SFits}
use Rattle.std.proofs.lemmas.Int.{to_z-of_z}
use Rattle.std.proofs.lemmas.Fmt.{parse-signed_decimal}
use Rattle.schema_text.proofs.WordLemmas.{utf8_text}
use Rattle.row_text.proofs.NumberTexts.{utf8_signed, long_mag, ok_signed_some, ok_signed_is, then_signed_is}
use Rattle.row_text.proofs.read.numbers.signed.Goals as goal

pub returns-in_err-ok-clause-only : goal.returns-in_err-ok-clause-only
returns-in_err-ok-clause-only c = λ z fits e.
    absurd (utf8_signed _ _ z _ c.from_utf8.ensures.cases c.in_err-ok.ensures.value fits e)

pub returns-in_err-number-clause-only : goal.returns-in_err-number-clause-only
returns-in_err-number-clause-only c = λ z fits e.
    let text = utf8_text _ _ _ _ c.from_utf8.ensures.cases c.in_ok-ok.ensures.value in
    let parsed = parse-signed_decimal w64 z _ _ (record { sfits = long_mag z fits }) (long_mag z fits)
    (text ∙ e) c.parse.ensures.value.0 in
    absurd (ok_signed_some _ z c.in_err-number.ensures.value parsed)

pub returns-clause-only : goal.returns-clause-only
returns-clause-only c = λ z fits e.
    let text = utf8_text _ _ _ _ c.from_utf8.ensures.cases c.in_ok-ok.ensures.value in
    let parsed = parse-signed_decimal w64 z _ _ (record { sfits = long_mag z fits }) (long_mag z fits)
    (text ∙ e) c.parse.ensures.value.0 in
    let is : c.in_ok-number.number ≡ z = ok_signed_is _ _ z c.in_ok-number.ensures.value parsed in
    let fits64 : SFits w64 c.in_ok-number.number = search rules in
    let test = simp to_z-of_z at c.is_signed.ensures.1 in
    let then = simp to_z-of_z at c.then_some.ensures in
    then ∙ then_signed_is _ _ z is (test (e ∙ ap signed_decimal (sym is)))
