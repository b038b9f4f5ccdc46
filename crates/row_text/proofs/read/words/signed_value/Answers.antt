use Rattle.std.proofs.Common.{rules}
use mir.Syntax.{w64}
use mir.Val.{SFits}
use Rattle.std.proofs.lemmas.Int.{to_z-of_z}
use Rattle.std.proofs.lemmas.Bool.{iff_false}
use Rattle.row_text.proofs.Ints.{signed_word, no_signed, other_signed}
use Rattle.row_text.proofs.read.words.signed_value.Goals as goal

pub returns-in_err-number : goal.returns-in_err-number
returns-in_err-number c = rw c.from_residual.ensures
    (no_signed c.args.width c.args.word.now c.requires c.in_err-number.ensures.only)

pub returns-then-not-is_signed_number : goal.returns-then-not-is_signed_number
returns-then-not-is_signed_number c =
    let fits : SFits w64 c.in_ok-number.number = search rules in
    let test = simp to_z-of_z at c.is_signed_number.ensures in
    other_signed c.args.width c.args.word.now c.in_ok-number.number c.requires c.in_ok-number.ensures.only
    (iff_false test c.if-not-is_signed_number.true)

pub returns : goal.returns
returns c =
    let fits : SFits w64 c.in_ok-number.number = search rules in
    let test = simp to_z-of_z at c.is_signed_number.ensures in
    simp to_z-of_z (signed_word c.args.width c.in_ok-number.number c.args.word.now c.requires
    c.in_ok-number.ensures.found
    (test.0 c.if-not-is_signed_number.false))
