use Rattle.std.proofs.lemmas.Bool.{iff_false}
use Rattle.row_text.proofs.Ints.{unsigned_word, no_unsigned, other_unsigned}
use Rattle.row_text.proofs.read.words.unsigned_value.Goals as goal

pub returns-in_err-number : goal.returns-in_err-number
returns-in_err-number c = rw c.from_residual.ensures
    (no_unsigned c.args.width c.args.word.now c.requires c.in_err-number.ensures.only)

pub returns-then-not-is_unsigned_number : goal.returns-then-not-is_unsigned_number
returns-then-not-is_unsigned_number c =
    other_unsigned c.args.width c.args.word.now c.in_ok-number.number c.requires c.in_ok-number.ensures.only
    (iff_false c.is_unsigned_number.ensures c.if-not-is_unsigned_number.true)

pub returns : goal.returns
returns c = unsigned_word c.args.width c.in_ok-number.number c.args.word.now c.requires c.in_ok-number.ensures.found
    (c.is_unsigned_number.ensures.0 c.if-not-is_unsigned_number.false)
