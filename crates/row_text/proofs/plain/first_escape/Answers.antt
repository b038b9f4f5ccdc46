use Rattle.std.proofs.Common.{sym}
use Rattle.row_text.proofs.Escapes.{first_has_letter}
use Rattle.row_text.proofs.plain.first_escape.Goals as goal

pub returns-in_err-letter-clause-none : goal.returns-in_err-letter-clause-none
returns-in_err-letter-clause-none c = λ _.
    absurd (first_has_letter c.args.text.now _ (sym c.in_ok-at.ensures.place) c.in_err-letter.ensures)
