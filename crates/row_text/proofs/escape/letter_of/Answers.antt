use Rattle.std.proofs.Common.{ℕ, ap, ◌∙◌, arith}
use Rattle.row_text.specs.Values.{escape_letter}
use Rattle.row_text.proofs.Escapes.{letter_entry}
use Rattle.row_text.proofs.escape.letter_of.Goals as goal

pub returns : goal.returns
returns c = letter_entry c.from.result 0 (omega arith) ∙ ap (λ (b : ℕ). escape_letter b) c.from.ensures
