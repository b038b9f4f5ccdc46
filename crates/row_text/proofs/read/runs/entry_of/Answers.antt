use Rattle.std.proofs.Common.{ℕ, ap, ◌∙◌, arith}
use Rattle.row_text.specs.calls.Texts.{byte_of}
use Rattle.row_text.proofs.Letters.{byte_entry}
use Rattle.row_text.proofs.read.runs.entry_of.Goals as goal

pub returns : goal.returns
returns c = byte_entry c.from.result 0 (omega arith) ∙ ap (λ (b : ℕ). byte_of b) c.from.ensures
