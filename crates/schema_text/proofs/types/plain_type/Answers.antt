use Rattle.std.proofs.Common.{rules}
use Rattle.schema_text.proofs.types.plain_type.Goals as goal

pub returns-in-Some : goal.returns-in-Some
returns-in-Some c = record { found = search rules; only = λ kind h. let known = h.0 in let words = h.1 in search rules }
