use Rattle.std.proofs.Common.{arith}
use Rattle.std.proofs.lemmas.Bool.Decides.{nat_tests}
use Rattle.column_values.proofs.TextValues.{too_long}
use Rattle.column_values.proofs.texts.is_text_of_characters.Goals as goal

pub returns-else-bytes-n : goal.returns-else-bytes-n
returns-else-bytes-n c =
    (λ t. absurd (grind (arith, nat_tests)), λ text. absurd (too_long c.args.n c.args.bytes.now (omega arith) text))
