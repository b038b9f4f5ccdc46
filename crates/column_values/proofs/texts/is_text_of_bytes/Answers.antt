use Rattle.std.proofs.Common.{arith}
use Rattle.column_values.proofs.TextValues.{any_text}
use Rattle.column_values.proofs.texts.is_text_of_bytes.Goals as goal

pub returns-then-bytes-n : goal.returns-then-bytes-n
returns-then-bytes-n c = (
  λ t. let text = c.is_text.ensures.0 t in (omega arith, (text.0, text.2)),
  λ h. c.is_text.ensures.1 (any_text c.args.n c.args.bytes.now (omega (arith, c.ranges.n)) h.1),
)
