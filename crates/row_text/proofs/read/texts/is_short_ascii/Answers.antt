use Rattle.std.proofs.Common.{arith}
use Rattle.row_text.proofs.AsciiTexts.{ascii_varchar, ascii_text, tested}
use Rattle.row_text.proofs.read.texts.is_short_ascii.Goals as goal

pub returns-then-text-n : goal.returns-then-text-n
returns-then-text-n c =
    let text = c.args.text.now in
    rw c.in-Utf8Varchar.is (λ yes. ascii_varchar c.in-Utf8Varchar.n text (omega (arith, c.if-text-n.true))
    (tested c.is_ascii.result text c.is_ascii.ensures.cases yes))

pub returns-then-text-n-2 : goal.returns-then-text-n-2
returns-then-text-n-2 c =
    let text = c.args.text.now in
    rw c.in-Utf8Text.is (λ yes. ascii_text c.in-Utf8Text.n text (omega (arith, c.if-text-n-2.true))
    (tested c.is_ascii-then-text-n-2.result text c.is_ascii-then-text-n-2.ensures.cases yes))
