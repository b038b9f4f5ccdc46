use Rattle.std.proofs.Common.{arith}
use Rattle.column_values.proofs.Bytes.{are_bytes}
use Rattle.row_text.proofs.QuotedValues.{char_value, char_trimmed, text_spells, text_spelled, not_char}
use Rattle.row_text.proofs.read.texts.is_text_of.Goals as goal

pub returns-in-Char : goal.returns-in-Char
returns-in-Char c =
    let text = c.args.text.now in
    rw c.in-Char.is (
      λ t. char_value c.in-Char.n text (are_bytes text (λ k. omega (arith, c.type_inv.text k)))
          (c.is_trimmed.ensures.0 t),
      λ is. c.is_trimmed.ensures.1 (char_trimmed c.in-Char.n text is),
    )

pub returns-in_default : goal.returns-in_default
returns-in_default c =
    let text = c.args.text.now in
    let kind = c.args.kind.now in
    let plain = not_char kind c.requires.quoted c.in_default.not-Char in (
      λ t. text_spells kind text plain (are_bytes text (λ k. omega (arith, c.type_inv.text k)))
          (c.is_spelling.ensures.0 t),
      λ is. c.is_spelling.ensures.1 (text_spelled kind text plain is),
    )
