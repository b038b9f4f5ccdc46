use Rattle.std.proofs.Common.{List, ℕ, map, ap, ◌∙◌}
use Rattle.row_text.specs.calls.Bytes.{half_digit}
use Rattle.row_text.proofs.Hex.{digits_of_halves}
use Rattle.row_text.proofs.write.bytes.write_hex.Goals as goal

pub returns : goal.returns
returns c =
    c.write_digits.ensures ∙ ap (λ (t : List ℕ). map half_digit t) c.write_halves.ensures.halves
    ∙ digits_of_halves c.args.bytes.now c.write_halves.ensures.bytes
