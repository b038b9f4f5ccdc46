-- The text of some bytes has two for each at the most.
use Rattle.std.proofs.Common.{◌≡◌, ℕ, ◌*◌, ◌≤◌, ◌==◌, Bool, true, false, cond, List, [], ◌∷◌, ◌++◌, length, flat_map}
use Rattle.std.proofs.Common.{take, Some, ap, arith, length-append}
use Rattle.std.proofs.lemmas.List.{length-take-le}
use Rattle.page_source.specs.Objects.{GrowsByPart}
use Rattle.hex.specs.Hex.{encode_with, encode_lower}
use Rattle.column_values.specs.declared.kind.ColumnType.{ColumnType}
use Rattle.row_text.specs.Values.{escape_letter, escaped, escaped_text}
use Rattle.row_text.specs.Writer.{is_text, long_part}

hex_size : (digits bytes : List ℕ) → length (encode_with digits bytes) ≤ 2 * length bytes
unfolding encode_with
hex_size digits [] = omega arith
hex_size digits (b ∷ bytes) = omega (arith, hex_size digits bytes)

escaped_size : (byte : ℕ) → length (escaped byte) ≤ 2
escaped_size byte = by_test (escape_letter byte == 0)
  where
    by_test : (b : Bool) → length (cond b (byte ∷ []) (92 ∷ escape_letter byte ∷ [])) ≤ 2
    by_test true = omega arith
    by_test false = omega arith

text_size : (bytes : List ℕ) → length (flat_map escaped bytes) ≤ 2 * length bytes
text_size [] = omega arith
text_size (b ∷ bytes) =
    omega (arith, escaped_size b, text_size bytes, length-append (escaped b) (flat_map escaped bytes))

pub part_size_most : (kind : ColumnType) (bytes : List ℕ) → length (long_part kind bytes) ≤ 2 * length bytes
unfolding escaped_text
part_size_most kind bytes = by_test (is_text kind)
  where
    by_test : (b : Bool) → length (cond b (flat_map escaped bytes) (encode_lower bytes)) ≤ 2 * length bytes
    by_test true = text_size bytes
    by_test false = hex_size _ bytes

-- a short text behind nothing doesn't fill a buffer
pub never_full : (old now text : List ℕ) → old ≡ [] → length text ≤ 32768 → GrowsByPart (Some old) (Some now) text
    → length now ≤ 32768
never_full old now text none short part =
    let is : now ≡ old ++ take part.0 text = cc (part.2) in
    omega (
      arith,
      ap length is,
      ap (length {A = ℕ}) none,
      length-append old (take part.0 text),
      length-take-le part.0 text part.1,
      part.1,
    )
