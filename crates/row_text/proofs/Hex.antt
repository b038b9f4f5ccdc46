-- The digits of bytes: of bytes that come in two parts, and by the halves of each byte.
use Rattle.std.proofs.Common.{◌≡◌, ℕ, ◌/◌, ◌%◌, ◌<◌, slice_index, List, [], ◌∷◌, ◌++◌, map, refl, ap, ◌∙◌, arith}
use Rattle.std.specs.List.{range_with_len}
use Rattle.std.proofs.lemmas.List.Elements.{All-head, All-tail}
use Rattle.std.proofs.lemmas.List.FromFn.{get_or-range_with_len}
use Rattle.hex.specs.Hex.{encode_with, encode_lower, lower_digits}
use Rattle.page_source.specs.Pages.{AreBytes}
use Rattle.row_text.specs.calls.Bytes.{halves, half_digit}

pub encode_append : (t a b : List ℕ) → encode_with t (a ++ b) ≡ encode_with t a ++ encode_with t b
unfolding encode_with
encode_append t [] b = refl
encode_append t (x ∷ a) b =
    ap (λ (ds : List ℕ). slice_index t (x / 16) ∷ slice_index t (x % 16) ∷ ds) (encode_append t a b)

-- a half of a byte, by its table
pub half_is : (half : ℕ) → half < 16 → slice_index (range_with_len 0 16) half ≡ half
half_is half few = omega (arith, get_or-range_with_len 0 16 half 0 few)

digit_of_half : (half : ℕ) → half < 16
    → half_digit (slice_index (range_with_len 0 16) half) ≡ slice_index lower_digits half
digit_of_half half few =
    let same : slice_index (range_with_len 0 16) half % 16 ≡ half = omega (arith, half_is half few, few) in
    ap (λ (n : ℕ). slice_index lower_digits n) same

pub digits_of_halves : (bytes : List ℕ) → AreBytes bytes → map half_digit (halves bytes) ≡ encode_lower bytes
unfolding encode_with
digits_of_halves [] are = refl
digits_of_halves (b ∷ rest) are =
    let byte : b < 256 = All-head (λ (x : ℕ). x < 256) b rest are in
    ap (λ (d : ℕ). d ∷ half_digit (slice_index (range_with_len 0 16) (b % 16)) ∷ map half_digit (halves rest))
    (digit_of_half (b / 16) (omega (arith, byte)))
    ∙ ap (λ (d : ℕ). slice_index lower_digits (b / 16) ∷ d ∷ map half_digit (halves rest))
    (digit_of_half (b % 16) (omega arith))
    ∙ ap (λ (ds : List ℕ). slice_index lower_digits (b / 16) ∷ slice_index lower_digits (b % 16) ∷ ds)
    (digits_of_halves rest (All-tail (λ (x : ℕ). x < 256) b rest are))
