-- Bits that are spelled as a number, and the null bits of a record's fields.
use Rattle.std.proofs.Common.{◌≡◌, ℕ, zero, suc, ◌+◌, ◌*◌, ◌/◌, ◌%◌, ◌^◌, ◌<◌, ◌==◌, Bool, true, false, cond, List}
use Rattle.std.proofs.Common.{[], ◌∷◌, length, get_or, take, drop, filter, flat_map, zip, refl, sym, ap, ◌∙◌, arith}
use Rattle.std.proofs.Common.{inl, inr, eq-eqb}
use Rattle.std.proofs.Math.Nat.{zero-div, div-div-eq-div-mul, pow-succ'}
use Rattle.std.proofs.lemmas.Bool.{cases_Bool}
use Rattle.std.proofs.lemmas.List.{get_or-take, get_or-drop}
use Rattle.column_values.specs.declared.field.Field.{Field}
use Rattle.column_values.specs.Types.{child_field}
use Rattle.compact_record.specs.declared.parts.Part.{Part}
use Rattle.compact_record.specs.declared.parts.Part.TheVariants.{Null}
use Rattle.compact_record.specs.Reading.{bit_of}
use Rattle.compact_record.specs.Writing.{is_null_part, null_bit, bits_value}

lowest_bit : (b : Bool) (v : ℕ) → ((cond b 1 0 + 2 * v) / 1 % 2 == 1) ≡ b
lowest_bit true v = let e : (1 + 2 * v) / 1 % 2 ≡ 1 = omega arith in eq-eqb _ _ e
lowest_bit false v = let e : (0 + 2 * v) / 1 % 2 ≡ 0 = omega arith in rw e refl

half : (b : Bool) (v : ℕ) → (cond b 1 0 + 2 * v) / 2 ≡ v
half true v = omega arith
half false v = omega arith

-- bit k of the number that bits spell is the k-th of them
pub bit_of-bits_value : (bits : List Bool) (k : ℕ) → bit_of (bits_value bits) k ≡ get_or bits k false
bit_of-bits_value [] k = let e : 0 / 2 ^ k ≡ 0 = zero-div (2 ^ k) in rw e refl
bit_of-bits_value (b ∷ bits) zero = lowest_bit b (bits_value bits)
bit_of-bits_value (b ∷ bits) (suc k) =
    let n : ℕ = cond b 1 0 + 2 * bits_value bits in
    let e : n / 2 ^ suc k ≡ bits_value bits / 2 ^ k =
    ap (λ (d : ℕ). n / d) (pow-succ' 2 k) ∙ sym (div-div-eq-div-mul n 2 (2 ^ k))
    ∙ ap (λ (m : ℕ). m / 2 ^ k) (half b (bits_value bits)) in
    ap (λ (m : ℕ). m % 2 == 1) e ∙ bit_of-bits_value bits k

-- bit n of many stands in byte n / 8
pub bit_of_byte : (bits : List Bool) (n : ℕ)
    → bit_of (bits_value (take 8 (drop (8 * (n / 8)) bits))) (n % 8) ≡ get_or bits n false
bit_of_byte bits n =
    let low : n % 8 < 8 = omega arith in
    let e : 8 * (n / 8) + n % 8 ≡ n = omega arith in
    bit_of-bits_value (take 8 (drop (8 * (n / 8)) bits)) (n % 8)
    ∙ get_or-take 8 (drop (8 * (n / 8)) bits) (n % 8) false low ∙ get_or-drop (8 * (n / 8)) bits (n % 8) false
    ∙ ap (λ (k : ℕ). get_or bits k false) e

-- how many of the first i fields may be null
abbrev pub nulls : List Field → ℕ → ℕ
nulls fs i = length (filter (λ (f : Field). f.nullable) (take i fs))

-- the null bit of field i stands behind those of the nullable fields before it
pub null_bit_at : (fs : List Field) (ps : List Part) (i : ℕ) → length fs ≡ length ps → i < length fs
    → (get_or fs i child_field).nullable ≡ true
    → get_or (flat_map null_bit (zip fs ps)) (nulls fs i) false ≡ is_null_part (get_or ps i Null)
null_bit_at [] ps i same below may = absurd (omega arith)
null_bit_at (f ∷ fs) [] i same below may = absurd (omega arith)
null_bit_at (f ∷ fs) (p ∷ ps) zero same below may = rw may refl
null_bit_at (f ∷ fs) (p ∷ ps) (suc i) same below may =
    let rest = null_bit_at fs ps i (omega arith) (omega arith) may in
    elim (cases_Bool f.nullable) [ inl may_be ↦ rw may_be rest | inr never ↦ rw never rest ]

-- it is one of the bits
pub nulls_below : (fs : List Field) (i : ℕ) → i < length fs → (get_or fs i child_field).nullable ≡ true
    → nulls fs i < length (filter (λ (f : Field). f.nullable) fs)
nulls_below [] i below may = absurd (omega arith)
nulls_below (f ∷ fs) zero below may = rw may (omega arith)
nulls_below (f ∷ fs) (suc i) below may =
    let rest = nulls_below fs i (omega arith) may in
    elim (cases_Bool f.nullable) [ inl may_be ↦ rw may_be (omega (arith, rest)) | inr never ↦ rw never rest ]
