-- What the length of one part says when it is read.
use Rattle.std.proofs.Common.{◌≡◌, ℕ, ◌+◌, ◌*◌, ◌/◌, ◌%◌, ◌<◌, ◌≤◌, ◌==◌, Bool, true, false, ◌&&◌, not, cond, nat_le}
use Rattle.std.proofs.Common.{nat_lt}
use Rattle.std.proofs.Common.{if◌then◌else◌, List, [], ◌∷◌, length, get_or, refl, sym, arith, inl, inr, eq-eqb, lit<}
use Rattle.std.proofs.lemmas.Bool.{cases_lt, false≢true, le-leb, lt-leb, lt-ltb, le-ltb, ne_eqb}
use Rattle.column_values.specs.declared.field.Field.{Field}
use Rattle.column_values.specs.Types.{is_variable, is_big}
use Rattle.compact_record.specs.declared.parts.Part.{Part}
use Rattle.compact_record.specs.declared.parts.Part.TheVariants.{Null, Bytes}
use Rattle.compact_record.specs.Reading.{bit_of}
use Rattle.compact_record.specs.Writing.{is_null_part, is_external_part, local_bytes, length_of_part}

-- the length of a part, by whether its field is variable and big
abbrev pub spelled_length : Bool → Bool → Part → List ℕ
spelled_length variable big Null = []
spelled_length variable big (Bytes bytes true) =
    if variable then (192 + length bytes / 256) ∷ (length bytes % 256) ∷ [] else []
spelled_length variable big (Bytes bytes false) =
    if variable then (if big && nat_lt 127 (length bytes) then (128 + length bytes / 256) ∷ (length bytes % 256) ∷ []
    else length bytes ∷ []) else []

pub spelled_length_is : (field : Field) (part : Part)
    → length_of_part (field, part) ≡ spelled_length (is_variable field.kind) (is_big field.kind) part
spelled_length_is field Null = refl
spelled_length_is field (Bytes bytes true) = refl
spelled_length_is field (Bytes bytes false) = refl

-- the part fits a field that is so
abbrev pub FitsSo : Bool → Bool → ℕ → Part → Type 0
FitsSo variable big fixed Null = Unit {0}
FitsSo variable big fixed (Bytes bytes true) =
    (variable ≡ true) × (big ≡ true) × (20 ≤ length bytes) × (length bytes < 16384)
FitsSo variable big fixed (Bytes bytes false) =
    (variable ≡ false → length bytes ≡ fixed)
    × (variable ≡ true → length bytes < (if big then 16384 else 256))

-- a long length is one of two bytes, whose first one is at least 128
abbrev pub is_long_at : Bool → Bool → ℕ → Part → Bool
is_long_at variable big first part = (variable && not (is_null_part part)) && (big && nat_le 128 first)

-- the number that two bytes spell, or one
abbrev pub length_from : Bool → ℕ → ℕ → ℕ
length_from true first second = first % 64 * 256 + second
length_from false first second = first

-- what is read of these two bytes
pub record SaysPart (variable big : Bool) (fixed first second : ℕ) (part : Part) : Type 0 where
  pub taken : cond (variable && not (is_null_part part)) (cond (is_long_at variable big first part) 2 1) 0
      ≡ length (spelled_length variable big part)
  pub external : (is_long_at variable big first part && bit_of first 6) ≡ is_external_part part
  pub local : cond (is_null_part part) 0
      (cond variable (length_from (is_long_at variable big first part) first second) fixed)
      ≡ length (local_bytes part)
  pub shortest : is_long_at variable big first part ≡ true → is_external_part part ≡ false
      → 128 ≤ length (local_bytes part)

-- the bytes are those of the length, as far as it has them
abbrev pub HasLength : Bool → Bool → Part → ℕ → ℕ → Type 0
HasLength variable big part first second =
    (0 < length (spelled_length variable big part) → first ≡ get_or (spelled_length variable big part) 0 0)
    × (1 < length (spelled_length variable big part) → second ≡ get_or (spelled_length variable big part) 1 0)

none_at : (variable big : Bool) (fixed first second : ℕ) → SaysPart variable big fixed first second Null
none_at true big fixed first second =
    record { taken = refl; external = refl; local = refl; shortest = λ long no. absurd (false≢true long) }
none_at false big fixed first second =
    record { taken = refl; external = refl; local = refl; shortest = λ long no. absurd (false≢true long) }

external_at : (fixed first second : ℕ) (bytes : List ℕ) → length bytes < 16384
    → first ≡ 192 + length bytes / 256 → second ≡ length bytes % 256
    → SaysPart true true fixed first second (Bytes bytes true)
external_at fixed first second bytes few here there =
    let long : nat_le 128 first ≡ true = le-leb 128 first (omega arith) in
    let bit : (first / 64 % 2 == 1) ≡ true = eq-eqb _ _ (omega arith) in
    let value : first % 64 * 256 + second ≡ length bytes = omega arith in
    record {
      taken = rw long refl;
      external = rw (long, bit) refl;
      local = rw long value;
      shortest = λ is no. absurd (false≢true (sym no));
    }

long_at : (fixed first second : ℕ) (bytes : List ℕ) → length bytes < 16384 → 127 < length bytes
    → first ≡ 128 + length bytes / 256 → second ≡ length bytes % 256
    → SaysPart true true fixed first second (Bytes bytes false)
long_at fixed first second bytes few many here there =
    let long : nat_le 128 first ≡ true = le-leb 128 first (omega arith) in
    let bit : (first / 64 % 2 == 1) ≡ false = ne_eqb _ _ (λ e. omega (arith, e)) in
    let value : first % 64 * 256 + second ≡ length bytes = omega arith in
    let over : nat_lt 127 (length bytes) ≡ true = lt-ltb 127 (length bytes) many in
    record {
      taken = rw (long, over) refl;
      external = rw (long, bit) refl;
      local = rw long value;
      shortest = λ is no. omega arith;
    }

short_at : (fixed first second : ℕ) (bytes : List ℕ) → length bytes ≤ 127 → first ≡ length bytes
    → SaysPart true true fixed first second (Bytes bytes false)
short_at fixed first second bytes few here =
    let short : nat_le 128 first ≡ false = lt-leb 128 first (omega arith) in
    let over : nat_lt 127 (length bytes) ≡ false = le-ltb 127 (length bytes) few in
    record {
      taken = rw (short, over) refl;
      external = rw short refl;
      local = rw short here;
      shortest = rw short (λ long no. absurd (false≢true long));
    }

pub says_part : (variable big : Bool) (fixed first second : ℕ) (part : Part) → FitsSo variable big fixed part
    → HasLength variable big part first second → SaysPart variable big fixed first second part
says_part variable big fixed first second Null fits has = none_at variable big fixed first second
says_part false big fixed first second (Bytes bytes true) fits has = absurd (false≢true fits.0)
says_part true false fixed first second (Bytes bytes true) fits has = absurd (false≢true fits.1)
says_part true true fixed first second (Bytes bytes true) fits has =
    external_at fixed first second bytes fits.3 (has.0 (lit< tt)) (has.1 (lit< tt))
says_part false big fixed first second (Bytes bytes false) fits has =
    record {
      taken = refl;
      external = refl;
      local = sym (fits.0 refl);
      shortest = λ long no. absurd (false≢true long);
    }
says_part true false fixed first second (Bytes bytes false) fits has =
    record {
      taken = refl;
      external = refl;
      local = has.0 (lit< tt);
      shortest = λ long no. absurd (false≢true long);
    }
says_part true true fixed first second (Bytes bytes false) fits has =
    elim (cases_lt 127 (length bytes)) [
      | inl many ↦
          let over : nat_lt 127 (length bytes) ≡ true = lt-ltb 127 (length bytes) many in
          let read = rw over at has in
          long_at fixed first second bytes (fits.1 refl) many (read.0 (lit< tt)) (read.1 (lit< tt))
      | inr few ↦
          let over : nat_lt 127 (length bytes) ≡ false = le-ltb 127 (length bytes) few in
          let read = rw over at has in
          short_at fixed first second bytes few (read.0 (lit< tt))
    ]
