-- The bytes of dates, moments and years.
use Rattle.std.proofs.Common.{◌≡◌, ℕ, zero, suc, ◌+◌, ◌-◌, ◌*◌, ◌/◌, ◌^◌, ◌<◌, ◌≤◌, eqb, true, false, List, ◌++◌}
use Rattle.std.proofs.Common.{length, drop, refl, sym, ap, ◌∙◌, inl, inr, arith, length-append}
use Rattle.byteorder.specs.Numbers.{length-bytes_high_first}
use Rattle.std.proofs.lemmas.Bool.{cases_lt}
use Rattle.std.proofs.lemmas.Bool.Decides.{nat_tests}
use Rattle.std.proofs.lemmas.List.Elements.{All-append}
use Rattle.std.proofs.Math.Seq.{drop_at}
use Rattle.page_source.specs.Pages.{num, be_bytes, AreBytes}
use Rattle.column_values.specs.declared.kind.ColumnType.TheVariants as types
use Rattle.column_values.specs.declared.value.Value.TheVariants as values
use Rattle.column_values.specs.Lengths.{fraction_length}
use Rattle.column_values.specs.Moments.{fraction_unit, fraction_bytes, IsFraction, SpellsFraction, IsMoment}
use Rattle.column_values.specs.Moments.{packed_moment, IsTimestamp, IsYear, year_of, year_byte}
use Rattle.column_values.specs.Spell.{packed_date, IsSpelled, IsValueOf}
use Rattle.column_values.proofs.Bytes.{are_be_bytes, num-be_bytes}
use Rattle.column_values.proofs.IntegerValues.{num-written, num-below}

pub date_spelled : (year month day : ℕ) (bytes : List ℕ) → year ≤ 9999 → month ≤ 12 → day ≤ 31
    → bytes ≡ be_bytes 3 (packed_date year month day) → IsSpelled types.Date (values.Date year month day) bytes
date_spelled year month day bytes y m d is =
    let fits : packed_date year month day < 256 ^ 3 = omega arith in
    rw is (record {
      are_bytes = are_be_bytes 3 (packed_date year month day);
      spell = record {
        size = length-bytes_high_first 3 (packed_date year month day);
        packed =
            num-written 3 (packed_date year month day) fits;
        greatest_year = y;
        greatest_month = m;
        greatest_day = d;
      };
      same = refl;
    })

-- the fractions in bytes
pub fraction_fits : (f micro : ℕ) → f ≤ 6 → micro < 1000000 → micro / fraction_unit f < 256 ^ fraction_length f
fraction_fits zero micro h low = omega arith
fraction_fits (suc zero) micro h low = omega arith
fraction_fits (suc (suc zero)) micro h low = omega arith
fraction_fits (suc (suc (suc zero))) micro h low = omega arith
fraction_fits (suc (suc (suc (suc zero)))) micro h low = omega arith
fraction_fits (suc (suc (suc (suc (suc zero))))) micro h low = omega arith
fraction_fits (suc (suc (suc (suc (suc (suc zero)))))) micro h low = omega arith
fraction_fits (suc (suc (suc (suc (suc (suc (suc f))))))) micro h low = absurd (omega arith)

fraction_whole : (f micro : ℕ) → f ≤ 6 → IsFraction f micro → micro ≡ micro / fraction_unit f * fraction_unit f
fraction_whole zero micro h is = omega (arith, is.below, is.digits)
fraction_whole (suc zero) micro h is = omega (arith, is.below, is.digits)
fraction_whole (suc (suc zero)) micro h is = omega (arith, is.below, is.digits)
fraction_whole (suc (suc (suc zero))) micro h is = omega (arith, is.below, is.digits)
fraction_whole (suc (suc (suc (suc zero)))) micro h is = omega (arith, is.below, is.digits)
fraction_whole (suc (suc (suc (suc (suc zero))))) micro h is = omega (arith, is.below, is.digits)
fraction_whole (suc (suc (suc (suc (suc (suc zero)))))) micro h is = omega (arith, is.below, is.digits)
fraction_whole (suc (suc (suc (suc (suc (suc (suc f))))))) micro h is = absurd (omega arith)

fraction_written : (f micro : ℕ) → f ≤ 6 → IsFraction f micro → SpellsFraction f micro (fraction_bytes f micro)
fraction_written f micro h is = record {
  size = length-bytes_high_first (fraction_length f) (micro / fraction_unit f);
  units = fraction_whole f micro h is ∙ ap (λ (n : ℕ). n * fraction_unit f)
      (sym (num-written (fraction_length f) (micro / fraction_unit f) (fraction_fits f micro h is.below)));
  is_fraction = is;
}

-- a number, and the fraction behind it
module _ (w n f micro : ℕ) (fits : n < 256 ^ w) where
  length-both : length (be_bytes w n ++ fraction_bytes f micro) ≡ w + fraction_length f
  length-both =
      length-append (be_bytes w n) (fraction_bytes f micro)
      ∙ (λ i. length-bytes_high_first w n i + length-bytes_high_first (fraction_length f) (micro / fraction_unit f) i)

  are_both : AreBytes (be_bytes w n ++ fraction_bytes f micro)
  are_both = All-append (λ (b : ℕ). b < 256) (be_bytes w n) (fraction_bytes f micro) (are_be_bytes w n)
      (are_be_bytes (fraction_length f) (micro / fraction_unit f))

  number_both : num (be_bytes w n ++ fraction_bytes f micro) 0 w ≡ n
  number_both = num-be_bytes w n (fraction_bytes f micro) fits

  behind : drop w (be_bytes w n ++ fraction_bytes f micro) ≡ fraction_bytes f micro
  behind = drop_at (be_bytes w n) (fraction_bytes f micro) w (length-bytes_high_first w n)

pub moment_spelled : (f year month day hour minute second micro : ℕ) (bytes : List ℕ) → f ≤ 6
    → IsMoment year month day hour minute second → IsFraction f micro
    → bytes ≡ be_bytes 5 (2 ^ 39 + packed_moment year month day hour minute second) ++ fraction_bytes f micro
    → IsSpelled (types.DateTime f) (values.DateTime year month day hour minute second micro) bytes
moment_spelled f year month day hour minute second micro bytes h moment is wrote =
    let n : ℕ = 2 ^ 39 + packed_moment year month day hour minute second in
    let fits : n < 256 ^ 5 = omega (
      arith,
      moment.greatest_year,
      moment.greatest_month,
      moment.greatest_day,
      moment.greatest_hour,
      moment.greatest_minute,
      moment.greatest_second,
    ) in
    rw wrote (record {
      are_bytes = are_both 5 n f micro fits;
      spell = record {
        size = length-both 5 n f micro fits;
        is_moment = moment;
        packed =
            number_both 5 n f micro fits;
        fraction = rw (behind 5 n f micro fits) (fraction_written f micro h is);
      };
      same = refl;
    })

pub timestamp_spelled : (f seconds micro : ℕ) (bytes : List ℕ) → f ≤ 6 → IsTimestamp f seconds micro
    → bytes ≡ be_bytes 4 seconds ++ fraction_bytes f micro
    → IsSpelled (types.Timestamp f) (values.Timestamp seconds micro) bytes
timestamp_spelled f seconds micro bytes h is wrote =
    let fits : seconds < 256 ^ 4 = omega (arith, is.most) in
    rw wrote (record {
      are_bytes = are_both 4 seconds f micro fits;
      spell = record {
        size = length-both 4 seconds f micro fits;
        counted =
            number_both 4 seconds f micro fits;
        is_timestamp = is;
        fraction =
            rw (behind 4 seconds f micro fits) (fraction_written f micro h is.is_fraction);
      };
      same = refl;
    })

year_read : (year : ℕ) → IsYear year → year ≡ year_of (year - 1900)
year_read year h = elim h [
  | inl none ↦ rw none refl
  | inr some ↦ let e : eqb (year - 1900) 0 ≡ false =
      grind (arith, nat_tests) in rw e (omega arith)
]

pub year_spelled : (year : ℕ) (bytes : List ℕ) → IsYear year → bytes ≡ year_byte year
    → IsSpelled types.Year (values.Year year) bytes
year_spelled year bytes h wrote =
    let fits : year - 1900 < 256 ^ 1 = elim h [ inl none ↦ omega arith | inr some ↦ omega arith ] in
    rw wrote (record {
      are_bytes = are_be_bytes 1 (year - 1900);
      spell = record {
        size = length-bytes_high_first 1 (year - 1900);
        counted = year_read year h
            ∙ ap year_of (sym (num-written 1 (year - 1900) fits));
      };
      same = refl;
    })

year_of_byte : (byte year : ℕ) → byte < 256 → year ≡ year_of byte → IsYear year
year_of_byte byte year low is =
    elim (cases_lt 0 byte) [
      | inl some ↦ let e : eqb byte 0 ≡ false = grind (arith, nat_tests) in let y : year ≡ 1900 + byte =
          rw e at is in inr (omega arith, omega arith)
      | inr none ↦ let e : eqb byte 0 ≡ true = grind (arith, nat_tests) in let y : year ≡ 0 = rw e at is in inl y
    ]

pub year_in_range : (year : ℕ) → IsValueOf types.Year (values.Year year) → IsYear year
year_in_range year (bytes, are, spell) = year_of_byte (num bytes 0 1) year
    (num-below 1 bytes spell.size are) spell.counted
