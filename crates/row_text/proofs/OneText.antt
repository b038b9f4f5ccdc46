-- A value of a column has one text, and a text is that of one value.
use Rattle.std.proofs.Common.{◌≡◌, ℕ, ◌^◌, ◌<◌, [], ◌∷◌}
use Rattle.std.proofs.Common.{refl, ap, subst, ℤ, pos, negsuc, Bool, true, false, arith}
use Rattle.std.specs.Prelude.{unsigned_abs}
use lib.Signed.{mag}
use Rattle.std.proofs.lemmas.Int.{ints}
use Rattle.std.proofs.lemmas.Fmt.{signed_decimal_injective}
use Rattle.page_source.specs.Pages.{AreBytes}
use Rattle.column_values.specs.declared.kind.ColumnType.{ColumnType}
use Rattle.column_values.specs.declared.kind.ColumnType.TheVariants as types
use Rattle.column_values.specs.declared.value.Value.{Value}
use Rattle.column_values.specs.declared.value.Value.TheVariants as values
use Rattle.column_values.specs.Types.{IsColumnType}
use Rattle.column_values.specs.Moments.{IsMoment, IsFraction}
use Rattle.column_values.specs.Spell.{IsValueOf, IsInRange}
use Rattle.column_values.proofs.IntegerValues.{integer_in_range}
use Rattle.column_values.proofs.MomentValues.{year_in_range}
use Rattle.column_values.proofs.Numbers.{half_is_most}
use Rattle.row_text.specs.Values.{date_text, moment_text, time_text}
use Rattle.row_text.specs.Values.{timestamp_text, value_text}
use Rattle.row_text.proofs.FixedDigits.{four_injective}
use Rattle.row_text.proofs.OneMoment.{date_injective, time_injective, stamp_injective, IsLowDate, IsLowTime}
use Rattle.row_text.proofs.OneNumber.{decimal_one, decimal_text_one, quoted_one, inside_one, hex_one, raw_one}
use Rattle.row_text.proofs.Shapes.{unsigned_low, decimal_low}

signed_mag : (w : ℕ) (z : ℤ) → IsColumnType (types.Int w true) → IsInRange true w z → mag z < 2 ^ 63
signed_mag w (pos n) known range =
    let most = half_is_most w (omega (arith, known)) in omega (arith, ints, range.1, most)
signed_mag w (negsuc n) known range =
    let most = half_is_most w (omega (arith, known)) in omega (arith, ints, range.0, most)

pub signed_is : (w : ℕ) (z : ℤ) → IsColumnType (types.Int w true) → IsValueOf (types.Int w true) (values.Signed z)
    → mag z < 2 ^ 63
signed_is w z known is = signed_mag w z known
    (integer_in_range w true (values.Signed z) z (omega (arith, known)) refl is)

one_int : (w : ℕ) (s : Bool) (v u : Value) → IsColumnType (types.Int w s) → IsValueOf (types.Int w s) v
    → IsValueOf (types.Int w s) u → value_text (types.Int w s) v ≡ value_text (types.Int w s) u → v ≡ u
one_int w true (values.Signed y) (values.Signed z) known a b e =
    ap values.Signed (signed_decimal_injective y z (signed_is w y known a) (signed_is w z known b) e)
one_int w false (values.Unsigned m) (values.Unsigned n) known a b e =
    ap values.Unsigned (decimal_one m n (omega (arith, unsigned_low w m known a))
    (omega (arith, unsigned_low w n known b)) e)
one_int w true (values.Signed y) _ known a b e = absurd b.2
one_int w false (values.Unsigned m) _ known a b e = absurd b.2
one_int w true _ u known a b e = absurd a.2
one_int w false _ u known a b e = absurd a.2

one_date : (v u : Value) → IsValueOf types.Date v → IsValueOf types.Date u
    → value_text types.Date v ≡ value_text types.Date u → v ≡ u
one_date (values.Date y m d) (values.Date y2 m2 d2) (_, _, a) (_, _, b) e =
    let inside = inside_one (date_text y m d) (date_text y2 m2 d2) e in
    let same = date_injective y m d y2 m2 d2 [] []
    (record { year = a.greatest_year; month = a.greatest_month; day = a.greatest_day })
    (record { year = b.greatest_year; month = b.greatest_month; day = b.greatest_day }) inside in
    rw (same.year, same.month, same.day) refl
one_date (values.Date y m d) _ a b e = absurd b.2
one_date _ u a b e = absurd a.2

low_date : (year month day hour minute second : ℕ) → IsMoment year month day hour minute second
    → IsLowDate year month day
low_date year month day hour minute second is =
    record { year = is.greatest_year; month = is.greatest_month; day = is.greatest_day }

low_time : (f year month day hour minute second micro : ℕ) → IsMoment year month day hour minute second
    → IsFraction f micro → IsLowTime f hour minute second micro
low_time f year month day hour minute second micro is part = record {
  hour = is.greatest_hour;
  minute = is.greatest_minute;
  second = is.greatest_second;
  is_fraction = part;
}

one_moment : (f : ℕ) (v u : Value) → IsColumnType (types.DateTime f) → IsValueOf (types.DateTime f) v
    → IsValueOf (types.DateTime f) u → value_text (types.DateTime f) v ≡ value_text (types.DateTime f) u → v ≡ u
one_moment f (values.DateTime y mo d h mi s n) (values.DateTime y2 mo2 d2 h2 mi2 s2 n2) known (_, _, a) (_, _, b) e =
    let inside = inside_one (moment_text f y mo d h mi s n) (moment_text f y2 mo2 d2 h2 mi2 s2 n2) e in
    let date = date_injective y mo d y2 mo2 d2 (32 ∷ time_text f h mi s n) (32 ∷ time_text f h2 mi2 s2 n2)
    (low_date y mo d h mi s a.is_moment) (low_date y2 mo2 d2 h2 mi2 s2 b.is_moment) inside in
    let times : time_text f h mi s n ≡ time_text f h2 mi2 s2 n2 = cc (date.rest) in
    let time = time_injective f h mi s n h2 mi2 s2 n2 known
    (low_time f y mo d h mi s n a.is_moment a.fraction.is_fraction)
    (low_time f y2 mo2 d2 h2 mi2 s2 n2 b.is_moment b.fraction.is_fraction) times in
    rw (date.year, date.month, date.day, time.hour, time.minute, time.second, time.micro) refl
one_moment f (values.DateTime y mo d h mi s n) _ known a b e = absurd b.2
one_moment f _ u known a b e = absurd a.2

one_stamp : (f : ℕ) (v u : Value) → IsColumnType (types.Timestamp f) → IsValueOf (types.Timestamp f) v
    → IsValueOf (types.Timestamp f) u → value_text (types.Timestamp f) v ≡ value_text (types.Timestamp f) u → v ≡ u
one_stamp f (values.Timestamp s n) (values.Timestamp s2 n2) known (_, _, a) (_, _, b) e =
    let inside = inside_one (timestamp_text f s n) (timestamp_text f s2 n2) e in
    let same = stamp_injective f s n s2 n2 known a.is_timestamp.most b.is_timestamp.most a.is_timestamp.is_fraction
    b.is_timestamp.is_fraction inside in
    rw (same.seconds, same.micro) refl
one_stamp f (values.Timestamp s n) _ known a b e = absurd b.2
one_stamp f _ u known a b e = absurd a.2

year_low : (y : ℕ) → IsValueOf types.Year (values.Year y) → y < 10000
year_low y is = let range = year_in_range y is in omega (arith, range)

one_year : (v u : Value) → IsValueOf types.Year v → IsValueOf types.Year u
    → value_text types.Year v ≡ value_text types.Year u → v ≡ u
one_year (values.Year y) (values.Year z) a b e =
    ap values.Year (four_injective y z [] [] (year_low y a) (year_low z b) e).0
one_year (values.Year y) _ a b e = absurd b.2
one_year _ u a b e = absurd a.2

pub units_low : (p s : ℕ) (y : ℤ) → IsColumnType (types.Decimal p s) → IsValueOf (types.Decimal p s) (values.Decimal y)
    → unsigned_abs y < 10 ^ 64
units_low p s y known (_, _, a) = decimal_low p (unsigned_abs y) (omega (arith, known)) a.few

one_decimal : (p s : ℕ) (v u : Value) → IsColumnType (types.Decimal p s) → IsValueOf (types.Decimal p s) v
    → IsValueOf (types.Decimal p s) u → value_text (types.Decimal p s) v ≡ value_text (types.Decimal p s) u → v ≡ u
one_decimal p s (values.Decimal y) (values.Decimal z) known a b e =
    ap values.Decimal (decimal_text_one s y z (units_low p s y known a) (units_low p s z known b) e)
one_decimal p s (values.Decimal y) _ known a b e = absurd b.2
one_decimal p s _ u known a b e = absurd a.2

module _ (n : ℕ) where
  one_char : (v u : Value) → IsValueOf (types.Char n) v → IsValueOf (types.Char n) u
      → value_text (types.Char n) v ≡ value_text (types.Char n) u → v ≡ u
  one_char (values.Text s) (values.Text t) a b e = ap values.Text (quoted_one s t e)
  one_char (values.Text s) _ a b e = absurd b.2
  one_char _ u a b e = absurd a.2

  one_varchar : (v u : Value) → IsValueOf (types.Varchar n) v → IsValueOf (types.Varchar n) u
      → value_text (types.Varchar n) v ≡ value_text (types.Varchar n) u → v ≡ u
  one_varchar (values.Text s) (values.Text t) a b e = ap values.Text (quoted_one s t e)
  one_varchar (values.Text s) _ a b e = absurd b.2
  one_varchar _ u a b e = absurd a.2

  one_long : (v u : Value) → IsValueOf (types.Text n) v → IsValueOf (types.Text n) u
      → value_text (types.Text n) v ≡ value_text (types.Text n) u → v ≡ u
  one_long (values.Text s) (values.Text t) a b e = ap values.Text (quoted_one s t e)
  one_long (values.Text s) _ a b e = absurd b.2
  one_long _ u a b e = absurd a.2

  one_utf8_varchar : (v u : Value) → IsValueOf (types.Utf8Varchar n) v → IsValueOf (types.Utf8Varchar n) u
      → value_text (types.Utf8Varchar n) v ≡ value_text (types.Utf8Varchar n) u → v ≡ u
  one_utf8_varchar (values.Text s) (values.Text t) a b e = ap values.Text (quoted_one s t e)
  one_utf8_varchar (values.Text s) _ a b e = absurd b.2
  one_utf8_varchar _ u a b e = absurd a.2

  one_utf8_long : (v u : Value) → IsValueOf (types.Utf8Text n) v → IsValueOf (types.Utf8Text n) u
      → value_text (types.Utf8Text n) v ≡ value_text (types.Utf8Text n) u → v ≡ u
  one_utf8_long (values.Text s) (values.Text t) a b e = ap values.Text (quoted_one s t e)
  one_utf8_long (values.Text s) _ a b e = absurd b.2
  one_utf8_long _ u a b e = absurd a.2

  one_binary : (v u : Value) → IsValueOf (types.Binary n) v → IsValueOf (types.Binary n) u
      → value_text (types.Binary n) v ≡ value_text (types.Binary n) u → v ≡ u
  one_binary (values.Bytes s) (values.Bytes t) (_, are_s, a) (_, are_t, b) e =
      ap values.Bytes (hex_one s t (subst AreBytes a.1 are_s) (subst AreBytes b.1 are_t) e)
  one_binary (values.Bytes s) _ a b e = absurd b.2
  one_binary _ u a b e = absurd a.2

  one_varbinary : (v u : Value) → IsValueOf (types.Varbinary n) v → IsValueOf (types.Varbinary n) u
      → value_text (types.Varbinary n) v ≡ value_text (types.Varbinary n) u → v ≡ u
  one_varbinary (values.Bytes s) (values.Bytes t) (_, are_s, a) (_, are_t, b) e =
      ap values.Bytes (raw_one s t (subst AreBytes a.1 are_s) (subst AreBytes b.1 are_t) e)
  one_varbinary (values.Bytes s) _ a b e = absurd b.2
  one_varbinary _ u a b e = absurd a.2

  one_blob : (v u : Value) → IsValueOf (types.Blob n) v → IsValueOf (types.Blob n) u
      → value_text (types.Blob n) v ≡ value_text (types.Blob n) u → v ≡ u
  one_blob (values.Bytes s) (values.Bytes t) (_, are_s, a) (_, are_t, b) e =
      ap values.Bytes (raw_one s t (subst AreBytes a.1 are_s) (subst AreBytes b.1 are_t) e)
  one_blob (values.Bytes s) _ a b e = absurd b.2
  one_blob _ u a b e = absurd a.2

pub one_text : (kind : ColumnType) (v u : Value) → IsColumnType kind → IsValueOf kind v → IsValueOf kind u
    → value_text kind v ≡ value_text kind u → v ≡ u
one_text (types.Int w s) v u known a b e = one_int w s v u known a b e
one_text types.Date v u known a b e = one_date v u a b e
one_text (types.Char n) v u known a b e = one_char n v u a b e
one_text (types.Varchar n) v u known a b e = one_varchar n v u a b e
one_text (types.Binary n) v u known a b e = one_binary n v u a b e
one_text (types.Varbinary n) v u known a b e = one_varbinary n v u a b e
one_text (types.Text n) v u known a b e = one_long n v u a b e
one_text (types.Blob n) v u known a b e = one_blob n v u a b e
one_text (types.Utf8Varchar n) v u known a b e = one_utf8_varchar n v u a b e
one_text (types.Utf8Text n) v u known a b e = one_utf8_long n v u a b e
one_text (types.DateTime f) v u known a b e = one_moment f v u known a b e
one_text (types.Timestamp f) v u known a b e = one_stamp f v u known a b e
one_text types.Year v u known a b e = one_year v u a b e
one_text (types.Decimal p s) v u known a b e = one_decimal p s v u known a b e
