-- The text of a value, or of no value, in a column.
use Rattle.std.proofs.Common.{◌≡◌, ℕ, suc, ◌+◌, ◌/◌, ◌%◌, ◌^◌, ◌<◌, ◌≤◌, ◌⊎◌, List, [], ◌∷◌, ◌++◌, length, inl, inr}
use Rattle.std.proofs.Common.{get_or}
use Rattle.std.proofs.Common.{refl, sym, ap, ◌∙◌, ℤ, pos, negsuc, true, false, arith, append_assoc, eqb}
use Rattle.std.specs.Prelude.{codes, unsigned_abs}
use Rattle.std.specs.Fmt.{decimal, signed_decimal}
use lib.Signed.{mag}
use Rattle.std.proofs.lemmas.Bool.{cases_eq, eq-eqb, cond-true}
use Rattle.std.proofs.lemmas.List.{append_cancel_left}
use Rattle.column_values.specs.declared.kind.ColumnType.{ColumnType}
use Rattle.column_values.specs.declared.kind.ColumnType.TheVariants as types
use Rattle.column_values.specs.declared.value.Value.{Value}
use Rattle.column_values.specs.declared.value.Value.TheVariants as values
use Rattle.column_values.specs.Types.{IsColumnType}
use Rattle.column_values.specs.Spell.{Spell, IsValueOf}
use Rattle.schema_text.specs.declared.table.Column.{Column}
use Rattle.row_text.specs.Digits.{four_digits, behind_point, whole_text, decimal_text}
use Rattle.row_text.specs.Values.{quoted, hex_text, hex_or_empty, value_text, date_text, moment_text}
use Rattle.row_text.specs.Line.{FitsColumn}
use Rattle.row_text.specs.calls.Values.{EndsValue}
use Rattle.row_text.proofs.OneNumber.{first_digit, whole_plus, whole_minus, hex_of_some}
use Rattle.row_text.proofs.OneText.{one_text, units_low, signed_is}
use Rattle.row_text.proofs.Shapes.{shape, shapes_apart, unsigned_low}

-- no type has the value null
null_spells : (kind : ColumnType) (bytes : List ℕ) → Spell kind values.Null bytes → ⊥
null_spells (types.Int w true) bytes spell = spell
null_spells (types.Int w false) bytes spell = spell
null_spells types.Date bytes spell = spell
null_spells (types.Char n) bytes spell = spell
null_spells (types.Varchar n) bytes spell = spell
null_spells (types.Binary n) bytes spell = spell
null_spells (types.Varbinary n) bytes spell = spell
null_spells (types.Text n) bytes spell = spell
null_spells (types.Blob n) bytes spell = spell
null_spells (types.Utf8Varchar n) bytes spell = spell
null_spells (types.Utf8Text n) bytes spell = spell
null_spells (types.DateTime f) bytes spell = spell
null_spells (types.Timestamp f) bytes spell = spell
null_spells types.Year bytes spell = spell
null_spells (types.Decimal p s) bytes spell = spell

-- a value of a column is null or one of its type
abbrev pub IsNullOr : Column → Value → Type 0
IsNullOr column value = ((value ≡ values.Null) × (column.nullable ≡ true)) ⊎ IsValueOf column.kind value

pub fits_cases : (column : Column) (value : Value) → FitsColumn column value → IsNullOr column value
fits_cases column values.Null fits = inl (refl, fits)
fits_cases column (values.Signed z) fits = inr fits
fits_cases column (values.Unsigned n) fits = inr fits
fits_cases column (values.Date y m d) fits = inr fits
fits_cases column (values.Text t) fits = inr fits
fits_cases column (values.Bytes t) fits = inr fits
fits_cases column (values.DateTime y mo d h mi s n) fits = inr fits
fits_cases column (values.Timestamp s n) fits = inr fits
fits_cases column (values.Year y) fits = inr fits
fits_cases column (values.Decimal u) fits = inr fits

pub value_fits : (column : Column) (value : Value) → IsValueOf column.kind value → FitsColumn column value
value_fits column values.Null (bytes, are, spell) = absurd (null_spells column.kind bytes spell)
value_fits column (values.Signed z) is = is
value_fits column (values.Unsigned n) is = is
value_fits column (values.Date y m d) is = is
value_fits column (values.Text t) is = is
value_fits column (values.Bytes t) is = is
value_fits column (values.DateTime y mo d h mi s n) is = is
value_fits column (values.Timestamp s n) is = is
value_fits column (values.Year y) is = is
value_fits column (values.Decimal u) is = is

-- the first byte of a value's text is a quote, a sign or a digit
signed_head : (z : ℤ) (rest t : List ℕ) (b : ℕ) → mag z < 2 ^ 63 → signed_decimal z ++ rest ≡ b ∷ t → b ≤ 57
signed_head (pos n) rest t b low e = (first_digit n rest t b (omega (arith, low)) e).1
signed_head (negsuc n) rest t b low e = let is : 45 ≡ b = ap (λ (l : List ℕ). get_or l 0 0) e in omega (arith, is)

quote_head : (inside rest t : List ℕ) (b : ℕ) → quoted inside ++ rest ≡ b ∷ t → b ≤ 57
quote_head inside rest t b e = let is : 39 ≡ b = ap (λ (l : List ℕ). get_or l 0 0) e in omega (arith, is)

hex_head : (raw rest t : List ℕ) (b : ℕ) → hex_text raw ++ rest ≡ b ∷ t → b ≤ 57
hex_head raw rest t b e = let is : 48 ≡ b = ap (λ (l : List ℕ). get_or l 0 0) e in omega (arith, is)

empty : (raw : List ℕ) → length raw ≡ 0 → hex_or_empty raw ≡ quoted []
empty raw none = cond-true (eqb (length raw) 0) (quoted []) (hex_text raw) (eq-eqb (length raw) 0 none)

raw_head : (raw rest t : List ℕ) (b : ℕ) → hex_or_empty raw ++ rest ≡ b ∷ t → b ≤ 57
raw_head raw rest t b e = elim (cases_eq (length raw) 0) [
  | inl none ↦ quote_head [] rest t b (ap (λ (l : List ℕ). l ++ rest) (sym (empty raw none)) ∙ e)
  | inr some ↦ hex_head raw rest t b (ap (λ (l : List ℕ). l ++ rest) (sym (hex_of_some raw some)) ∙ e)
]

year_head : (y : ℕ) (rest t : List ℕ) (b : ℕ) → four_digits y ++ rest ≡ b ∷ t → b ≤ 57
year_head y rest t b e =
    let is : 48 + y / 100 / 10 % 10 ≡ b = ap (λ (l : List ℕ). get_or l 0 0) e in omega (arith, is)

units_head : (s : ℕ) (u : ℤ) (rest t : List ℕ) (b : ℕ) → unsigned_abs u < 10 ^ 64 → decimal_text s u ++ rest ≡ b ∷ t
    → b ≤ 57
units_head s (pos n) rest t b low e =
    let f : decimal (n / 10 ^ s) ++ (behind_point s n ++ rest) ≡ b ∷ t =
    ap (λ (l : List ℕ). l ++ (behind_point s n ++ rest)) (sym (whole_plus s n))
    ∙ sym (append_assoc (whole_text s (pos n)) (behind_point s n) rest) ∙ e in
    (first_digit (n / 10 ^ s) (behind_point s n ++ rest) t b (omega (arith, low)) f).1
units_head s (negsuc n) rest t b low e =
    let f : 45 ∷ decimal (suc n / 10 ^ s) ++ (behind_point s (suc n) ++ rest) ≡ b ∷ t =
    ap (λ (l : List ℕ). l ++ (behind_point s (suc n) ++ rest)) (sym (whole_minus s n))
    ∙ sym (append_assoc (whole_text s (negsuc n)) (behind_point s (suc n)) rest) ∙ e in
    let is : 45 ≡ b = ap (λ (l : List ℕ). get_or l 0 0) f in omega (arith, is)

text_head : (kind : ColumnType) (value : Value) (rest t : List ℕ) (b : ℕ) → IsColumnType kind
    → IsValueOf kind value → value_text kind value ++ rest ≡ b ∷ t → b ≤ 57
text_head (types.Int w true) (values.Signed z) rest t b known is e = signed_head z rest t b (signed_is w z known is) e
text_head (types.Int w false) (values.Unsigned n) rest t b known is e =
    (first_digit n rest t b (omega (arith, unsigned_low w n known is)) e).1
text_head types.Date (values.Date y m d) rest t b known is e = quote_head (date_text y m d) rest t b e
text_head (types.Char n) (values.Text s) rest t b known is e = quote_head _ rest t b e
text_head (types.Varchar n) (values.Text s) rest t b known is e = quote_head _ rest t b e
text_head (types.Text n) (values.Text s) rest t b known is e = quote_head _ rest t b e
text_head (types.Utf8Varchar n) (values.Text s) rest t b known is e = quote_head _ rest t b e
text_head (types.Utf8Text n) (values.Text s) rest t b known is e = quote_head _ rest t b e
text_head (types.Binary n) (values.Bytes raw) rest t b known is e = hex_head raw rest t b e
text_head (types.Varbinary n) (values.Bytes raw) rest t b known is e = raw_head raw rest t b e
text_head (types.Blob n) (values.Bytes raw) rest t b known is e = raw_head raw rest t b e
text_head (types.DateTime f) (values.DateTime y mo d h mi s n) rest t b known is e =
    quote_head (moment_text f y mo d h mi s n) rest t b e
text_head (types.Timestamp f) (values.Timestamp s n) rest t b known is e = quote_head _ rest t b e
text_head types.Year (values.Year y) rest t b known is e = year_head y rest t b e
text_head (types.Decimal p s) (values.Decimal u) rest t b known is e =
    units_head s u rest t b (units_low p s u known is) e
text_head (types.Int w true) _ rest t b known is e = absurd is.2
text_head (types.Int w false) _ rest t b known is e = absurd is.2
text_head types.Date _ rest t b known is e = absurd is.2
text_head (types.Char n) _ rest t b known is e = absurd is.2
text_head (types.Varchar n) _ rest t b known is e = absurd is.2
text_head (types.Text n) _ rest t b known is e = absurd is.2
text_head (types.Utf8Varchar n) _ rest t b known is e = absurd is.2
text_head (types.Utf8Text n) _ rest t b known is e = absurd is.2
text_head (types.Binary n) _ rest t b known is e = absurd is.2
text_head (types.Varbinary n) _ rest t b known is e = absurd is.2
text_head (types.Blob n) _ rest t b known is e = absurd is.2
text_head (types.DateTime f) _ rest t b known is e = absurd is.2
text_head (types.Timestamp f) _ rest t b known is e = absurd is.2
text_head types.Year _ rest t b known is e = absurd is.2
text_head (types.Decimal p s) _ rest t b known is e = absurd is.2

-- no value's text begins as that of no value
pub no_null_text : (kind : ColumnType) (value : Value) (rest t : List ℕ) → IsColumnType kind → IsValueOf kind value
    → value_text kind value ++ rest ≡ codes "NULL" ++ t → ⊥
no_null_text kind value rest t known is e =
    let low = text_head kind value rest (codes "ULL" ++ t) 78 known is e in omega (arith, low)

-- a value ends where it ends, and its text is that of no other
one_value : (kind : ColumnType) (v u : Value) (x y : List ℕ) → IsColumnType kind → IsValueOf kind v
    → IsValueOf kind u → value_text kind v ++ x ≡ value_text kind u ++ y → EndsValue x → EndsValue y
    → (v ≡ u) × (x ≡ y)
one_value kind v u x y known a b e ex ey =
    let apart = shapes_apart (value_text kind v) (value_text kind u) x y (shape kind v known a) (shape kind u known b)
    e ex ey in
    (one_text kind v u known a b apart.0, apart.1)

pub one_column : (column : Column) (v u : Value) (x y : List ℕ) → IsColumnType column.kind → FitsColumn column v
    → FitsColumn column u → value_text column.kind v ++ x ≡ value_text column.kind u ++ y → EndsValue x → EndsValue y
    → (v ≡ u) × (x ≡ y)
one_column column v u x y known a b e ex ey = elim (fits_cases column v a) [
  | inl none ↦ elim (fits_cases column u b) [
    | inl none2 ↦ (
      none.0 ∙ sym none2.0,
      append_cancel_left (codes "NULL") x y
          (ap (λ (w : Value). value_text column.kind w ++ x) (sym none.0) ∙ e
          ∙ ap (λ (w : Value). value_text column.kind w ++ y) none2.0),
    )
    | inr is2 ↦ absurd (no_null_text column.kind u y x known is2 (sym e
        ∙ ap (λ (w : Value). value_text column.kind w ++ x) none.0))
  ]
  | inr is ↦ elim (fits_cases column u b) [
    | inl none2 ↦ absurd (no_null_text column.kind v x y known is (e
        ∙ ap (λ (w : Value). value_text column.kind w ++ y) none2.0))
    | inr is2 ↦ one_value column.kind v u x y known is is2 e ex ey
  ]
]
