-- How long the bytes of a value are.
use Rattle.std.proofs.Common.{◌≡◌, ℕ, ◌*◌, ◌<◌, ◌≤◌, ◌^◌, true, false, List, length, arith}
use Rattle.std.proofs.Common.{inl, inr}
use Rattle.std.proofs.lemmas.Bool.{cases_lt, true≢false}
use Rattle.column_values.specs.declared.kind.ColumnType.{ColumnType}
use Rattle.column_values.specs.declared.kind.ColumnType.TheVariants as types
use Rattle.column_values.specs.declared.value.Value.{Value}
use Rattle.column_values.specs.declared.value.Value.TheVariants as values
use Rattle.column_values.specs.Types.{IsColumnType, IsLongLength, greatest_length, is_variable_kind}
use Rattle.column_values.specs.Characters.{IsTextOfKind}
use Rattle.column_values.specs.Spell.{Spell}
use Rattle.column_values.proofs.TextValues.{too_long, any_text}
use Rattle.column_values.proofs.DecimalValues.{spells_size, decimal_size}

-- they fit their type
pub spell_fits : (kind : ColumnType) (value : Value) (bytes : List ℕ) → IsColumnType kind → Spell kind value bytes
    → length bytes ≤ greatest_length kind
spell_fits (types.Int width true) (values.Signed z) bytes is s = omega (arith, s.0)
spell_fits (types.Int width false) (values.Unsigned n) bytes is s = omega (arith, s.0)
spell_fits types.Date (values.Date y m d) bytes is s = omega (arith, s.size)
spell_fits (types.Char n) (values.Text text) bytes is s = omega (arith, s.size)
spell_fits (types.Binary n) (values.Bytes value) bytes is s = omega (arith, s.0)
spell_fits (types.Varchar n) (values.Text text) bytes is s = s.0
spell_fits (types.Varbinary n) (values.Bytes value) bytes is s = s.0
spell_fits (types.Text n) (values.Text text) bytes is s = s.0
spell_fits (types.Blob n) (values.Bytes value) bytes is s = s.0
spell_fits (types.Utf8Varchar n) (values.Text text) bytes is s = elim (cases_lt (4 * n) (length bytes)) [
  | inl more ↦ absurd (too_long n bytes more s.0)
  | inr few ↦ few
]
spell_fits (types.Utf8Text n) (values.Text text) bytes is s = s.0
spell_fits (types.DateTime f) (values.DateTime y mo d h mi se u) bytes is s = omega (arith, s.size)
spell_fits (types.Timestamp f) (values.Timestamp se u) bytes is s = omega (arith, s.size)
spell_fits types.Year (values.Year y) bytes is s = omega (arith, s.size)
spell_fits (types.Decimal p q) (values.Decimal units) bytes is s =
    let size = spells_size p q is units bytes s in omega arith
spell_fits kind value bytes is s = absurd s

-- and where their type has one length they have it
pub spell_fixed : (kind : ColumnType) (value : Value) (bytes : List ℕ) → IsColumnType kind → Spell kind value bytes
    → is_variable_kind kind ≡ false → length bytes ≡ greatest_length kind
spell_fixed (types.Int width true) (values.Signed z) bytes is s fixed = s.0
spell_fixed (types.Int width false) (values.Unsigned n) bytes is s fixed = s.0
spell_fixed types.Date (values.Date y m d) bytes is s fixed = s.size
spell_fixed (types.Char n) (values.Text text) bytes is s fixed = s.size
spell_fixed (types.Binary n) (values.Bytes value) bytes is s fixed = s.0
spell_fixed (types.Varchar n) (values.Text text) bytes is s fixed = absurd (true≢false fixed)
spell_fixed (types.Varbinary n) (values.Bytes value) bytes is s fixed = absurd (true≢false fixed)
spell_fixed (types.Text n) (values.Text text) bytes is s fixed = absurd (true≢false fixed)
spell_fixed (types.Blob n) (values.Bytes value) bytes is s fixed = absurd (true≢false fixed)
spell_fixed (types.Utf8Varchar n) (values.Text text) bytes is s fixed = absurd (true≢false fixed)
spell_fixed (types.Utf8Text n) (values.Text text) bytes is s fixed = absurd (true≢false fixed)
spell_fixed (types.DateTime f) (values.DateTime y mo d h mi se u) bytes is s fixed = s.size
spell_fixed (types.Timestamp f) (values.Timestamp se u) bytes is s fixed = s.size
spell_fixed types.Year (values.Year y) bytes is s fixed = s.size
spell_fixed (types.Decimal p q) (values.Decimal units) bytes is s fixed = spells_size p q is units bytes s
spell_fixed kind value bytes is s fixed = absurd s

long : (n : ℕ) → IsLongLength n → n < 2 ^ 32
long n is = elim is [
  | inl a ↦ omega arith
  | inr b ↦ elim b [ inl c ↦ omega arith | inr d ↦ elim d [ inl e ↦ omega arith | inr f ↦ omega arith ] ]
]

-- no type takes more bytes than four can count
pub kind_fits : (kind : ColumnType) → IsColumnType kind → greatest_length kind < 2 ^ 32
kind_fits (types.Int width signed) is = elim is [
  | inl a ↦ omega arith
  | inr b ↦ elim b [
    | inl c ↦ omega arith
    | inr d ↦ elim d [
      | inl e ↦ omega arith
      | inr f ↦ elim f [ inl g ↦ omega arith | inr h ↦ omega arith ]
    ]
  ]
]
kind_fits types.Date is = omega arith
kind_fits (types.Char n) is = omega arith
kind_fits (types.Varchar n) is = omega arith
kind_fits (types.Binary n) is = omega arith
kind_fits (types.Varbinary n) is = omega arith
kind_fits (types.Text n) is = long n is
kind_fits (types.Blob n) is = long n is
kind_fits (types.Utf8Varchar n) is = omega arith
kind_fits (types.Utf8Text n) is = long n is
kind_fits (types.DateTime f) is = omega arith
kind_fits (types.Timestamp f) is = omega arith
kind_fits types.Year is = omega arith
kind_fits (types.Decimal p s) is = let size = decimal_size p s is in omega arith

-- they are a text of the type
pub spell_text : (kind : ColumnType) (value : Value) (bytes : List ℕ) → IsColumnType kind → Spell kind value bytes
    → IsTextOfKind kind bytes
spell_text (types.Utf8Varchar n) (values.Text text) bytes is s = s.0
spell_text (types.Utf8Text n) (values.Text text) bytes is s =
    let fits = kind_fits (types.Utf8Text n) is in any_text n bytes (omega (arith, s.0)) s.1
spell_text (types.Utf8Varchar n) value bytes is s = absurd s
spell_text (types.Utf8Text n) value bytes is s = absurd s
spell_text kind value bytes is s = tt
