-- Which bytes spell which value of a type.
use Rattle.std.specs.Prelude.{◌≡◌, ◌≢◌, ℕ, ◌+◌, ◌-◌, ◌*◌, ◌^◌, ◌<◌, ◌≤◌, ⊤, Bool, true, false, ℤ, pos, ◌+ℤ◌, ◌-ℤ◌, ◌<ℤ◌}
use Rattle.std.specs.Prelude.{◌≤ℤ◌, nat_abs, List, [], ◌++◌, length, replicate, slice_index, bit_xor, Option, Some}
use Rattle.std.specs.Prelude.{None, Result, Ok, Err}
use Rattle.byteorder.specs.Endian.{twos_complement}
use Rattle.page_source.specs.Pages.{num, be_bytes, AreBytes}
use Rattle.column_values.specs.declared.kind.ColumnType.{ColumnType}
use Rattle.column_values.specs.declared.kind.ColumnType.TheVariants as types
use Rattle.column_values.specs.declared.value.Value.{Value}
use Rattle.column_values.specs.declared.value.Value.TheVariants as values
use Rattle.column_values.specs.declared.value.ValueError.{ValueError}
use Rattle.column_values.specs.declared.value.ValueError.TheVariants.{BadValue, Memory}
use Rattle.column_values.specs.Types.{HoldsText}
use Rattle.column_values.specs.Characters.{IsCharacterText, IsTextUpTo}
use Rattle.column_values.specs.Moments.{SpellsDateTime, SpellsTimestamp, SpellsYear, packed_moment, fraction_bytes}
use Rattle.column_values.specs.Moments.{year_byte}
use Rattle.column_values.specs.Decimals.{SpellsDecimal, decimal_bytes}

-- the number of an integer's bytes, less the worth of their top bit where it is signed
abbrev pub int_of : Bool → ℕ → List ℕ → ℤ
int_of false width bytes = pos (num bytes 0 width)
int_of true width bytes = pos (num bytes 0 width) -ℤ pos (2 ^ (8 * width - 1))

-- two's complement of the bytes with their top bit flipped
abbrev pub flipped_int : ℕ → List ℕ → ℤ
flipped_int width bytes = twos_complement width (bit_xor (num bytes 0 width) (2 ^ (8 * width - 1)))

-- the integers of a width
abbrev pub IsInRange : Bool → ℕ → ℤ → Type 0
IsInRange false width z = (pos 0 ≤ℤ z) × (z <ℤ pos (256 ^ width))
IsInRange true width z = (pos 0 ≤ℤ (z +ℤ pos (2 ^ (8 * width - 1)))) × (z <ℤ pos (2 ^ (8 * width - 1)))

-- the bytes of an integer
abbrev pub int_bytes : Bool → ℕ → ℤ → List ℕ
int_bytes false width z = be_bytes width (nat_abs z)
int_bytes true width z = be_bytes width (nat_abs (z +ℤ pos (2 ^ (8 * width - 1))))

-- the number of a value of an integer type, where it is one
abbrev pub IsNumberOf : Bool → Value → Option ℤ → Type 0
IsNumberOf true (values.Signed z) number = number ≡ Some z
IsNumberOf false (values.Unsigned n) number = number ≡ Some (pos n)
IsNumberOf _ _ number = number ≡ None

-- a date is year * 512 + month * 32 + day, with the top bit flipped
abbrev pub packed_date : ℕ → ℕ → ℕ → ℕ
packed_date year month day = 2 ^ 23 + (year * 512 + month * 32 + day)

pub record SpellsDate (year month day : ℕ) (bytes : List ℕ) : Type 0 where
  pub size : length bytes ≡ 3
  pub packed : num bytes 0 3 ≡ packed_date year month day
  pub greatest_year : year ≤ 9999
  pub greatest_month : month ≤ 12
  pub greatest_day : day ≤ 31

-- at most so many bytes, and no space at the end
pub record IsTrimmed (n : ℕ) (text : List ℕ) : Type 0 where
  pub fits : length text ≤ n
  pub trimmed : 0 < length text → slice_index text (length text - 1) ≢ 32

-- a text of fixed length is filled with spaces
pub record SpellsChar (n : ℕ) (text bytes : List ℕ) : Type 0 where
  pub size : length bytes ≡ n
  pub filled : bytes ≡ text ++ replicate (n - length text) 32
  pub is_trimmed : IsTrimmed n text

-- the bytes are those of a text or bytes type
abbrev pub FitsText : ColumnType → List ℕ → Type 0
FitsText (types.Char n) bytes = length bytes ≡ n
FitsText (types.Binary n) bytes = length bytes ≡ n
FitsText (types.Varchar n) bytes = length bytes ≤ n
FitsText (types.Varbinary n) bytes = length bytes ≤ n
FitsText (types.Text n) bytes = length bytes ≤ n
FitsText (types.Blob n) bytes = length bytes ≤ n
FitsText (types.Utf8Varchar n) bytes = IsTextUpTo n bytes
FitsText (types.Utf8Text n) bytes = (length bytes ≤ n) × IsCharacterText bytes
FitsText _ bytes = ⊥

-- the bytes spell this value of this type
abbrev pub Spell : ColumnType → Value → List ℕ → Type 0
Spell (types.Int width true) (values.Signed z) bytes = (length bytes ≡ width) × (z ≡ int_of true width bytes)
Spell (types.Int width false) (values.Unsigned n) bytes = (length bytes ≡ width) × (n ≡ num bytes 0 width)
Spell types.Date (values.Date year month day) bytes = SpellsDate year month day bytes
Spell (types.Char n) (values.Text text) bytes = SpellsChar n text bytes
Spell (types.Binary n) (values.Bytes value) bytes = (length bytes ≡ n) × (bytes ≡ value)
Spell (types.Varchar n) (values.Text text) bytes = (length bytes ≤ n) × (bytes ≡ text)
Spell (types.Varbinary n) (values.Bytes value) bytes = (length bytes ≤ n) × (bytes ≡ value)
Spell (types.Text n) (values.Text text) bytes = (length bytes ≤ n) × (bytes ≡ text)
Spell (types.Blob n) (values.Bytes value) bytes = (length bytes ≤ n) × (bytes ≡ value)
Spell (types.Utf8Varchar n) (values.Text text) bytes = IsTextUpTo n bytes × (bytes ≡ text)
Spell (types.Utf8Text n) (values.Text text) bytes = (length bytes ≤ n) × IsCharacterText bytes × (bytes ≡ text)
Spell (types.DateTime f) (values.DateTime year month day hour minute second micro) bytes =
    SpellsDateTime f year month day hour minute second micro bytes
Spell (types.Timestamp f) (values.Timestamp seconds micro) bytes = SpellsTimestamp f seconds micro bytes
Spell types.Year (values.Year year) bytes = SpellsYear year bytes
Spell (types.Decimal p s) (values.Decimal units) bytes = SpellsDecimal p s units bytes
Spell _ _ bytes = ⊥

-- the bytes spell some value of the type
abbrev pub IsSpelling : ColumnType → List ℕ → Type 0
IsSpelling kind bytes = (value : Value) × Spell kind value bytes

-- the value is one of the type
abbrev pub IsValueOf : ColumnType → Value → Type 0
IsValueOf kind value = (bytes : List ℕ) × AreBytes bytes × Spell kind value bytes

-- the bytes that spell a value of the type
abbrev pub spelling_of : ColumnType → Value → List ℕ
spelling_of (types.Int width true) (values.Signed z) = int_bytes true width z
spelling_of (types.Int width false) (values.Unsigned n) = be_bytes width n
spelling_of types.Date (values.Date year month day) = be_bytes 3 (packed_date year month day)
spelling_of (types.Char n) (values.Text text) = text ++ replicate (n - length text) 32
spelling_of (types.DateTime f) (values.DateTime year month day hour minute second micro) =
    be_bytes 5 (2 ^ 39 + packed_moment year month day hour minute second) ++ fraction_bytes f micro
spelling_of (types.Timestamp f) (values.Timestamp seconds micro) = be_bytes 4 seconds ++ fraction_bytes f micro
spelling_of types.Year (values.Year year) = year_byte year
spelling_of (types.Decimal p s) (values.Decimal units) = decimal_bytes p s units
spelling_of _ (values.Text text) = text
spelling_of _ (values.Bytes value) = value
spelling_of _ _ = []

-- the value that bytes spell; none where they spell no value
abbrev pub Finds : ColumnType → List ℕ → Option Value → Type 0
Finds kind bytes (Some value) = Spell kind value bytes
Finds kind bytes None = ¬ (IsSpelling kind bytes)

-- what decoding bytes answers: the value that they spell, or that there is none; memory is taken for texts and bytes
-- alone
abbrev pub Decodes : ColumnType → List ℕ → Result Value ValueError → Type 0
Decodes kind bytes (Ok value) = Spell kind value bytes
Decodes kind bytes (Err BadValue) = ¬ (IsSpelling kind bytes)
Decodes kind bytes (Err Memory) = HoldsText kind

-- the bytes of a value
pub record IsSpelled (kind : ColumnType) (value : Value) (bytes : List ℕ) : Type 0 where
  pub are_bytes : AreBytes bytes
  pub spell : Spell kind value bytes
  pub same : bytes ≡ spelling_of kind value

-- the bytes that spell a value; none where it isn't one of the type
abbrev pub Encodes : ColumnType → Value → Result (List ℕ) ValueError → Type 0
Encodes kind value (Ok bytes) = IsSpelled kind value bytes
Encodes kind value (Err BadValue) = ¬ (IsValueOf kind value)
Encodes kind value (Err Memory) = ⊤
