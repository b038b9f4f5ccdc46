-- Column types (data0type, row0mysql), and the fields of an index (rem0rec).
use Rattle.std.specs.Prelude.{◌≡◌, ℕ, ◌+◌, ◌*◌, ◌<◌, ◌≤◌, min, ◌⊎◌, ⊤, Bool, true, false, ◌||◌, nat_lt, List, [], ◌∷◌}
use Rattle.std.specs.Prelude.{◌++◌, slice_index_or, length, take, filter, All}
use Rattle.column_values.specs.declared.kind.ColumnType.{ColumnType}
use Rattle.column_values.specs.declared.kind.ColumnType.TheVariants.{Int, Date, Char, Varchar, Binary, Varbinary, Text}
use Rattle.column_values.specs.declared.kind.ColumnType.TheVariants.{Blob, Utf8Varchar, Utf8Text, DateTime, Timestamp}
use Rattle.column_values.specs.declared.kind.ColumnType.TheVariants.{Year, Decimal}
use Rattle.column_values.specs.declared.field.FieldType.{FieldType}
use Rattle.column_values.specs.declared.field.FieldType.TheVariants.{Column, RowId, TrxId, RollPointer, Child}
use Rattle.column_values.specs.declared.field.Field.{Field}
use Rattle.column_values.specs.declared.field.Storage.{Storage}
use Rattle.column_values.specs.Lengths.{fraction_length, decimal_length}

-- the widths of whole numbers, in bytes
abbrev pub IsWidth : ℕ → Type 0
IsWidth w = (w ≡ 1) ⊎ (w ≡ 2) ⊎ (w ≡ 3) ⊎ (w ≡ 4) ⊎ (w ≡ 8)

-- the greatest lengths of the text and blob kinds
abbrev pub IsLongLength : ℕ → Type 0
IsLongLength n = (n ≡ 255) ⊎ (n ≡ 65535) ⊎ (n ≡ 16777215) ⊎ (n ≡ 4294967295)

-- the numbers of a type are those of some column
abbrev pub IsColumnType : ColumnType → Type 0
IsColumnType (Int width signed) = IsWidth width
IsColumnType Date = ⊤
IsColumnType (Char n) = (1 ≤ n) × (n ≤ 255)
IsColumnType (Varchar n) = (1 ≤ n) × (n ≤ 65535)
IsColumnType (Binary n) = (1 ≤ n) × (n ≤ 255)
IsColumnType (Varbinary n) = (1 ≤ n) × (n ≤ 65535)
IsColumnType (Text n) = IsLongLength n
IsColumnType (Blob n) = IsLongLength n
IsColumnType (Utf8Varchar n) = (1 ≤ n) × (n ≤ 16383)
IsColumnType (Utf8Text n) = IsLongLength n
IsColumnType (DateTime f) = f ≤ 6
IsColumnType (Timestamp f) = f ≤ 6
IsColumnType Year = ⊤
IsColumnType (Decimal p s) = (1 ≤ p) × (p ≤ 38) × (s ≤ min 30 p)

-- the types whose values are texts of any length
abbrev pub IsPlainText : ColumnType → Type 0
IsPlainText (Varchar n) = ⊤
IsPlainText (Text n) = ⊤
IsPlainText (Utf8Varchar n) = ⊤
IsPlainText (Utf8Text n) = ⊤
IsPlainText _ = ⊥

-- the types whose values are bytes
abbrev pub IsRaw : ColumnType → Type 0
IsRaw (Binary n) = ⊤
IsRaw (Varbinary n) = ⊤
IsRaw (Blob n) = ⊤
IsRaw _ = ⊥

-- the types whose values are texts or bytes
abbrev pub HoldsText : ColumnType → Type 0
HoldsText (Char n) = ⊤
HoldsText kind = IsPlainText kind ⊎ IsRaw kind

-- the greatest number of bytes of a value
abbrev pub greatest_length : ColumnType → ℕ
greatest_length (Int width signed) = width
greatest_length Date = 3
greatest_length (Char n) = n
greatest_length (Varchar n) = n
greatest_length (Binary n) = n
greatest_length (Varbinary n) = n
greatest_length (Text n) = n
greatest_length (Blob n) = n
greatest_length (Utf8Varchar n) = 4 * n
greatest_length (Utf8Text n) = n
greatest_length (DateTime f) = 5 + fraction_length f
greatest_length (Timestamp f) = 4 + fraction_length f
greatest_length Year = 1
greatest_length (Decimal p s) = decimal_length p s

-- whether it is a text or blob kind
abbrev pub is_long_kind : ColumnType → Bool
is_long_kind (Text n) = true
is_long_kind (Blob n) = true
is_long_kind (Utf8Text n) = true
is_long_kind _ = false

-- whether a record keeps the length of the value
abbrev pub is_variable_kind : ColumnType → Bool
is_variable_kind (Varchar n) = true
is_variable_kind (Varbinary n) = true
is_variable_kind (Utf8Varchar n) = true
is_variable_kind kind = is_long_kind kind

-- whether that length may take two bytes
abbrev pub is_big_kind : ColumnType → Bool
is_big_kind kind = nat_lt 255 (greatest_length kind) || is_long_kind kind

-- whether a record keeps the length of a field, and whether that may take two bytes; row id, transaction id, roll
-- pointer and child page have fixed lengths
abbrev pub is_variable : FieldType → Bool
is_variable (Column kind) = is_variable_kind kind
is_variable _ = false

abbrev pub is_big : FieldType → Bool
is_big (Column kind) = is_big_kind kind
is_big _ = false

-- the length of a field that isn't variable
abbrev pub fixed_length : FieldType → ℕ
fixed_length (Column kind) = greatest_length kind
fixed_length RowId = 6
fixed_length TrxId = 6
fixed_length RollPointer = 7
fixed_length Child = 4

-- how a record keeps a field
abbrev pub storage_of : Field → Storage
storage_of field =
    record {
      nullable = field.nullable;
      variable = is_variable field.kind;
      big = is_big field.kind;
      may_leave = field.may_leave;
      length = fixed_length field.kind;
    }

-- the length of a field of a fixed length has a bound
abbrev pub IsShort : Storage → Type 0
IsShort storage = storage.length < 34359738368

-- the fields of an index, how many nullable ones the whole index has, and how many make the key
pub record Fields : Type 0 where
  pub fields : List Field
  pub nullable : ℕ
  pub keys : ℕ

-- the number of the child page, the last field of a node pointer
abbrev pub child_field : Field
child_field = record { kind = Child; nullable = false; may_leave = false }

-- field i; past the end a child page
abbrev pub field_at : Fields → ℕ → Field
field_at fields i = slice_index_or fields.fields i child_field

-- the fields of an index's leaf records and those of its node pointers: these have the fields of the key, with null
-- bits for as many fields, and then the child page
pub record AreOfOneIndex (leaf node : Fields) : Type 0 where
  pub few : leaf.keys ≤ length leaf.fields
  pub keys : node.keys ≡ leaf.keys
  pub nullable : node.nullable ≡ leaf.nullable
  pub pointers : node.fields ≡ take leaf.keys leaf.fields ++ child_field ∷ []

-- the field's type is one of a column, where it is a column
abbrev pub IsFieldKind : FieldType → Type 0
IsFieldKind (Column kind) = IsColumnType kind
IsFieldKind _ = ⊤

-- how many of these fields may be null
abbrev pub nullable_count : List Field → ℕ
nullable_count fields = length (filter (λ (f : Field). f.nullable) fields)

-- field i may have a part of its value off the page only where its column is big, and behind the key
abbrev pub MayLeave : Fields → ℕ → Type 0
MayLeave fields i = (is_big (field_at fields i).kind ≡ true) × (fields.keys ≤ i)

-- the fields so far go together
pub record AreListed (fields : Fields) : Type 0 where
  pub few : length fields.fields ≤ 128
  pub kinds : All (λ (f : Field). IsFieldKind f.kind) fields.fields
  pub nullables : nullable_count fields.fields ≤ fields.nullable
  pub leaving : (i : ℕ) → (field_at fields i).may_leave ≡ true → MayLeave fields i

-- the fields go together, and the key is among them
pub record AreFields (fields : Fields) : Type 0 where
  pub listed : AreListed fields
  pub has_keys : fields.keys ≤ length fields.fields

-- one more field, at the end
abbrev pub with_field : Fields → Field → Fields
with_field fields field = record fields { fields = fields.fields ++ field ∷ [] }

-- the field may be the next one
pub record CanFollow (fields : Fields) (field : Field) : Type 0 where
  pub few : length fields.fields < 128
  pub kind : IsFieldKind field.kind
  pub nullables : nullable_count (fields.fields ++ field ∷ []) ≤ fields.nullable
  pub leaving : field.may_leave ≡ true → (is_big field.kind ≡ true) × (fields.keys ≤ length fields.fields)
