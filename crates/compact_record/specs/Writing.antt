-- The bytes of a record that is made of its parts (rem0rec).
use Rattle.std.specs.Prelude.{◌≡◌, ℕ, ◌+◌, ◌-◌, ◌*◌, ◌/◌, ◌%◌, ◌<◌, ◌≤◌, Bool, true, false, ◌&&◌, nat_lt, if◌then◌else◌}
use Rattle.std.specs.Prelude.{List, [], ◌∷◌, ◌++◌, length, map, take, drop, reverse, flat_map, zip, slice_index}
use Rattle.std.specs.Prelude.{slice_range}
use Rattle.std.specs.Prelude.{slice_index_or, Option, Some, None}
use Rattle.std.specs.List.{range_with_len, AllZip}
use Rattle.page_source.specs.Pages.{num}
use Rattle.column_values.specs.declared.field.Field.{Field}
use Rattle.column_values.specs.Types.{Fields, AreFields, is_variable, is_big, fixed_length}
use Rattle.column_values.specs.Order.{Key}
use Rattle.compact_record.specs.declared.parts.Part.{Part}
use Rattle.compact_record.specs.declared.parts.Part.TheVariants.{Null, Bytes}
use Rattle.compact_record.specs.Reading.{null_bytes}

-- a part without a value
abbrev pub is_null_part : Part → Bool
is_null_part Null = true
is_null_part (Bytes bytes external) = false

-- whether the value goes on in pages of its own
abbrev pub is_external_part : Part → Bool
is_external_part Null = false
is_external_part (Bytes bytes external) = external

-- the bytes that stand in the record
abbrev pub local_bytes : Part → List ℕ
local_bytes Null = []
local_bytes (Bytes bytes external) = bytes

-- a part as a field of a key
abbrev pub part_cell : Part → Option (List ℕ)
part_cell Null = None
part_cell (Bytes bytes external) = Some bytes

-- part i, null past the end
abbrev pub part_at : List Part → ℕ → Part
part_at parts i = slice_index_or parts i Null

-- the key of a record with these parts
unfoldable pub key_of_parts : Fields → List Part → Key
key_of_parts fields parts = map part_cell (take fields.keys parts)

-- the child page that the parts of a node pointer lead to
unfoldable pub child_of_parts : Fields → List Part → ℕ
child_of_parts fields parts = num (local_bytes (part_at parts fields.keys)) 0 4

-- the bytes fit a field: a fixed length, or a length that can be spelled; external ones end in a reference
abbrev pub FitsBytes : Field → List ℕ → Bool → Type 0
FitsBytes field bytes true = (field.may_leave ≡ true) × (20 ≤ length bytes) × (length bytes < 16384)
FitsBytes field bytes false =
    (is_variable field.kind ≡ false → length bytes ≡ fixed_length field.kind)
    × (is_variable field.kind ≡ true → length bytes < (if is_big field.kind then 16384 else 256))

-- a part fits a field, and all parts the fields of a record
abbrev pub FitsField : Field → Part → Type 0
FitsField field Null = field.nullable ≡ true
FitsField field (Bytes bytes external) = FitsBytes field bytes external

abbrev pub FitFields : Fields → List Part → Type 0
FitFields fields parts = AllZip FitsField fields.fields parts

-- each field with its part
abbrev pub FieldPart : Type 0
FieldPart = Field × Part

-- the null bit of a part, where its field has one
abbrev pub null_bit : FieldPart → List Bool
null_bit pair = if (pair.0).nullable then is_null_part pair.1 ∷ [] else []

-- the null bits of a record, in field order
abbrev pub null_bits : Fields → List Part → List Bool
null_bits fields parts = flat_map null_bit (zip fields.fields parts)

-- the number that bits spell, the lowest bit first
abbrev pub bits_value : List Bool → ℕ
bits_value [] = 0
bits_value (bit ∷ bits) = (if bit then 1 else 0) + 2 * bits_value bits

-- byte j of the null bits, the first of them lowest
abbrev pub null_byte : Fields → List Part → ℕ → ℕ
null_byte fields parts j = bits_value (take 8 (drop (8 * j) (null_bits fields parts)))

-- a length as it is spelled: the two top bits of a long one say that it is long and that the part is external
abbrev pub length_bytes : Field → List ℕ → Bool → List ℕ
length_bytes field bytes true = (192 + length bytes / 256) ∷ (length bytes % 256) ∷ []
length_bytes field bytes false =
    if is_big field.kind && nat_lt 127 (length bytes) then (128 + length bytes / 256) ∷ (length bytes % 256) ∷ []
    else length bytes ∷ []

-- the length of a part, where the record keeps one
abbrev pub length_of_part : FieldPart → List ℕ
length_of_part (field, Null) = []
length_of_part (field, Bytes bytes external) = if is_variable field.kind then length_bytes field bytes external else []

-- the bytes of null bits, the first one nearest to the header
abbrev pub all_null_bytes : Fields → List Part → List ℕ
all_null_bytes fields parts = map (null_byte fields parts) (range_with_len 0 (null_bytes fields))

-- the lengths of all parts, the first one nearest to the header
abbrev pub all_lengths : Fields → List Part → List ℕ
all_lengths fields parts = flat_map length_of_part (zip fields.fields parts)

-- null bits and lengths, as they stand going down from the header
unfoldable pub bytes_below : Fields → List Part → List ℕ
bytes_below fields parts = all_null_bytes fields parts ++ all_lengths fields parts

-- the bytes of the fields, one after another
unfoldable pub value_bytes : List Part → List ℕ
value_bytes parts = flat_map local_bytes parts

-- the five bytes before the origin of a record that owns none and has no record next
abbrev pub header_bytes : ℕ → ℕ → Bool → List ℕ
header_bytes heap kind minimum =
    (if minimum then 16 else 0) ∷ (heap * 8 + kind) / 256 ∷ (heap * 8 + kind) % 256 ∷ 0 ∷ 0 ∷ []

-- the whole record
unfoldable pub record_bytes : Fields → List Part → ℕ → ℕ → Bool → List ℕ
record_bytes fields parts heap kind minimum =
    reverse (bytes_below fields parts) ++ header_bytes heap kind minimum ++ value_bytes parts

-- how far a record's origin stands from its first byte
unfoldable pub origin_in : Fields → List Part → ℕ
origin_in fields parts = length (bytes_below fields parts) + 5

-- how many bytes a record has
unfoldable pub size_of_record : Fields → List Part → ℕ
size_of_record fields parts = origin_in fields parts + length (value_bytes parts)

-- the record may be written from byte `at` of a page on
pub record CanPlace (at heap kind : ℕ) (fields : Fields) (parts : List Part) : Type 0 where
  pub fit : FitFields fields parts
  pub least : 120 ≤ at
  pub most : at + size_of_record fields parts ≤ 16376
  pub heap_number : heap < 8192
  pub status : kind < 2

-- the bytes of these parts stand around this origin: null bits and lengths down from its header, the values from it on
pub record StandsAt (page : List ℕ) (origin : ℕ) (fields : Fields) (parts : List Part) : Type 0 where
  pub are_fields : AreFields fields
  pub fit : FitFields fields parts
  pub room : 125 + length (bytes_below fields parts) ≤ origin
  pub below : (k : ℕ) → k < length (bytes_below fields parts)
      → slice_index page (origin - 6 - k) ≡ slice_index (bytes_below fields parts) k
  pub values : slice_range page origin (origin + length (value_bytes parts)) ≡ value_bytes parts
