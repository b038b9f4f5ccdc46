-- Where the fields of a record lie (rem0rec). Null bits and lengths stand before its header, going down.
use Rattle.std.specs.Prelude.{◌≡◌, ℕ, zero, suc, ◌+◌, ◌-◌, ◌*◌, ◌/◌, ◌%◌, ◌^◌, ◌==◌, ◌<◌, ◌≤◌, Bool, true, false, ◌&&◌}
use Rattle.std.specs.Prelude.{not, nat_le, if◌then◌else◌, List, length, map, take, filter, sum_by, slice_index}
use Rattle.std.specs.Prelude.{slice_range, Option, Some, None}
use Rattle.std.specs.List.{range_with_len}
use Rattle.column_values.specs.declared.field.FieldType.{FieldType}
use Rattle.column_values.specs.declared.field.Field.{Field}
use Rattle.column_values.specs.Types.{Fields, field_at, is_variable, is_big, fixed_length}
use Rattle.column_values.specs.Order.{Key}
use Rattle.compact_record.specs.declared.places.Place.{Place}

-- an origin that a record of the heap may have: the heap begins at byte 120, and the header has five bytes
abbrev pub IsHeapOrigin : ℕ → Type 0
IsHeapOrigin origin = (125 ≤ origin) × (origin ≤ 16384)

-- bit k of a byte
abbrev pub bit_of : ℕ → ℕ → Bool
bit_of byte k = byte / 2 ^ k % 2 == 1

-- the bytes of null bits
abbrev pub null_bytes : Fields → ℕ
null_bytes fields = (fields.nullable + 7) / 8

-- how many nullable fields stand before field i
abbrev pub nullable_before : Fields → ℕ → ℕ
nullable_before fields i = length (filter (λ (f : Field). f.nullable) (take i fields.fields))

-- whether field i is null, by its null bit
unfoldable pub is_null : List ℕ → ℕ → Fields → ℕ → Bool
is_null page origin fields i =
    (field_at fields i).nullable
    && bit_of (slice_index page (origin - 6 - nullable_before fields i / 8)) (nullable_before fields i % 8)

-- whether the record keeps a length for field i
abbrev pub has_length : List ℕ → ℕ → Fields → ℕ → Bool
has_length page origin fields i = is_variable (field_at fields i).kind && not (is_null page origin fields i)

-- whether a length that stands at this byte has two bytes
abbrev pub is_long_length : List ℕ → Field → ℕ → Bool
is_long_length page field at = is_big field.kind && nat_le 128 (slice_index page at)

-- where the first length stands
abbrev pub lengths_top : ℕ → Fields → ℕ
lengths_top origin fields = origin - 6 - null_bytes fields

-- how many bytes the lengths of the first i fields take
abbrev pub lengths_before : List ℕ → ℕ → Fields → ℕ → ℕ
lengths_before page origin fields zero = 0
lengths_before page origin fields (suc i) =
    lengths_before page origin fields i
    + (if has_length page origin fields i
    then (if is_long_length page (field_at fields i) (lengths_top origin fields - lengths_before page origin fields i)
    then 2 else 1)
    else 0)

-- where the length of field i stands
unfoldable pub length_byte : List ℕ → ℕ → Fields → ℕ → ℕ
length_byte page origin fields i = lengths_top origin fields - lengths_before page origin fields i

-- whether the length of field i has two bytes, and whether these say that it is external
abbrev pub has_long_length : List ℕ → ℕ → Fields → ℕ → Bool
has_long_length page origin fields i =
    has_length page origin fields i && is_long_length page (field_at fields i) (length_byte page origin fields i)

unfoldable pub is_external : List ℕ → ℕ → Fields → ℕ → Bool
is_external page origin fields i =
    has_long_length page origin fields i && bit_of (slice_index page (length_byte page origin fields i)) 6

-- the length at a byte: the byte itself, or its low six bits and the byte below it
abbrev pub length_at : List ℕ → Bool → ℕ → ℕ
length_at page true at = slice_index page at % 64 * 256 + slice_index page (at - 1)
length_at page false at = slice_index page at

-- how many bytes field i has in the record
unfoldable pub local_length : List ℕ → ℕ → Fields → ℕ → ℕ
local_length page origin fields i =
    if is_null page origin fields i then 0
    else (if is_variable (field_at fields i).kind
    then length_at page (has_long_length page origin fields i) (length_byte page origin fields i)
    else fixed_length (field_at fields i).kind)

-- how many bytes the fields before field i have
abbrev pub local_before : List ℕ → ℕ → Fields → ℕ → ℕ
local_before page origin fields i = sum_by (local_length page origin fields) (range_with_len 0 i)

-- how many fields a record has
abbrev pub field_count : Fields → ℕ
field_count fields = length fields.fields

-- where field i lies
unfoldable pub place_of : List ℕ → ℕ → Fields → ℕ → Place
place_of page origin fields i =
    record {
      null = is_null page origin fields i;
      external = is_external page origin fields i;
      from = origin + local_before page origin fields i;
      until = origin + local_before page origin fields i + local_length page origin fields i;
    }

-- where all fields of a record lie
unfoldable pub places_of : List ℕ → ℕ → Fields → List Place
places_of page origin fields = map (place_of page origin fields) (range_with_len 0 (field_count fields))

-- how far the record reaches below its origin, and where it begins and ends
unfoldable pub head_length : List ℕ → ℕ → Fields → ℕ
head_length page origin fields = 5 + null_bytes fields + lengths_before page origin fields (field_count fields)

abbrev pub record_start : List ℕ → ℕ → Fields → ℕ
record_start page origin fields = origin - head_length page origin fields

unfoldable pub record_end : List ℕ → ℕ → Fields → ℕ
record_end page origin fields = origin + local_before page origin fields (field_count fields)

-- field i is spelled as it must be
pub record FieldIsSpelled (page : List ℕ) (origin : ℕ) (fields : Fields) (i : ℕ) : Type 0 where
  pub shortest : has_long_length page origin fields i ≡ true → is_external page origin fields i ≡ false
      → 128 ≤ local_length page origin fields i
  pub leaves : is_external page origin fields i ≡ true → (field_at fields i).may_leave ≡ true
  pub refers : is_external page origin fields i ≡ true → 20 ≤ local_length page origin fields i

-- null bits and lengths are spelled as they must be
pub record IsSpelled (page : List ℕ) (origin : ℕ) (fields : Fields) : Type 0 where
  pub room : 120 + head_length page origin fields ≤ origin
  pub each : (i : ℕ) → i < field_count fields → FieldIsSpelled page origin fields i

-- where a record and its fields lie, in room for a number of fields
pub record Reading : Type 0 where
  pub origin : ℕ
  pub start : ℕ
  pub end : ℕ
  pub places : List Place
  pub members : ℕ

-- null bits and lengths are spelled as they must be, and the record and its fields lie where the reading says
pub record IsReading (page : List ℕ) (origin : ℕ) (fields : Fields) (reading : Reading) : Type 0 where
  pub spelled : IsSpelled page origin fields
  pub stands : reading.origin ≡ origin
  pub starts : reading.start ≡ record_start page origin fields
  pub ends : reading.end ≡ record_end page origin fields
  pub holds : reading.places ≡ places_of page origin fields

-- the bytes at a place, none where it is null
abbrev pub cell_at : List ℕ → Place → Option (List ℕ)
cell_at page place = if place.null then None else Some (slice_range page place.from place.until)

-- the key of a record
unfoldable pub key_of : List ℕ → ℕ → Fields → Key
key_of page origin fields = map (λ i. cell_at page (place_of page origin fields i)) (range_with_len 0 fields.keys)

-- the kinds of the key's fields
abbrev pub key_kinds : Fields → List FieldType
key_kinds fields = map (λ (f : Field). f.kind) (take fields.keys fields.fields)
