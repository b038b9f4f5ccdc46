-- What is written is read again.
use Rattle.std.specs.Prelude.{◌≡◌, ℕ, ◌+◌, ◌-◌, ◌<◌, Bool, false, List, length}
use Rattle.page_source.specs.Pages.{with_bytes}
use Rattle.column_values.specs.Types.{Fields, AreFields}
use Rattle.compact_record.specs.declared.parts.Part.{Part}
use Rattle.compact_record.specs.Header.{next_field, heap_number, status_of, owned_by, is_minimum, is_deleted}
use Rattle.compact_record.specs.Reading.{IsSpelled, place_of, record_start, record_end, is_null, is_external, cell_at}
use Rattle.compact_record.specs.Reading.{local_length, key_of}
use Rattle.compact_record.specs.Keys.{HaveChild, child_at}
use Rattle.compact_record.specs.Writing.{CanPlace, StandsAt, record_bytes, origin_in, size_of_record}
use Rattle.compact_record.specs.Writing.{bytes_below, value_bytes, part_at, part_cell, local_bytes, is_null_part}
use Rattle.compact_record.specs.Writing.{is_external_part, key_of_parts, child_of_parts}

-- field i of the record at an origin is read as this part
pub record IsReadAs (page : List ℕ) (origin : ℕ) (fields : Fields) (i : ℕ) (part : Part) : Type 0 where
  pub null : is_null page origin fields i ≡ is_null_part part
  pub external : is_external page origin fields i ≡ is_external_part part
  pub local : local_length page origin fields i ≡ length (local_bytes part)
  pub cell : cell_at page (place_of page origin fields i) ≡ part_cell part

-- the record at an origin is read as these parts
pub record AreReadAs (page : List ℕ) (origin : ℕ) (fields : Fields) (parts : List Part) : Type 0 where
  pub spelled : IsSpelled page origin fields
  pub starts : record_start page origin fields ≡ origin - (5 + length (bytes_below fields parts))
  pub ends : record_end page origin fields ≡ origin + length (value_bytes parts)
  pub each : (i : ℕ) → i < length parts → IsReadAs page origin fields i (part_at parts i)
  pub key : key_of page origin fields ≡ key_of_parts fields parts
  pub child : HaveChild fields → child_at page fields origin ≡ child_of_parts fields parts

-- parts that stand around an origin are read there
abbrev pub ReadsWhatStands : Type 0
ReadsWhatStands =
    (page : List ℕ) (origin : ℕ) (fields : Fields) (parts : List Part)
    → StandsAt page origin fields parts → AreReadAs page origin fields parts

-- the header of a record that was placed
pub record IsPlaced (page : List ℕ) (origin heap kind : ℕ) (minimum : Bool) : Type 0 where
  pub next : next_field page origin ≡ 0
  pub number : heap_number page origin ≡ heap
  pub status : status_of page origin ≡ kind
  pub owned : owned_by page origin ≡ 0
  pub mark : is_minimum page origin ≡ minimum
  pub deleted : is_deleted page origin ≡ false

-- what is read of a record that was placed from byte `at` on
pub record IsReadAgain (page : List ℕ) (at heap kind : ℕ) (minimum : Bool) (fields : Fields) (parts : List Part)
    : Type 0 where
  pub header : IsPlaced page (at + origin_in fields parts) heap kind minimum
  pub read : AreReadAs page (at + origin_in fields parts) fields parts
  pub starts : record_start page (at + origin_in fields parts) fields ≡ at
  pub ends : record_end page (at + origin_in fields parts) fields ≡ at + size_of_record fields parts

-- a record that is placed is read as its parts
abbrev pub ReadsWhatIsPlaced : Type 0
ReadsWhatIsPlaced =
    (page : List ℕ) (at heap kind : ℕ) (minimum : Bool) (fields : Fields) (parts : List Part)
    → length page ≡ 16384 → AreFields fields → CanPlace at heap kind fields parts
    → IsReadAgain (with_bytes page at (record_bytes fields parts heap kind minimum)) at heap kind minimum fields parts
