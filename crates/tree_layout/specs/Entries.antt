-- A record by its parts.
use Rattle.std.specs.Prelude.{◌≡◌, ℕ, ◌<◌, ⊤, List, map, take, length, AllPairs, false}
use Rattle.std.specs.List.{AllZip}
use Rattle.column_values.specs.Types.{Fields}
use Rattle.column_values.specs.Order.{Key, IsBelow}
use Rattle.compact_record.specs.declared.parts.Part.{Part}
use Rattle.compact_record.specs.declared.parts.Part.TheVariants.{Null, Bytes}
use Rattle.compact_record.specs.Header.{is_deleted}
use Rattle.compact_record.specs.Reading.{place_of, field_count, cell_at, key_kinds}
use Rattle.compact_record.specs.Writing.{part_cell, is_external_part}
use Rattle.tree_walk.specs.Index.{Index, Row, page_in}
pub use Rattle.compact_record.specs.Writing.{part_at}
pub use Rattle.page_packer.specs.Entries.{Entry}

-- the key: the first parts
abbrev pub key_of_entry : ℕ → Entry → Key
key_of_entry keys entry = map part_cell (take keys entry)

-- the first of two entries has the lower key
abbrev pub IsEntryBelow : Fields → Entry → Entry → Type 0
IsEntryBelow fields a b = IsBelow (key_kinds fields) (key_of_entry fields.keys a) (key_of_entry fields.keys b)

-- the keys rise from each entry to every later one
abbrev pub EntriesAscend : Fields → List Entry → Type 0
EntriesAscend fields entries = AllPairs (IsEntryBelow fields) entries

-- the record at this origin has these parts, and no delete mark
pub record HoldsEntry (page : List ℕ) (fields : Fields) (origin : ℕ) (entry : Entry) : Type 0 where
  pub cells : (i : ℕ) → i < field_count fields
      → cell_at page (place_of page origin fields i) ≡ part_cell (part_at entry i)
  pub external : (i : ℕ) → i < field_count fields
      → (place_of page origin fields i).external ≡ is_external_part (part_at entry i)
  pub live : is_deleted page origin ≡ false

-- a row of a file is this entry
abbrev pub IsRowOf : Index → Fields → Row → Entry → Type 0
IsRowOf index fields row entry = HoldsEntry (page_in index row.page) fields row.origin entry

-- parts of the same length, in bytes on the page and elsewhere
abbrev pub IsAlike : Part → Part → Type 0
IsAlike Null Null = ⊤
IsAlike Null (Bytes bytes external) = ⊥
IsAlike (Bytes bytes external) Null = ⊥
IsAlike (Bytes bytes external) (Bytes others elsewhere) = (length bytes ≡ length others) × (external ≡ elsewhere)

abbrev pub AreAlike : Entry → Entry → Type 0
AreAlike a b = AllZip IsAlike a b
