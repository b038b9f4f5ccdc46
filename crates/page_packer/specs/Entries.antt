-- The page of some entries of a tree: rows on a leaf, node pointers above.
use Rattle.std.specs.Prelude.{◌≡◌, ℕ, ◌+◌, ◌<◌, ◌⊎◌, Bool, true, false, ◌&&◌, ◌==◌, List, [], ◌∷◌, ◌++◌, length, map}
use Rattle.std.specs.Prelude.{take}
use Rattle.std.specs.Prelude.{sum_by, All, slice_index_or, Option}
use Rattle.std.specs.List.{enumerate_from}
use Rattle.page_source.specs.Pages.{be_bytes}
use Rattle.column_values.specs.Types.{Fields, AreFields}
use Rattle.column_values.specs.Order.{IsBelow}
use Rattle.compact_record.specs.declared.parts.Part.{Part}
use Rattle.compact_record.specs.declared.parts.Part.TheVariants.{Bytes}
use Rattle.compact_record.specs.Reading.{key_kinds}
use Rattle.compact_record.specs.Writing.{FitFields, key_of_parts, size_of_record}
use Rattle.index_page.specs.Page.{is_lowest_first}
use Rattle.page_packer.specs.declared.packer.Heads.{Heads}
use Rattle.page_packer.specs.Packing.{Pushed, Packing, is_leaf, pushed_record, sizes_fit, packed_page}

-- an entry is the parts of a record
abbrev pub Entry : Type 0
Entry = List Part

-- entry k
abbrev pub entry_at : List Entry → ℕ → Entry
entry_at entries k = slice_index_or entries k []

-- the bytes that the records of entries take, and whether these records fit one page
abbrev pub entries_size : Fields → List Entry → ℕ
entries_size fields entries = sum_by (size_of_record fields) entries

abbrev pub entries_fit : Fields → List Entry → Bool
entries_fit fields entries = sizes_fit (length entries) (entries_size fields entries)

-- an entry as a record of its page, with the minimum mark or without it
abbrev pub pushed_entry : Fields → ℕ → (ℕ → Bool) → ℕ × Entry → Pushed
pushed_entry fields level marks entry = pushed_record level entry.0 fields entry.1 (marks entry.0)

-- entries that were pushed in order; `marks k` says whether entry k was pushed with the minimum mark
unfoldable pub packing_with : Fields → ℕ → (ℕ → Bool) → List Entry → Packing
packing_with fields level marks entries =
    record { level = level; records = map (pushed_entry fields level marks) (enumerate_from 0 entries) }

-- on a page of a tree the first entry of a lowest page has the minimum mark
abbrev pub lowest_mark : Bool → ℕ → Bool
lowest_mark lowest_first k = lowest_first && (k == 0)

abbrev pub packing_of : Fields → ℕ → Bool → List Entry → Packing
packing_of fields level lowest_first entries = packing_with fields level (lowest_mark lowest_first) entries

-- the page of some entries, which may be the leftmost one of its level
abbrev pub page_of_entries : Fields → ℕ → Bool → List Entry → ℕ → ℕ → ℕ → Option Heads → List ℕ
page_of_entries fields level leftmost entries prev next index_id heads =
    packed_page (packing_of fields level (is_lowest_first (is_leaf level) leftmost) entries) prev next index_id heads

-- the keys of the entries rise; a lowest first one counts as below every key
abbrev pub EntriesRise : Fields → Bool → List Entry → Type 0
EntriesRise fields lowest_first entries =
    (k : ℕ) → k + 1 < length entries → ((k ≡ 0) × (lowest_first ≡ true))
    ⊎ IsBelow (key_kinds fields) (key_of_parts fields (entry_at entries k))
    (key_of_parts fields (entry_at entries (k + 1)))

-- these entries suit a page that stands so in its tree: they are of one field list, their keys rise, and there is one,
-- unless the page is the root of a tree without rows
pub record SuitPage (fields : Fields) (level : ℕ) (root leftmost : Bool) (entries : List Entry) : Type 0 where
  pub are_fields : AreFields fields
  pub fit : All (FitFields fields) entries
  pub rise : EntriesRise fields (is_lowest_first (is_leaf level) leftmost) entries
  pub some_entry : length entries ≡ 0 → (is_leaf level ≡ true) × (root ≡ true)

-- these entries suit a page that stands so in its tree, and have room there
pub record MakePage (fields : Fields) (level : ℕ) (root leftmost : Bool) (entries : List Entry) : Type 0 where
  pub suit : SuitPage fields level root leftmost entries
  pub room : entries_fit fields entries ≡ true

-- the pointer to page n, whose first entry this is: the fields of its key, and the number
unfoldable pub pointer_to : ℕ → Entry → ℕ → Entry
pointer_to keys first n = take keys first ++ Bytes (be_bytes 4 n) false ∷ []
