-- The records of a leaf, numbered from 0 by their places: those of the chain in its order, then the free ones in the
-- order of the free list (page0page, PAGE_FREE).
use Rattle.std.specs.Prelude.{ℕ, ◌-◌, Bool, true, not, List, filter}
use Rattle.std.specs.List.{range_with_len}
use Rattle.compact_record.specs.Header.{is_deleted}
use Rattle.index_page.specs.Header.{first_record, first_free, record_at, record_count, free_count}
use Rattle.salvage_model.specs.declared.kind.RecordKind.{RecordKind}
use Rattle.salvage_model.specs.declared.kind.RecordKind.TheVariants.{Live, Deleted, Freed}

-- the list in which the records of a kind are found: its first record, the place of that, and how many it has
abbrev pub list_start : RecordKind → List ℕ → ℕ
list_start Freed page = first_free page
list_start _ page = first_record page

abbrev pub first_place : RecordKind → List ℕ → ℕ
first_place Freed page = record_count page
first_place _ page = 0

abbrev pub list_length : RecordKind → List ℕ → ℕ
list_length Freed page = free_count page
list_length _ page = record_count page

-- the record at a place of that list
abbrev pub origin_of : RecordKind → List ℕ → ℕ → ℕ
origin_of kind page place = record_at page (list_start kind page) (place - first_place kind page)

-- whether a record of that list is of the kind: it has no delete mark, it has one, or it is free
abbrev pub is_of : RecordKind → List ℕ → ℕ → Bool
is_of Live page origin = not (is_deleted page origin)
is_of Deleted page origin = is_deleted page origin
is_of Freed page origin = true

abbrev pub is_place_of : RecordKind → List ℕ → ℕ → Bool
is_place_of kind page place = is_of kind page (origin_of kind page place)

-- the places of the records of a kind
unfoldable pub places_of : RecordKind → List ℕ → List ℕ
places_of kind page =
    filter (is_place_of kind page) (range_with_len (first_place kind page) (list_length kind page))
