-- The values that are kept of the rows: of each row those of the fields that some index takes.
use Rattle.std.specs.Prelude.{◌≡◌, ℕ, ◌-◌, ◌<◌, ◌≤◌, ◌==◌, true, false, not, ◌&&◌, List, length}
use Rattle.std.specs.Prelude.{map}
use Rattle.std.specs.Prelude.{filter, flat_map, sum_by, All, slice_index_or}
use Rattle.std.specs.List.{range_with_len, list_any}
use Rattle.column_values.specs.Order.{Key}
use Rattle.compact_record.specs.declared.places.Place.{Place}
use Rattle.compact_record.specs.Reading.{field_count}
use Rattle.offpage_chain.specs.Reference.{reference_of}
use Rattle.schema_text.specs.TableDef.{TableDef}
use Rattle.schema_text.specs.IndexFields.{leaf_fields, entry_fields}
use Rattle.tree_walk.specs.Index.{Row}
use Rattle.tree_walk.specs.Leaf.{IsWalked}
use Rattle.table_check.specs.Trees.{clustered_tree, index_count}
use Rattle.table_check.specs.Values.{bytes_at, live_rows, pages_of_value}
use Rattle.table_check.specs.Live.{LiveView, HasGivenLive}
use Rattle.table_check.specs.Valid.{IsValid}
use Rattle.sql_dump.specs.Long.{CanFollow}
use Rattle.cross_index.specs.Entries.{field_of_row, whole_cell}

-- the pages that a field goes on in, by its place
abbrev pub pages_of_place : List ℕ → List ℕ → Place → List ℕ
pages_of_place file page place = pages_of_value file (bytes_at page place) (not place.null && place.external)

-- the pages that a field goes on in can be read
abbrev pub CanFollowPlace : List ℕ → List ℕ → Place → Type 0
CanFollowPlace file page place =
    place.null ≡ false → place.external ≡ true → CanFollow file (reference_of (bytes_at page place))

-- field k of a record, by the places of all
unfoldable pub place_in : List Place → ℕ → Place
place_in places k = slice_index_or places k (record { null = true; external = false; from = 0; until = 0 })

-- how many pages these fields go on in
unfoldable pub pages_of_fields : List ℕ → List ℕ → List Place → List ℕ → ℕ
pages_of_fields file page places fields = sum_by (λ k. length (pages_of_place file page (place_in places k))) fields

-- each of these fields can be read, all in so many fetches
pub record CanGather (file page : List ℕ) (places : List Place) (fields : List ℕ) (left : ℕ) : Type 0 where
  pub follow : All (λ k. CanFollowPlace file page (place_in places k)) fields
  pub few : pages_of_fields file page places fields ≤ left

-- the values of these fields
unfoldable pub cells_of : List ℕ → List ℕ → List Place → List ℕ → Key
cells_of file page places fields = map (λ k. whole_cell file page (place_in places k)) fields

-- the fields of all entries of a row
unfoldable pub all_entry_fields : TableDef → List ℕ
all_entry_fields table = flat_map (entry_fields table) (range_with_len 1 (index_count table - 1))

-- the fields that are kept, each once
unfoldable pub kept_fields : TableDef → List ℕ
kept_fields table =
    filter (λ k. list_any (λ j. j == k) (all_entry_fields table)) (range_with_len 0 (field_count (leaf_fields table 0)))

-- what is kept of the rows
unfoldable pub kept_cells : List ℕ → TableDef → List Row → Key
kept_cells file table rows =
    flat_map (λ row. map (field_of_row (clustered_tree file table) row) (kept_fields table)) rows

-- the rows of a sound file are still to come
pub record CanGatherAll (file : List ℕ) (table : TableDef) (rows : LiveView) : Type 0 where
  pub valid : IsValid file table
  pub walked : IsWalked (clustered_tree file table)
  pub start : HasGivenLive (clustered_tree file table) rows 0

-- the values of so many rows were kept
pub record IsGathered (file : List ℕ) (table : TableDef) (cells : Key) (count : ℕ) : Type 0 where
  pub counted : count ≡ length (live_rows (clustered_tree file table))
  pub kept : cells ≡ kept_cells file table (live_rows (clustered_tree file table))

-- a field stands at this place of the kept ones
pub record StandsAt (kept : List ℕ) (slot field : ℕ) : Type 0 where
  pub within : slot < length kept
  pub is : slice_index_or kept slot 0 ≡ field
