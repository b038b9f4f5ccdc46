-- The entries of an index beside the rows in the order of their keys.
use Rattle.std.specs.Prelude.{◌≡◌, ℕ, ◌+◌, ◌<◌, ◌≤◌, ⊤, All, List, [], length, slice_index_or, Some, None}
use Rattle.std.specs.Prelude.{Result, Ok, Err}
use Rattle.column_values.specs.declared.field.FieldType.{FieldType}
use Rattle.column_values.specs.Types.{Fields}
use Rattle.column_values.specs.Order.{Key, IsBelow, AreEqualKeys}
use Rattle.compact_record.specs.Reading.{Reading, key_of}
use Rattle.compact_record.specs.Keys.{key_at}
use Rattle.schema_text.specs.TableDef.{TableDef}
use Rattle.tree_walk.specs.Leaf.{IsWalked}
use Rattle.table_check.specs.Trees.{index_in}
use Rattle.table_check.specs.Live.{LiveView, HasGivenLive}
use Rattle.cross_index.specs.declared.crossed.CrossStop.{CrossStop}
use Rattle.cross_index.specs.declared.crossed.CrossStop.TheVariants as stops
use Rattle.cross_index.specs.Entries.{entries_in, entry_kinds, row_keys, entry_keys}
use Rattle.cross_index.specs.Sides.{Rise, AreApart}
use Rattle.cross_index.specs.Differ.{Missing, Extra, IndexDiffers}
use Rattle.cross_index.specs.calls.Order.{in_order}
use Rattle.cross_index.specs.calls.Kept.{LiesIn}
use Rattle.cross_index.specs.calls.Broken.{BreaksLeaf}

-- the key of the record at an origin was read
pub record IsReadKey (page : List ℕ) (origin : ℕ) (fields : Fields) (reading : Reading) : Type 0 where
  pub lie : All (LiesIn 16384) reading.places
  pub long : fields.keys ≤ length reading.places
  pub key : key_at page fields reading.places ≡ key_of page origin fields

-- the key of an entry on a page is that of the row that comes next in the order; otherwise it or the row is alone
abbrev pub Meets : List FieldType → List Key → List ℕ → ℕ → Key → ℕ → ℕ → Result ⊤ CrossStop → Type 0
Meets kinds keys order next key index page (Ok done) =
    (next < length order) × AreEqualKeys kinds (slice_index_or (in_order keys order) next []) key
Meets kinds keys order next key index page (Err (stops.Extra i p)) =
    (i ≡ index) × (p ≡ page)
    × (next < length order → IsBelow kinds key (slice_index_or (in_order keys order) next []))
Meets kinds keys order next key index page (Err (stops.Missing i row)) =
    (i ≡ index) × (next < length order) × (row ≡ slice_index_or order next 0 + 1)
    × IsBelow kinds (slice_index_or (in_order keys order) next []) key
Meets kinds keys order next key index page (Err (stops.Broken fault)) = ⊥
Meets kinds keys order next key index page (Err stops.Source) = ⊥
Meets kinds keys order next key index page (Err stops.Memory) = ⊥

-- after the last entry there is no row any more; otherwise the next one is alone
abbrev pub EndsAt : List ℕ → ℕ → ℕ → Result ℕ CrossStop → Type 0
EndsAt order next index (Ok count) = (count ≡ next) × (length order ≤ next)
EndsAt order next index (Err (stops.Missing i row)) =
    (i ≡ index) × (next < length order) × (row ≡ slice_index_or order next 0 + 1)
EndsAt order next index (Err (stops.Extra i p)) = ⊥
EndsAt order next index (Err (stops.Broken fault)) = ⊥
EndsAt order next index (Err stops.Source) = ⊥
EndsAt order next index (Err stops.Memory) = ⊥

-- the entries of index i are still to come, and these are the keys of the rows
pub record CanCompare (file : List ℕ) (table : TableDef) (i : ℕ) (entries : LiveView) (keys : List Key)
    : Type 0 where
  pub walked : IsWalked (index_in file table i)
  pub start : HasGivenLive (index_in file table i) entries 0
  pub rows : keys ≡ row_keys file table i
  pub apart : AreApart (entry_kinds table i) (row_keys file table i)
  pub rise : Rise (entry_kinds table i) (entry_keys file table i)

-- how index i differs, and how many entries it has if it doesn't
abbrev pub Compares : List ℕ → TableDef → ℕ → Result ℕ CrossStop → Type 0
Compares file table i (Ok count) = IndexDiffers file table i None × (count ≡ length (entries_in file table i))
Compares file table i (Err (stops.Missing index row)) = IndexDiffers file table i (Some (Missing index row))
Compares file table i (Err (stops.Extra index page)) = IndexDiffers file table i (Some (Extra index page))
Compares file table i (Err (stops.Broken fault)) = ⊥
Compares file table i (Err stops.Source) = ⊤
Compares file table i (Err stops.Memory) = ⊤

-- what is named over any file, told or not: index i, one of so many rows, and the leaf in hand
abbrev pub NamesHere : ℕ → ℕ → LiveView → Result ℕ CrossStop → Type 0
NamesHere i rows entries (Ok count) = ⊤
NamesHere i rows entries (Err (stops.Missing index row)) = (index ≡ i) × (1 ≤ row) × (row ≤ rows)
NamesHere i rows entries (Err (stops.Extra index page)) = (index ≡ i) × (page ≡ entries.leaf.number)
NamesHere i rows entries (Err (stops.Broken fault)) = BreaksLeaf entries fault
NamesHere i rows entries (Err stops.Source) = ⊤
NamesHere i rows entries (Err stops.Memory) = ⊥
