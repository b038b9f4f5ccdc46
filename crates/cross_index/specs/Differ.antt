-- Where the secondary indexes and the rows first differ.
use Rattle.std.specs.Prelude.{◌≡◌, ℕ, ◌+◌, ◌-◌, List, Option, Some, None}
use Rattle.page_source.specs.Verdict.{Each}
use Rattle.schema_text.specs.TableDef.{TableDef}
use Rattle.tree_walk.specs.Index.{row_at}
use Rattle.table_check.specs.Trees.{index_count}
use Rattle.cross_index.specs.Entries.{entries_in, entry_kinds, row_keys, entry_keys}
use Rattle.cross_index.specs.Sides.{IsLeastLone, HaveSameKeys}

-- an index lacks the entry of a row, counted from 1; or it has an entry on a leaf page that is of no row
pub data Difference : Type 0 where
  Missing : ℕ → ℕ → Difference
  Extra : ℕ → ℕ → Difference

-- the least key that only the rows or only index i has is that of this row
pub record LacksEntry (file : List ℕ) (table : TableDef) (i row : ℕ) : Type 0 where
  pub place : ℕ
  pub row_is : row ≡ place + 1
  pub least : IsLeastLone (entry_kinds table i) (row_keys file table i) (entry_keys file table i) place

-- the least key that only the rows or only index i has is that of an entry on this page
pub record HasExtra (file : List ℕ) (table : TableDef) (i page : ℕ) : Type 0 where
  pub place : ℕ
  pub page_is : page ≡ (row_at (entries_in file table i) place).page
  pub least : IsLeastLone (entry_kinds table i) (entry_keys file table i) (row_keys file table i) place

-- index i differs so; none where both have the same keys
abbrev pub IndexDiffers : List ℕ → TableDef → ℕ → Option Difference → Type 0
IndexDiffers file table i None = HaveSameKeys (entry_kinds table i) (row_keys file table i) (entry_keys file table i)
IndexDiffers file table i (Some (Missing index row)) = (index ≡ i) × LacksEntry file table i row
IndexDiffers file table i (Some (Extra index page)) = (index ≡ i) × HasExtra file table i page

-- secondary index j; index 0 is the clustered one
abbrev pub SecondaryDiffers : List ℕ → TableDef → ℕ → Option Difference → Type 0
SecondaryDiffers file table j = IndexDiffers file table (j + 1)

-- where the first index differs that does; none where none does
unfoldable pub Differ : List ℕ → TableDef → Option Difference → Type 0
Differ file table = Each (index_count table - 1) (SecondaryDiffers file table)
