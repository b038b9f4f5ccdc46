-- All secondary indexes beside the kept values of the rows, one after another.
use Rattle.std.specs.Prelude.{◌≡◌, ℕ, ⊤, List, length, Some, None, Result, Ok, Err}
use Rattle.schema_text.specs.TableDef.{TableDef}
use Rattle.tree_walk.specs.declared.ends.TreeEnds.{TreeEnds}
use Rattle.tree_walk.specs.Walk.{IsEndsOf}
use Rattle.table_check.specs.Trees.{index_in, clustered_tree, index_count}
use Rattle.table_check.specs.Taken.{AreEnds}
use Rattle.table_check.specs.Valid.{IsValid}
use Rattle.table_check.specs.Values.{all_chain_pages}
use Rattle.schema_text.specs.IndexFields.{fields_of_columns}
use Rattle.cross_index.specs.declared.crossed.CrossStop.{CrossStop}
use Rattle.cross_index.specs.declared.crossed.CrossStop.TheVariants as stops
use Rattle.cross_index.specs.declared.gathered.Gathered.{Gathered}
use Rattle.cross_index.specs.Cross.{entry_count}
use Rattle.cross_index.specs.Differ.{Missing, Extra, Differ}
use Rattle.cross_index.specs.calls.Gather.{kept_fields, IsGathered}

-- the file is sound, these are the ends of its clustered tree, and its values go on in so many pages
pub record CanRead (file : List ℕ) (table : TableDef) (ends : TreeEnds) (chain_pages : ℕ) : Type 0 where
  pub valid : IsValid file table
  pub has_ends : IsEndsOf (clustered_tree file table) ends
  pub has_pages : chain_pages ≡ length (all_chain_pages (clustered_tree file table))

-- the fields of the columns, and those that are kept
pub record HasFields (table : TableDef) (found : Gathered) : Type 0 where
  pub columns : found.at.items ≡ fields_of_columns table
  pub fields : found.kept.items ≡ kept_fields table

-- the file is sound, the values of its rows are kept, and these are the ends of index i
pub record CanCompareIndex (file : List ℕ) (table : TableDef) (i : ℕ) (ends : TreeEnds) (found : Gathered)
    : Type 0 where
  pub valid : IsValid file table
  pub has_ends : IsEndsOf (index_in file table i) ends
  pub gathered : IsGathered file table found.cells found.count

-- the file is sound, the values of its rows are kept, and these are the ends of all indexes
pub record CanCompareAll (file : List ℕ) (table : TableDef) (ends : List TreeEnds) (found : Gathered) : Type 0 where
  pub valid : IsValid file table
  pub has_ends : AreEnds file table (index_count table) ends
  pub gathered : IsGathered file table found.cells found.count

-- how the indexes differ, and how many entries they have if none does
abbrev pub ComparesAll : List ℕ → TableDef → Result ℕ CrossStop → Type 0
ComparesAll file table (Ok count) = Differ file table None × (count ≡ entry_count file table)
ComparesAll file table (Err (stops.Missing index row)) = Differ file table (Some (Missing index row))
ComparesAll file table (Err (stops.Extra index page)) = Differ file table (Some (Extra index page))
ComparesAll file table (Err (stops.Broken fault)) = ⊥
ComparesAll file table (Err stops.Source) = ⊤
ComparesAll file table (Err stops.Memory) = ⊤
