-- What a comparison answers.
use Rattle.std.specs.Prelude.{◌≡◌, ◌<◌, ◌≤◌, ℕ, ◌-◌, ⊤, List, length, sum_by, Option, Some, None, Result, Ok, Err}
use Rattle.std.specs.List.{range_with_len}
use Rattle.schema_text.specs.TableDef.{TableDef}
use Rattle.table_check.specs.Trees.{index_count}
use Rattle.table_check.specs.First.{First}
use Rattle.table_check.specs.Valid.{IsValid}
use Rattle.cross_index.specs.declared.crossed.Crossed.{Crossed}
use Rattle.cross_index.specs.declared.crossed.CrossStop.{CrossStop}
use Rattle.cross_index.specs.declared.crossed.CrossStop.TheVariants as stops
use Rattle.cross_index.specs.Entries.{entries_in}
use Rattle.cross_index.specs.Differ.{Difference, Missing, Extra, Differ}

-- how many entries the first n secondary indexes have, and all of them
abbrev pub entries_of : List ℕ → TableDef → ℕ → ℕ
entries_of file table n = sum_by (λ i. length (entries_in file table i)) (range_with_len 1 n)

abbrev pub entry_count : List ℕ → TableDef → ℕ
entry_count file table = entries_of file table (index_count table - 1)

-- how many secondary indexes there are, and how many entries they have
pub record IsCrossed (file : List ℕ) (table : TableDef) (crossed : Crossed) : Type 0 where
  pub has_indexes : crossed.indexes ≡ index_count table - 1
  pub has_entries : crossed.entries ≡ entry_count file table

-- the file is sound, and its indexes and rows differ so
pub record Differs (file : List ℕ) (table : TableDef) (difference : Option Difference) : Type 0 where
  pub valid : IsValid file table
  pub differ : Differ file table difference

-- the answer over a file that is told
abbrev pub Crosses : List ℕ → TableDef → Result Crossed CrossStop → Type 0
Crosses file table (Ok crossed) = Differs file table None × IsCrossed file table crossed
Crosses file table (Err (stops.Broken fault)) = First file table (Some fault)
Crosses file table (Err (stops.Missing index row)) = Differs file table (Some (Missing index row))
Crosses file table (Err (stops.Extra index page)) = Differs file table (Some (Extra index page))
Crosses file table (Err stops.Source) = ⊤
Crosses file table (Err stops.Memory) = ⊤

-- a secondary index of the table
pub record IsSecondary (table : TableDef) (i : ℕ) : Type 0 where
  pub after_clustered : 1 ≤ i
  pub within : i < index_count table

-- what is named over any file, told or not: a difference is of such an index, and rows count from 1
abbrev pub Names : {A : Type 0} → (ℕ → Type 0) → Result A CrossStop → Type 0
Names IsIndex (Ok a) = ⊤
Names IsIndex (Err (stops.Broken fault)) = ⊤
Names IsIndex (Err (stops.Missing index row)) = IsIndex index × (1 ≤ row)
Names IsIndex (Err (stops.Extra index page)) = IsIndex index
Names IsIndex (Err stops.Source) = ⊤
Names IsIndex (Err stops.Memory) = ⊤
