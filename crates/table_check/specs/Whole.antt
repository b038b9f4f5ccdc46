-- A checked table with the ends of all its trees.
use Rattle.std.specs.Prelude.{ℕ, List}
use Rattle.schema_text.specs.TableDef.{TableDef}
use Rattle.table_check.specs.declared.table.Whole.{Whole}
use Rattle.table_check.specs.Trees.{index_count}
use Rattle.table_check.specs.First.{IsCheckedTable}
use Rattle.table_check.specs.Taken.{AreEnds}

-- the table was checked, and each index has its ends
pub record IsCheckedWhole (file : List ℕ) (table : TableDef) (whole : Whole) : Type 0 where
  pub checked : IsCheckedTable file table whole.table
  pub ends : AreEnds file table (index_count table) whole.ends
