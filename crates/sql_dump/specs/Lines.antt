-- The rows of a table, as they are read and written one after another.
use Rattle.std.specs.Prelude.{ℕ, ◌≤◌, List, length}
use Rattle.std.specs.List.{AllZip}
use Rattle.column_values.specs.declared.value.Value.{Value}
use Rattle.schema_text.specs.TableDef.{TableDef}
use Rattle.schema_text.specs.IndexFields.{leaf_fields}
use Rattle.tree_walk.specs.Index.{Row, page_in}
use Rattle.tree_walk.specs.Leaf.{IsWalked}
use Rattle.tree_walk.specs.Records.{IsRecord}
use Rattle.table_check.specs.Trees.{clustered_tree}
use Rattle.table_check.specs.Values.{live_rows, all_chain_pages}
use Rattle.table_check.specs.Live.{LiveView, HasGivenLive}
use Rattle.sql_dump.specs.Cells.{ReadsRow, row_on}

-- a record of the clustered index that can be read, and its values
pub record ReadsRecord (file : List ℕ) (table : TableDef) (row : Row) (row_values : List Value) : Type 0 where
  pub readable : IsRecord (page_in (clustered_tree file table) row.page) (leaf_fields table 0) row.origin
  pub reads : ReadsRow file (row_on table (page_in (clustered_tree file table) row.page) row.origin) row_values

-- the values of all rows
abbrev pub ReadsRows : List ℕ → TableDef → List (List Value) → Type 0
ReadsRows file table rows = AllZip (ReadsRecord file table) (live_rows (clustered_tree file table)) rows

-- all rows of a walked tree are to be given, their values can be read, and there are fetches for their chains
pub record CanWrite (file : List ℕ) (table : TableDef) (rows : LiveView) (left : ℕ) : Type 0 where
  pub walked : IsWalked (clustered_tree file table)
  pub given : HasGivenLive (clustered_tree file table) rows 0
  pub few : length (all_chain_pages (clustered_tree file table)) ≤ left
  pub all : List (List Value)
  pub reads : ReadsRows file table all
