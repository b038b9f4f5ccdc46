-- A table as far as its lines were read.
use Rattle.std.specs.Prelude.{◌≡◌, ◌≢◌, ℕ, ◌+◌, ◌<◌, ◌≤◌, false, [], length, take, drop, slice_get, All, AllPairs}
use Rattle.std.specs.Prelude.{IfSome}
use Rattle.column_values.specs.Types.{IsColumnType}
use Rattle.schema_text.specs.declared.table.Column.{Column}
use Rattle.schema_text.specs.declared.table.IndexDef.{IndexDef}
use Rattle.schema_text.specs.TableDef.{TableDef, index_columns}
use Rattle.schema_text.specs.Grammar.{IsName, IsRoot, IsKeyOf}

-- the name of the table and its columns so far
pub record HasColumns (table : TableDef) : Type 0 where
  pub name : IsName table.table
  pub few : length table.columns ≤ 64
  pub names : All (λ (c : Column). IsName c.name) table.columns
  pub kinds : All (λ (c : Column). IsColumnType c.kind) table.columns
  pub differ : AllPairs (λ (c d : Column). c.name ≢ d.name) table.columns

-- the indexes of a table so far, which stand behind some column
pub record HasIndexes (table : TableDef) : Type 0 where
  pub behind : 1 ≤ length table.indexes → 1 ≤ length table.columns
  pub few : length table.indexes ≤ 16
  pub unnamed : All (λ (x : IndexDef). x.name ≡ []) (take 1 table.indexes)
  pub named : All (λ (x : IndexDef). IsName x.name × (1 ≤ length x.columns)) (drop 1 table.indexes)
  pub differ : AllPairs (λ (x y : IndexDef). x.name ≢ y.name) table.indexes
  pub keys : All (IsKeyOf table) table.indexes
  pub not_null : All (λ x. All (λ (c : Column). c.nullable ≡ false) (index_columns table x)) (take 1 table.indexes)
  pub roots : All (λ (x : IndexDef). IsRoot x.root) table.indexes
  pub roots_differ : AllPairs (λ (x y : IndexDef). x.root ≢ y.root) table.indexes
  pub lines : (j : ℕ) → IfSome (slice_get table.indexes j) (λ x. x.line ≡ length table.columns + 2 + j)

-- a table so far
pub record IsPart (table : TableDef) : Type 0 where
  pub columns : HasColumns table
  pub indexes : HasIndexes table

-- the column may be the next one
pub record IsNextColumn (table : TableDef) (column : Column) : Type 0 where
  pub name : IsName column.name
  pub kind : IsColumnType column.kind
  pub few : length table.columns < 64
  pub new : All (λ (c : Column). c.name ≢ column.name) table.columns
  pub before : length table.indexes ≡ 0

-- the index may be the next one
pub record IsNextIndex (table : TableDef) (index : IndexDef) : Type 0 where
  pub behind : 1 ≤ length table.columns
  pub few : length table.indexes < 16
  pub unnamed : length table.indexes ≡ 0 → index.name ≡ []
  pub named : 1 ≤ length table.indexes → IsName index.name × (1 ≤ length index.columns)
  pub new : All (λ (x : IndexDef). x.name ≢ index.name) table.indexes
  pub key : IsKeyOf table index
  pub not_null : length table.indexes ≡ 0 → All (λ (c : Column). c.nullable ≡ false) (index_columns table index)
  pub root : IsRoot index.root
  pub new_root : All (λ (x : IndexDef). x.root ≢ index.root) table.indexes
  pub line : index.line ≡ length table.columns + 2 + length table.indexes
