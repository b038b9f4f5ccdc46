-- What is built is sound, and holds the rows.
use Rattle.std.specs.Prelude.{◌≡◌, ℕ, ◌+◌, ◌<◌, List, length}
use Rattle.space_audit.specs.Audit.{IsSoundSpace}
use Rattle.schema_text.specs.Formats.{flags_of}
use Rattle.schema_text.specs.TableDef.{TableDef, index_at}
use Rattle.schema_text.specs.Grammar.{IsTable}
use Rattle.table_check.specs.Rows.{AreRows}
use Rattle.table_check.specs.Valid.{IsValid, HasTrees, HasValues, HasOnlyLeftOvers}
use Rattle.row_layout.specs.RowKeys.{AreTableRows, RowsRise}
use Rattle.row_store.specs.StoredRows.{Rows, HaveFittedRows}
use Rattle.space_builder.specs.layout.Layout.{FitsSpace, layout_file}

-- a table whose roots are the first pages behind the tablespace's own
abbrev pub HasRootsInOrder : TableDef → Type 0
HasRootsInOrder table = (j : ℕ) → j < length table.indexes → (index_at table j).root ≡ 3 + j

-- a table and rows that can be built: there is a row id of six bytes for each row
pub record CanBuild (table : TableDef) (rows : Rows) : Type 0 where
  pub is_table : IsTable table
  pub roots : HasRootsInOrder table
  pub are_rows : AreTableRows table rows
  pub rise : RowsRise table rows
  pub fitted : HaveFittedRows table rows
  pub few : length rows < 281474976710656
  pub fits : FitsSpace table rows

-- each fact of a built file
abbrev pub OfBuilt : (List ℕ → TableDef → Rows → Type 0) → Type 0
OfBuilt Fact = (table : TableDef) (rows : Rows) → CanBuild table rows → Fact (layout_file table rows) table rows

-- the space of a built file is sound, and so are its trees and its values; nothing is left over
abbrev pub BuildsSpace : Type 0
BuildsSpace = OfBuilt (λ file table rows. IsSoundSpace file (flags_of table.format))

abbrev pub BuildsTrees : Type 0
BuildsTrees = OfBuilt (λ file table rows. HasTrees file table)

abbrev pub BuildsValues : Type 0
BuildsValues = OfBuilt (λ file table rows. HasValues file table)

abbrev pub BuildsNoLeftOvers : Type 0
BuildsNoLeftOvers = OfBuilt (λ file table rows. HasOnlyLeftOvers file table)

-- a built file holds the rows
abbrev pub BuildsRows : Type 0
BuildsRows = OfBuilt (λ file table rows. AreRows file table rows)

-- a built file is valid, and holds the rows
abbrev pub BuildsValid : Type 0
BuildsValid = OfBuilt (λ file table rows. IsValid file table × AreRows file table rows)
