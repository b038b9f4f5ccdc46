-- A text whose lines are good can be built, and what is built of it is valid and holds its rows.
use Rattle.std.specs.Prelude.{◌≡◌, ℕ, List, None}
use Rattle.schema_text.specs.TableDef.{TableDef}
use Rattle.schema_text.specs.Grammar.{IsTable}
use Rattle.table_check.specs.Rows.{AreRows}
use Rattle.table_check.specs.Valid.{IsValid}
use Rattle.row_text.specs.Line.{text_of}
use Rattle.row_store.specs.StoredRows.{Rows}
use Rattle.space_builder.specs.layout.Layout.{FitsSpace, layout_file}
use Rattle.space_builder.specs.layout.Laws.{CanBuild}
use Rattle.space_builder.specs.build.RootOrder.{RootOrderChecks}
use Rattle.row_store.specs.BadLine.{AreRowsOf}

-- a schema and a text whose rows can be built
pub record IsGoodText (table : TableDef) (text : List ℕ) (rows : Rows) : Type 0 where
  pub is_table : IsTable table
  pub roots : RootOrderChecks table None
  pub are_rows : AreRowsOf table text rows
  pub fits : FitsSpace table rows

abbrev pub GoodTextsCanBuild : Type 0
GoodTextsCanBuild = (table : TableDef) (text : List ℕ) (rows : Rows) → IsGoodText table text rows → CanBuild table rows

-- what is built of a good text is valid, and holds its rows
abbrev pub GoodTextsBuildValid : Type 0
GoodTextsBuildValid =
    (table : TableDef) (text : List ℕ) (rows : Rows) → IsGoodText table text rows
    → IsValid (layout_file table rows) table × AreRows (layout_file table rows) table rows

-- the lines of the rows of a text are the text
abbrev pub GoodTextsAreOfRows : Type 0
GoodTextsAreOfRows =
    (table : TableDef) (text : List ℕ) (rows : Rows) → AreRowsOf table text rows → text_of table rows ≡ text
