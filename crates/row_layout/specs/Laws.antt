-- Laws of the definitions, each the contract of a function in the module of laws.
use Rattle.std.specs.Prelude.{◌≡◌, ℕ, ◌≤◌, false, List, length, Some}
use Rattle.column_values.specs.declared.kind.ColumnType.{ColumnType}
use Rattle.column_values.specs.declared.value.Value.{Value}
use Rattle.column_values.specs.Types.{IsColumnType, greatest_length}
use Rattle.column_values.specs.Spell.{Spell}
use Rattle.schema_text.specs.TableDef.{TableDef}
use Rattle.table_check.specs.Rows.{AreRows}
use Rattle.table_check.specs.Valid.{HasValues, HasOnlyLeftOvers}
use Rattle.row_layout.specs.StoredRow.{Stored, stored_row, fitted_row, is_too_long}
use Rattle.row_layout.specs.Fitting.{Fits, HasOneFit, AreFieldsOf}
use Rattle.row_layout.specs.HoldsValues.{HoldsRows, HaveOwnPages, HasNoOthers}

-- of a row that is too long the longest columns that may go do so until it isn't, or none may go
abbrev pub RowsAreFitted : Type 0
RowsAreFitted =
    (table : TableDef) (i : ℕ) (row : List Value) → Fits table (stored_row table i row) (fitted_row table i row)

-- a row that is too long is fitted in one way
abbrev pub RowsFitOnce : Type 0
RowsFitOnce = (table : TableDef) (row : List Stored) → HasOneFit table row

-- the fields of a row that was fitted have the values that they had, and it is short enough
pub record IsFitted (table : TableDef) (i : ℕ) (row : List Value) (found : List Stored) : Type 0 where
  pub fields : AreFieldsOf table (stored_row table i row) found
  pub short : is_too_long table found ≡ false

abbrev pub FittedRowsAreRows : Type 0
FittedRowsAreRows =
    (table : TableDef) (i : ℕ) (row : List Value) (found : List Stored) → fitted_row table i row ≡ Some found
    → IsFitted table i row found

-- a value of a type has at most so many bytes as its type may
abbrev pub ValuesFit : Type 0
ValuesFit =
    (kind : ColumnType) (value : Value) (bytes : List ℕ) → IsColumnType kind → Spell kind value bytes
    → length bytes ≤ greatest_length kind

-- a file that holds the rows of a table has these rows
abbrev pub HeldRowsAreRows : Type 0
HeldRowsAreRows =
    (file : List ℕ) (table : TableDef) (rows : List (List Value)) (stored : List (List Stored))
    (number : ℕ → ℕ → ℕ → ℕ) → HoldsRows file table rows stored number → AreRows file table rows

-- the values of a file that holds the rows are sound if their pages are their own
abbrev pub HeldValuesAreSound : Type 0
HeldValuesAreSound =
    (file : List ℕ) (table : TableDef) (rows : List (List Value)) (stored : List (List Stored))
    (number : ℕ → ℕ → ℕ → ℕ) → HoldsRows file table rows stored number → HaveOwnPages file table stored number
    → HasValues file table

-- nothing is left over in a file that holds the rows if no other page is used
abbrev pub NothingIsLeftOver : Type 0
NothingIsLeftOver =
    (file : List ℕ) (table : TableDef) (rows : List (List Value)) (stored : List (List Stored))
    (number : ℕ → ℕ → ℕ → ℕ) → HoldsRows file table rows stored number → HasNoOthers file table stored number
    → HasOnlyLeftOvers file table
