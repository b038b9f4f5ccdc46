-- What comes of a row that is too long, column by column.
use Rattle.std.specs.Prelude.{◌≡◌, ◌≢◌, ℕ, zero, suc, ◌<◌, true, false, List, length, Option, Some, None}
use Rattle.column_values.specs.declared.field.Field.{Field}
use Rattle.column_values.specs.Types.{field_at}
use Rattle.schema_text.specs.declared.table.Format.{Format}
use Rattle.schema_text.specs.TableDef.{TableDef}
use Rattle.schema_text.specs.IndexFields.{leaf_fields}
use Rattle.row_layout.specs.StoredRow.{Stored, stored_at, is_too_long, going_lengths, greatest, longest_off, going_over}

-- a row after so many of its columns went, each the longest one that may
abbrev pub row_after : TableDef → ℕ → List Stored → List Stored
row_after table zero row = row
row_after table (suc n) row = row_after table n (longest_off table row)

-- one more column goes
pub record LosesColumn (table : TableDef) (row : List Stored) : Type 0 where
  pub long : is_too_long table row ≡ true
  pub some : greatest (going_lengths table row) ≢ 0

-- columns go while the record is too long; it is not in the end, or no column may go
pub record FitsAs (table : TableDef) (row found : List Stored) : Type 0 where
  pub count : ℕ
  pub before : (k : ℕ) → k < count → LosesColumn table (row_after table k row)
  pub is : found ≡ row_after table count row
  pub short : is_too_long table found ≡ false

pub record FitsNever (table : TableDef) (row : List Stored) : Type 0 where
  pub count : ℕ
  pub before : (k : ℕ) → k < count → LosesColumn table (row_after table k row)
  pub long : is_too_long table (row_after table count row) ≡ true
  pub none : greatest (going_lengths table (row_after table count row)) ≡ 0

abbrev pub Fits : TableDef → List Stored → Option (List Stored) → Type 0
Fits table row (Some found) = FitsAs table row found
Fits table row None = FitsNever table row

-- a field that went has a value, may leave the page, and has more bytes than stay
pub record WentOff (format : Format) (field : Field) (stored : Stored) : Type 0 where
  pub some : stored.null ≡ false
  pub leaves : field.may_leave ≡ true
  pub long : going_over format < length stored.bytes

-- what became of a field: its value is as before
pub record IsFieldOf (format : Format) (field : Field) (old now : Stored) : Type 0 where
  pub null : now.null ≡ old.null
  pub bytes : now.bytes ≡ old.bytes
  pub went : now.off ≡ true → WentOff format field now

-- what became of all fields of a row
pub record AreFieldsOf (table : TableDef) (old now : List Stored) : Type 0 where
  pub count : length now ≡ length old
  pub each : (i : ℕ) → i < length old
      → IsFieldOf table.format (field_at (leaf_fields table 0) i) (stored_at old i) (stored_at now i)

-- a row fits as at most one row, and not where it never does
pub record HasOneFit (table : TableDef) (row : List Stored) : Type 0 where
  pub one : (a b : List Stored) → FitsAs table row a → FitsAs table row b → a ≡ b
  pub never : (a : List Stored) → FitsAs table row a → FitsNever table row → ⊥
