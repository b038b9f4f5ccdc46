-- What reads the rows of a table on their leaves.
use Rattle.std.specs.Prelude.{◌≡◌, ◌≤◌, ℕ, List, length}
use Rattle.column_values.specs.Types.{Fields}
use Rattle.compact_record.specs.declared.places.Place.{Place}
use Rattle.schema_text.specs.TableDef.{TableDef}
use Rattle.schema_text.specs.IndexFields.{leaf_fields}
use Rattle.schema_text.specs.IndexFields.{fields_of_columns}

-- what a reader knows: its table, and where the fields of the record lie that was read last
pub record ReaderView : Type 0 where
  pub table : TableDef
  pub places : List Place

-- a reader knows the fields of a leaf record and those of the columns, and has room for all their places
pub record IsReader (table : TableDef) (at : List ℕ) (fields : Fields) (members : ℕ) : Type 0 where
  pub columns : at ≡ fields_of_columns table
  pub leaf : fields ≡ leaf_fields table 0
  pub few : length fields.fields ≤ 128
  pub room : length fields.fields ≤ members
