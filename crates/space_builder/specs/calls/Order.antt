-- Rows in the order of their entries in an index.
use Rattle.std.specs.Prelude.{◌≡◌, ℕ, ◌≤◌, Bool, List, length, IsPermutation, IsSortedBy}
use Rattle.std.specs.List.{range_with_len}
use Rattle.std.specs.Ordering.{is_lt}
use Rattle.column_values.specs.declared.field.FieldType.{FieldType}
use Rattle.column_values.specs.Types.{Fields}
use Rattle.column_values.specs.Order.{key_cmp}
use Rattle.compact_record.specs.Reading.{key_kinds}
use Rattle.schema_text.specs.TableDef.{TableDef}
use Rattle.schema_text.specs.IndexFields.{leaf_fields, entry_fields}
use Rattle.row_layout.specs.StoredRow.{Stored}
use Rattle.key_ranks.specs.Keys.{KeyTable}
use Rattle.row_layout.specs.HoldsValues.{stored_in}
use Rattle.space_builder.specs.calls.Picked.{picked_key}

-- the first of two rows has the lower key, by these fields
abbrev pub is_row_below : List FieldType → List ℕ → List (List Stored) → ℕ → ℕ → Bool
is_row_below kinds fields rows a b =
    is_lt (key_cmp kinds (picked_key fields (stored_in rows a)) (picked_key fields (stored_in rows b)))

-- each row once, so that the keys don't fall
pub record IsKeyOrder (kinds : List FieldType) (fields : List ℕ) (rows : List (List Stored)) (order : List ℕ)
    : Type 0 where
  pub moved : IsPermutation (range_with_len 0 (length rows)) order
  pub sorted : IsSortedBy (is_row_below kinds fields rows) order

-- each row once, so that the entries of index j don't fall
abbrev pub IsIndexOrder : TableDef → List (List Stored) → ℕ → List ℕ → Type 0
IsIndexOrder table rows j order = IsKeyOrder (key_kinds (leaf_fields table j)) (entry_fields table j) rows order

-- the list of an index, and which fields of these rows its fields are
pub record Picking : Type 0 where
  pub list : Fields
  pub fields : List ℕ
  pub rows : List (List Stored)

-- the keys of the rows
abbrev pub table_of : Picking → KeyTable
table_of keys =
    record { kinds = key_kinds keys.list; key = λ r. picked_key keys.fields (stored_in keys.rows r) }

-- each field of a key of this list is picked
pub record PicksKeys (list : Fields) (fields : List ℕ) : Type 0 where
  pub few : list.keys ≤ length list.fields
  pub each : length fields ≡ list.keys
