-- The fields of an index's records (rem0rec, dict0dict).
use Rattle.std.specs.Prelude.{ℕ, ◌+◌, Bool, true, false, not, ◌==◌, if◌then◌else◌, List, [], ◌∷◌, ◌++◌, length, map}
use Rattle.std.specs.Prelude.{filter, filter_map, slice_get}
use Rattle.std.specs.List.{range_with_len, list_any, position_or_len}
use Rattle.column_values.specs.declared.field.FieldType.TheVariants as fields
use Rattle.column_values.specs.declared.field.Field.{Field}
use Rattle.column_values.specs.Types.{Fields, is_big_kind, nullable_count, child_field}
use Rattle.schema_text.specs.declared.table.Column.{Column}
use Rattle.schema_text.specs.TableDef.{TableDef, index_at, clustered}

-- a column as a field that stays on the page, and as one that may leave it where it is big
abbrev pub kept_field : Column → Field
kept_field column = record { kind = fields.Column column.kind; nullable = column.nullable; may_leave = false }

abbrev pub leaving_field : Column → Field
leaving_field column = record {
  kind = fields.Column column.kind;
  nullable = column.nullable;
  may_leave = is_big_kind column.kind;
}

-- the hidden fields, of fixed length
abbrev pub row_id_field : Field
row_id_field = record { kind = fields.RowId; nullable = false; may_leave = false }

abbrev pub trx_id_field : Field
trx_id_field = record { kind = fields.TrxId; nullable = false; may_leave = false }

abbrev pub roll_pointer_field : Field
roll_pointer_field = record { kind = fields.RollPointer; nullable = false; may_leave = false }

-- the columns at these positions, as fields that stay, and as fields that may leave the page
abbrev pub columns_at : List Column → List ℕ → List Column
columns_at columns positions = filter_map (slice_get columns) positions

abbrev pub kept_at : List Column → List ℕ → List Field
kept_at columns positions = map kept_field (columns_at columns positions)

abbrev pub leaving_at : List Column → List ℕ → List Field
leaving_at columns positions = map leaving_field (columns_at columns positions)

abbrev pub kept_fields : TableDef → List ℕ → List Field
kept_fields table positions = kept_at table.columns positions

-- the positions among these that aren't among the others
abbrev pub positions_without : List ℕ → List ℕ → List ℕ
positions_without all others = filter (λ i. not (list_any (λ j. j == i) others)) all

abbrev pub clustered_positions : TableDef → List ℕ
clustered_positions table = (clustered table).columns

-- the positions of the columns that aren't in the clustered key
abbrev pub other_positions : TableDef → List ℕ
other_positions table = positions_without (range_with_len 0 (length table.columns)) (clustered_positions table)

-- the columns at these positions, or the hidden row id where there are no key columns at all
abbrev pub row_key : List Column → List ℕ → List ℕ → List Field
row_key columns key positions = if length key == 0 then row_id_field ∷ [] else kept_at columns positions

-- the key of the clustered index: its columns, or the hidden row id
abbrev pub clustered_key : TableDef → List Field
clustered_key table = row_key table.columns (clustered_positions table) (clustered_positions table)

-- what a secondary entry keeps of the clustered key
abbrev pub row_reference : TableDef → List ℕ → List Field
row_reference table positions = row_key table.columns (clustered_positions table)
    (positions_without (clustered_positions table) positions)

-- what follows the key in a clustered leaf record
abbrev pub clustered_rest : TableDef → List Field
clustered_rest table = trx_id_field ∷ roll_pointer_field ∷ leaving_at table.columns (other_positions table)

-- the fields of a secondary entry
abbrev pub secondary_fields : TableDef → List ℕ → List Field
secondary_fields table positions = kept_fields table positions ++ row_reference table positions

-- the key of index j, all fields of a secondary one, and what follows the key in its leaf records
abbrev pub key_fields : TableDef → ℕ → List Field
key_fields table j = if j == 0 then clustered_key table else secondary_fields table (index_at table j).columns

abbrev pub rest_fields : TableDef → ℕ → List Field
rest_fields table j = if j == 0 then clustered_rest table else []

-- the fields of the leaf records of index j
unfoldable pub leaf_fields : TableDef → ℕ → Fields
leaf_fields table j =
    let list = key_fields table j ++ rest_fields table j in
    record { fields = list; nullable = nullable_count list; keys = length (key_fields table j) }

-- the fields of an index's node pointers: the key and the child page
unfoldable pub node_fields : TableDef → ℕ → Fields
node_fields table j = record {
  fields = key_fields table j ++ child_field ∷ [];
  nullable = nullable_count (key_fields table j ++ rest_fields table j);
  keys = length (key_fields table j);
}

abbrev pub index_fields : TableDef → ℕ → Bool → Fields
index_fields table j true = leaf_fields table j
index_fields table j false = node_fields table j

-- the place of a column among the fields of a clustered leaf record
unfoldable pub field_of_column : TableDef → ℕ → ℕ
field_of_column table column =
    if list_any (λ i. i == column) (clustered_positions table)
    then position_or_len (λ i. i == column) (clustered_positions table)
    else length (clustered_key table) + 2 + position_or_len (λ i. i == column) (other_positions table)

-- the fields of the columns of a table, in its order
abbrev pub fields_of_columns : TableDef → List ℕ
fields_of_columns table = map (field_of_column table) (range_with_len 0 (length table.columns))

-- the columns of an entry of index j: its own, and the others of the clustered key
abbrev pub entry_columns : TableDef → ℕ → List ℕ
entry_columns table j =
    (index_at table j).columns ++ positions_without (clustered_positions table) (index_at table j).columns

-- the hidden row id, the first field of a clustered leaf record, if there is no clustered key
abbrev pub hidden_fields : TableDef → List ℕ
hidden_fields table = if length (clustered_positions table) == 0 then 0 ∷ [] else []

-- the fields of a clustered leaf record that an entry of index j has
unfoldable pub entry_fields : TableDef → ℕ → List ℕ
entry_fields table j = map (field_of_column table) (entry_columns table j) ++ hidden_fields table
