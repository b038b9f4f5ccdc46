-- Rows that are too long: the longest column goes, of equals the first; and one in which none may go.
use Rattle.std.proofs.Common.{◌≡◌, ℕ, List, [], ◌∷◌, replicate, map, true, false, Some, None, refl}
use Rattle.std.specs.List.{range_with_len}
use Rattle.column_values.specs.declared.kind.ColumnType.TheVariants as types
use Rattle.column_values.specs.declared.value.Value.{Value}
use Rattle.column_values.specs.declared.value.Value.TheVariants as values
use Rattle.schema_text.specs.declared.table.Format.{Format}
use Rattle.schema_text.specs.declared.table.Format.TheVariants.{Compact, Dynamic}
use Rattle.schema_text.specs.declared.table.Column.{Column}
use Rattle.schema_text.specs.TableDef.{TableDef}
use Rattle.schema_text.specs.IndexFields.{leaf_fields}
use Rattle.offpage_chain.specs.Reference.{reference_bytes}
use Rattle.compact_record.specs.Writing.{size_of_record, origin_in, bytes_below, value_bytes}
use Rattle.row_layout.specs.StoredRow.{Stored, kept, stored_row, fitted_row, parts_of_row, going_lengths, longest_off}

column : ℕ → Column
column n = record { name = n ∷ []; kind = types.Text 65535; nullable = true }

table : Format → TableDef
table format = record {
  table = 116 ∷ [];
  format = format;
  columns = record { name = 105 ∷ []; kind = types.Int 4 false; nullable = false } ∷ column 110 ∷ column 109 ∷ [];
  indexes = record { name = []; root = 3; columns = 0 ∷ []; line = 5 } ∷ [];
}

row : ℕ → ℕ → List Value
row a b = values.Unsigned 1 ∷ values.Text (replicate a 97) ∷ values.Text (replicate b 98) ∷ []

gone : List ℕ → Stored
gone bytes = record { null = false; off = true; bytes = bytes }

-- the longer one goes
longer_goes : fitted_row (table Dynamic) 0 (row 5000 6000)
    ≡ Some (kept (0 ∷ 0 ∷ 0 ∷ 1 ∷ []) ∷ kept (replicate 6 0) ∷ kept (replicate 7 0) ∷ kept (replicate 5000 97)
    ∷ gone (replicate 6000 98) ∷ [])
unfolding column table row gone fitted_row stored_row longest_off going_lengths parts_of_row size_of_record origin_in
    bytes_below value_bytes leaf_fields reference_bytes
longer_goes = refl

-- of equals the first
first_goes : fitted_row (table Compact) 0 (row 5000 5000)
    ≡ Some (kept (0 ∷ 0 ∷ 0 ∷ 1 ∷ []) ∷ kept (replicate 6 0) ∷ kept (replicate 7 0) ∷ gone (replicate 5000 97)
    ∷ kept (replicate 5000 98) ∷ [])
unfolding column table row gone fitted_row stored_row longest_off going_lengths parts_of_row size_of_record origin_in
    bytes_below value_bytes leaf_fields reference_bytes
first_goes = refl

-- 33 columns of 255 bytes each are too long, and none of them is big
wide : TableDef
wide = record {
  table = 116 ∷ [];
  format = Dynamic;
  columns = map (λ n. record { name = n ∷ []; kind = types.Char 255; nullable = false }) (range_with_len 1 33);
  indexes = record { name = []; root = 3; columns = []; line = 35 } ∷ [];
}

none_goes : fitted_row wide 0 (replicate 33 (values.Text (replicate 255 97))) ≡ None
unfolding wide fitted_row stored_row longest_off going_lengths parts_of_row size_of_record origin_in bytes_below
    value_bytes leaf_fields
none_goes = refl
