-- Rows in the order of their keys.
use Rattle.std.proofs.Common.{◌≡◌, ℕ, ◌+◌, ◌<◌, ◌≤◌, List, length, get_or, Option, None, sym}
use Rattle.std.proofs.Common.{ap, ◌∙◌, arith}
use Rattle.std.specs.declared.cmp.Ordering.{Ordering}
use Rattle.std.specs.Ordering.{ordering_then}
use Rattle.std.specs.List.{range_with_len}
use Rattle.std.specs.List.Sorted.{IsPermutation}
use Rattle.std.proofs.Common.{subst}
use Rattle.std.proofs.lemmas.List.{length-map, get_or-map}
use Rattle.column_values.specs.declared.field.FieldType.{FieldType}
use Rattle.column_values.specs.declared.field.FieldType.TheVariants.{Child}
use Rattle.column_values.specs.Types.{Fields, field_at}
use Rattle.column_values.specs.Order.{Key, cell_cmp}
use Rattle.compact_record.specs.Reading.{key_kinds}
use Rattle.row_layout.specs.StoredRow.{Stored, stored_at}
use Rattle.row_store.specs.StoredRows.{value_of}
use Rattle.compact_record.proofs.KeyOrders.{LeftOf, cells_decide, kinds_size, kind_of_field}
use Rattle.space_builder.specs.calls.Picked.{picked_key}
use Rattle.key_ranks.specs.Keys.{IsRowOrder}
use Rattle.space_builder.specs.calls.Order.{IsKeyOrder, table_of}

module _ (list : Fields) (fields : List ℕ) (a b : List Stored) (few : list.keys ≤ length list.fields)
    (each : length fields ≡ list.keys) where
  abbrev pub first : Key
  first = picked_key fields a

  abbrev pub second : Key
  second = picked_key fields b

  size : (row : List Stored) → length (picked_key fields row) ≡ length (key_kinds list)
  size row = length-map fields (λ i. value_of (stored_at row i)) ∙ each ∙ sym (kinds_size list few)

  cell : (row : List Stored) (i field : ℕ) (value : Option (List ℕ)) → i < length fields → field ≡ get_or fields i 0
      → value ≡ value_of (stored_at row field) → value ≡ get_or (picked_key fields row) i None
  cell row i field value below is read =
      read ∙ ap (λ (k : ℕ). value_of (stored_at row k)) is
      ∙ sym (get_or-map (λ k. value_of (stored_at row k)) fields i 0 None below)

  -- the fields of two rows at a place decide, or what is left behind them does
  pub rows_decide : (i field : ℕ) (kind : FieldType) (x y : Option (List ℕ)) (o answer whole : Ordering)
      → i < length fields → field ≡ get_or fields i 0 → kind ≡ (field_at list i).kind
      → x ≡ value_of (stored_at a field) → y ≡ value_of (stored_at b field) → o ≡ cell_cmp kind x y → o ≡ answer
      → LeftOf (key_kinds list) first second i ≡ whole
      → ordering_then answer (LeftOf (key_kinds list) first second (i + 1)) ≡ whole
  rows_decide i field kind x y o answer whole below is of read_x read_y compared says left =
      cells_decide (key_kinds list) first second i Child kind o answer whole (size a) (size b)
      (omega (arith, below, each, kinds_size list few)) (of ∙ kind_of_field list i few (omega (arith, below, each)))
      (compared ∙ ap (λ (v : Option (List ℕ)). cell_cmp kind v y) (cell a i field x below is read_x)
      ∙ ap (cell_cmp kind (get_or first i None)) (cell b i field y below is read_y))
      says left

-- rows in the order of these keys
pub order_from_rows : (list : Fields) (fields : List ℕ) (rows : List (List Stored)) (count : ℕ) (found order : List ℕ)
    → count ≡ length rows → order ≡ found
    → IsRowOrder (table_of (record { list = list; fields = fields; rows = rows })) count found
    → IsKeyOrder (key_kinds list) fields rows order
order_from_rows list fields rows count found order all is sorted =
    subst (λ (numbers : List ℕ). IsKeyOrder (key_kinds list) fields rows numbers) (sym is)
    (record {
      moved = subst (λ (n : ℕ). IsPermutation (range_with_len 0 n) found) all sorted.places;
      sorted = sorted.sorted;
    })
