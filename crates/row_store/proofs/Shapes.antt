-- The fields of a stored row, and those of its key.
use Rattle.std.proofs.Common.{◌≡◌, ◌≢◌, ℕ, ◌+◌, ◌<◌, ◌≤◌, Bool, true, false, cond, eqb, List, [], ◌∷◌, ◌++◌}
use Rattle.std.proofs.Common.{length, map, take, replicate, All, None, refl, sym, ap, ◌∙◌}
use Rattle.std.proofs.Common.{arith, not}
use Rattle.std.specs.List.{list_any, range_with_len}
use Rattle.std.proofs.lemmas.Bool.{ne_eqb}
use Rattle.std.proofs.lemmas.List.{length-append, length-map, length-take-le, take_at, get_or-map, get_or-take}
use Rattle.std.proofs.lemmas.List.{ext_get_or, append-nil}
use Rattle.std.proofs.lemmas.List.Elements.{All-filter, All-from_get_or, filter-append}
use Rattle.std.proofs.lemmas.List.FromFn.{length-range_with_len, get_or-range_with_len}
use Rattle.column_values.specs.declared.value.Value.{Value}
use Rattle.compact_record.specs.Writing.{part_cell}
use Rattle.schema_text.specs.declared.table.Format.{Format}
use Rattle.schema_text.specs.TableDef.{TableDef}
use Rattle.schema_text.specs.Grammar.{IsTable}
use Rattle.schema_text.specs.IndexFields.{leaf_fields, clustered_positions, other_positions, columns_at}
use Rattle.schema_text.specs.IndexFields.{kept_field, leaving_field, row_id_field, key_fields, rest_fields, kept_at}
use Rattle.schema_text.specs.IndexFields.{leaving_at, positions_without}
use Rattle.row_layout.specs.StoredRow.{Stored, stored_at, kept, stored_column, stored_key, stored_row, row_id}
use Rattle.row_layout.specs.StoredRow.{part_of_field}
use Rattle.row_layout.specs.Fitting.{AreFieldsOf}
use Rattle.row_layout.specs.RowKeys.{column_key}
use Rattle.row_store.specs.StoredRows.{value_of}
use Rattle.row_store.specs.calls.NextRow.{first_cells}
use Rattle.schema_text.proofs.ColumnFields.{length_known, key_known}
use Rattle.row_store.proofs.Spots.{no_field}
use Rattle.page_source.proofs.Members.{range_more}

pub others_known : (table : TableDef) → All (λ i. i < length table.columns) (other_positions table)
others_known table =
    All-filter _ (λ i. i < length table.columns) (range_with_len 0 (length table.columns))
    (All-from_get_or (λ i. i < length table.columns) (range_with_len 0 (length table.columns)) 0
    (λ k below.
    let size = length-range_with_len 0 (length table.columns) in
    let at = get_or-range_with_len 0 (length table.columns) k 0 (omega arith) in omega arith))

-- the key of a stored row has as many fields as that of the index
same_key : (table : TableDef) (i : ℕ) (row : List Value) (b : Bool) → IsTable table
    → length (cond b (row_id i ∷ []) (map (stored_column table row) (clustered_positions table)))
    ≡ length (cond b (row_id_field ∷ []) (kept_at table.columns (clustered_positions table)))
same_key table i row true is = refl
same_key table i row false is =
    length-map (clustered_positions table) (stored_column table row)
    ∙ sym (length-map (columns_at table.columns (clustered_positions table)) kept_field
    ∙ length_known table.columns (clustered_positions table) (key_known table is))

same_others : (table : TableDef) (row : List Value)
    → length (map (stored_column table row) (other_positions table))
    ≡ length (leaving_at table.columns (other_positions table))
same_others table row =
    length-map (other_positions table) (stored_column table row)
    ∙ sym (length-map (columns_at table.columns (other_positions table)) leaving_field
    ∙ length_known table.columns (other_positions table) (others_known table))

pub length-stored_row : (table : TableDef) (i : ℕ) (row : List Value) → IsTable table
    → length (stored_row table i row) ≡ length (leaf_fields table 0).fields
unfolding stored_row leaf_fields
length-stored_row table i row is =
    let key = same_key table i row (eqb (length (clustered_positions table)) 0) is in
    let others = same_others table row in
    let left = length-append (stored_key table i row)
    (kept (replicate 6 0) ∷ kept (replicate 7 0) ∷ map (stored_column table row) (other_positions table)) in
    let right = length-append (key_fields table 0) (rest_fields table 0) in
    omega arith

pub keys_within : (table : TableDef) → (leaf_fields table 0).keys ≤ length (leaf_fields table 0).fields
unfolding leaf_fields
keys_within table =
    let size = length-append (key_fields table 0) (rest_fields table 0) in omega arith

pub keys_are : (table : TableDef) → IsTable table → length (clustered_positions table) ≢ 0
    → (leaf_fields table 0).keys ≡ length (clustered_positions table)
unfolding leaf_fields
keys_are table is some =
    ap (λ b. length (cond b (row_id_field ∷ []) (kept_at table.columns (clustered_positions table))))
    (ne_eqb (length (clustered_positions table)) 0 some)
    ∙ length-map (columns_at table.columns (clustered_positions table)) kept_field
    ∙ length_known table.columns (clustered_positions table) (key_known table is)

-- a field on the page, as one of a key
cell_is : (format : Format) (null : Bool) (bytes : List ℕ)
    → value_of (record { null = null; off = false; bytes = bytes })
    ≡ part_cell (part_of_field format 0 (record { null = null; off = false; bytes = bytes }))
cell_is format true bytes = refl
cell_is format false bytes = refl

cells_are : (table : TableDef) (row : List Value) (places : List ℕ)
    → map value_of (map (stored_column table row) places)
    ≡ map (λ (field : Stored). part_cell (part_of_field table.format 0 field)) (map (stored_column table row) places)
cells_are table row [] = refl
cells_are table row (c ∷ places) =
    let here = cell_is table.format (stored_column table row c).null (stored_column table row c).bytes in
    let rest = cells_are table row places in
    rw (here, rest) refl

-- the key of a row, by its columns
pub key_cells : (table : TableDef) (i : ℕ) (row : List Value) → IsTable table
    → length (clustered_positions table) ≢ 0
    → first_cells (leaf_fields table 0).keys (stored_row table i row) ≡ column_key table row
unfolding stored_row
key_cells table i row is some =
    let places = clustered_positions table in
    let rest = kept (replicate 6 0) ∷ kept (replicate 7 0) ∷ map (stored_column table row) (other_positions table) in
    let key : stored_key table i row ≡ map (stored_column table row) places =
    ap (λ b. cond b (row_id i ∷ []) (map (stored_column table row) (clustered_positions table)))
    (ne_eqb (length (clustered_positions table)) 0 some) in
    let front : take (leaf_fields table 0).keys (stored_key table i row ++ rest)
    ≡ map (stored_column table row) places =
    ap (λ n. take n (stored_key table i row ++ rest)) (keys_are table is some)
    ∙ ap (λ (fields : List Stored). take (length places) (fields ++ rest)) key
    ∙ take_at (map (stored_column table row) places) rest (length places) (length-map places (stored_column table row))
    in
    ap (map value_of) front ∙ cells_are table row places

-- fields that went off the page have the values that they had
cell_same : (a b : Stored) → a.null ≡ b.null → a.bytes ≡ b.bytes → value_of a ≡ value_of b
cell_same a b null bytes = rw (null, bytes) refl

pub cells_same : (table : TableDef) (old now : List Stored) (n : ℕ) → AreFieldsOf table old now → n ≤ length old
    → first_cells n now ≡ first_cells n old
cells_same table old now n are within =
    let count = are.count in
    let left = length-map (take n now) value_of ∙ length-take-le n now (omega arith) in
    let right = length-map (take n old) value_of ∙ length-take-le n old within in
    ext_get_or None (first_cells n now) (first_cells n old) (omega arith)
    (λ k below.
    let inside : k < n = omega arith in
    let short = length-take-le n now (omega arith) in
    let long = length-take-le n old within in
    let here = are.each k (omega arith) in
    get_or-map value_of (take n now) k no_field None (omega arith)
    ∙ ap value_of (get_or-take n now k no_field inside)
    ∙ cell_same (stored_at now k) (stored_at old k) here.null here.bytes
    ∙ ap value_of (sym (get_or-take n old k no_field inside))
    ∙ sym (get_or-map value_of (take n old) k no_field None (omega arith)))

-- one position more, which is among the others or not
without_next : (key : List ℕ) (n : ℕ) (b : Bool) → list_any (λ j. eqb j n) key ≡ b
    → positions_without (range_with_len 0 (n + 1)) key
    ≡ positions_without (range_with_len 0 n) key ++ cond (not b) (n ∷ []) []
without_next key n b is =
    ap (λ (xs : List ℕ). positions_without xs key) (range_more n)
    ∙ filter-append (λ i. not (list_any (λ j. eqb j i) key)) (range_with_len 0 n) (n ∷ [])
    ∙ ap (λ c. positions_without (range_with_len 0 n) key ++ cond (not c) (n ∷ []) []) is

pub others_same : (key : List ℕ) (n : ℕ) (now : List ℕ) → list_any (λ j. eqb j n) key ≡ true
    → now ≡ positions_without (range_with_len 0 n) key → now ≡ positions_without (range_with_len 0 (n + 1)) key
others_same key n now is before =
    before ∙ sym (append-nil (positions_without (range_with_len 0 n) key)) ∙ sym (without_next key n true is)

pub others_more : (key : List ℕ) (n : ℕ) (now next : List ℕ) → list_any (λ j. eqb j n) key ≡ false
    → now ≡ positions_without (range_with_len 0 n) key → next ≡ now ++ n ∷ []
    → next ≡ positions_without (range_with_len 0 (n + 1)) key
others_more key n now next is before more =
    more ∙ ap (λ (xs : List ℕ). xs ++ n ∷ []) before ∙ sym (without_next key n false is)
