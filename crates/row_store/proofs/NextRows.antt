-- The row of a line behind others, as it is stored.
use Rattle.std.proofs.Common.{◌≡◌, ◌≢◌, ℕ, ◌+◌, ◌-◌, ◌<◌, ◌≤◌, true, false, List, [], ◌∷◌}
use Rattle.std.proofs.Common.{◌++◌, length, map, take, get_or, Option, Some, None, unwrap_or, is_some, refl}
use Rattle.std.proofs.Common.{replicate, sym, ap, ◌∙◌, subst, arith, inl, inr}
use Rattle.std.specs.List.{range_with_len}
use Rattle.std.specs.declared.cmp.Ordering.{Ordering}
use Rattle.std.specs.Ordering.{ordering_then}
use Rattle.std.proofs.lemmas.Bool.{cases_lt, false≢true}
use Rattle.std.proofs.lemmas.List.{length-map, length-take-le, length_push, get_or-map, get_or-take}
use Rattle.std.proofs.lemmas.List.{get_or_append_left, get_or_push, append_assoc, map_more, get_or_read}
use Rattle.std.proofs.lemmas.List.FromFn.{length-map-range_with_len, get_or-map-range_with_len, map-range_with_len_more}
use Rattle.std.proofs.lemmas.List.FromFn.{fill_by_all}
use Rattle.column_values.specs.declared.field.Field.{Field}
use Rattle.column_values.specs.declared.kind.ColumnType.TheVariants.{Int}
use Rattle.column_values.specs.declared.value.Value.{Value}
use Rattle.column_values.specs.declared.value.Value.TheVariants.{Null}
use Rattle.column_values.specs.Types.{Fields}
use Rattle.column_values.specs.Order.{cell_cmp, IsBelow}
use Rattle.compact_record.specs.Reading.{key_kinds}
use Rattle.schema_text.specs.declared.table.Column.{Column}
use Rattle.schema_text.specs.TableDef.{TableDef, column_at}
use Rattle.schema_text.specs.Grammar.{IsTable}
use Rattle.schema_text.specs.IndexFields.{leaf_fields, clustered_positions, other_positions}
use Rattle.row_text.specs.Line.{FitsColumn, IsTableRow, IsLineOf}
use Rattle.row_layout.specs.StoredRow.{Stored, stored_at, stored_value, stored_column, stored_key, stored_row, kept}
use Rattle.row_layout.specs.StoredRow.{fitted, fitted_row}
use Rattle.row_layout.specs.RowKeys.{column_key}
use Rattle.row_layout.specs.HoldsValues.{stored_in}
use Rattle.row_layout.specs.Laws.{FittedRowsAreRows}
use Rattle.row_store.specs.StoredRows.{Rows, stored_rows, value_of}
use Rattle.row_store.specs.calls.NextRow.{first_cells, IsAfter, HoldsRows, RisesBehind, IsNextRow, AreWide}
use Rattle.tree_layout.proofs.Zips.{zip_length, zip_at}
use Rattle.row_store.proofs.Spots.{no_field}
use Rattle.compact_record.proofs.KeyOrders.{LeftOf, cells_decide, kinds_size}
use Rattle.row_store.proofs.Shapes.{length-stored_row, keys_within, key_cells, cells_same}

-- the rows of a table with one more
abbrev row_in : TableDef → Rows → ℕ → List Stored
row_in table rows r = unwrap_or (fitted_row table r (get_or rows r [])) []

pub length-stored : (table : TableDef) (rows : Rows) → length (stored_rows table rows) ≡ length rows
unfolding stored_rows
length-stored table rows = length-map-range_with_len (row_in table rows) 0 (length rows)

pub stored_is : (table : TableDef) (rows : Rows) (r : ℕ) → r < length rows
    → stored_in (stored_rows table rows) r ≡ unwrap_or (fitted_row table r (get_or rows r [])) []
unfolding stored_rows
stored_is table rows r within =
    get_or-map-range_with_len (row_in table rows) 0 (length rows) r r [] within (omega arith)

pub stored_more : (table : TableDef) (rows : Rows) (row : List Value) (found : List Stored)
    → fitted_row table (length rows) row ≡ Some found
    → stored_rows table (rows ++ row ∷ []) ≡ stored_rows table rows ++ found ∷ []
unfolding stored_rows
stored_more table rows row found fits =
    let n = length rows in
    let more = rows ++ row ∷ [] in
    let last : row_in table more n ≡ found =
    ap (λ (v : List Value). unwrap_or (fitted_row table n v) []) (get_or_push rows row [] n refl)
    ∙ ap (λ (o : Option (List Stored)). unwrap_or o []) fits in
    ap (λ k. map (row_in table more) (range_with_len 0 k)) (length_push rows row)
    ∙ map-range_with_len_more (row_in table more) 0 n n (omega arith)
    ∙ ap (λ (front : List (List Stored)). front ++ row_in table more n ∷ [])
    (sym (fill_by_all (row_in table more) (map (row_in table rows) (range_with_len 0 n)) n []
    (length-map-range_with_len (row_in table rows) 0 n)
    (λ k below.
    get_or-map-range_with_len (row_in table rows) 0 n k k [] below (omega arith)
    ∙ ap (λ (v : List Value). unwrap_or (fitted_row table k v) [])
    (sym (get_or_append_left rows (row ∷ []) [] k below)))))
    ∙ ap (λ (s : List Stored). map (row_in table rows) (range_with_len 0 n) ++ s ∷ []) last

pub wide_more : (fields : Fields) (stored : List (List Stored)) (row : List Stored) → AreWide fields stored
    → length row ≡ length fields.fields → AreWide fields (stored ++ row ∷ [])
wide_more fields stored row wide same = λ r below.
    let more = length_push stored row in
    elim (cases_lt r (length stored)) [
      | inl old ↦ ap length (get_or_append_left stored (row ∷ []) [] r old) ∙ wide r old
      | inr new ↦ ap length (get_or_push stored row [] r (omega arith)) ∙ same
    ]

-- keys, field by field
length-cells : (n : ℕ) (row : List Stored) → n ≤ length row → length (first_cells n row) ≡ n
length-cells n row within = length-map (take n row) value_of ∙ length-take-le n row within

cell_at_place : (n : ℕ) (row : List Stored) (i : ℕ) → n ≤ length row → i < n
    → get_or (first_cells n row) i None ≡ value_of (stored_at row i)
cell_at_place n row i within inside =
    let size = length-take-le n row within in
    get_or-map value_of (take n row) i no_field None (omega arith)
    ∙ ap value_of (get_or-take n row i no_field inside)

-- a field at its place decides, or what is left behind it does
pub fields_decide : (fields : Fields) (a b : List Stored) (i : ℕ) (d field : Field) (o answer whole : Ordering)
    → fields.keys ≤ length fields.fields → length a ≡ length fields.fields → length b ≡ length fields.fields
    → i < fields.keys → field ≡ get_or fields.fields i d
    → o ≡ cell_cmp field.kind (value_of (stored_at a i)) (value_of (stored_at b i)) → o ≡ answer
    → LeftOf (key_kinds fields) (first_cells fields.keys a) (first_cells fields.keys b) i ≡ whole
    → ordering_then answer
    (LeftOf (key_kinds fields) (first_cells fields.keys a) (first_cells fields.keys b) (i + 1)) ≡ whole
fields_decide fields a b i d field o answer whole within first second below is compared says left =
    let kinds = kinds_size fields within in
    let left-cells = length-cells fields.keys a (omega arith) in
    let right-cells = length-cells fields.keys b (omega arith) in
    let size = length-take-le fields.keys fields.fields within in
    let kind : field.kind ≡ get_or (key_kinds fields) i d.kind =
    ap (λ (f : Field). f.kind) (is ∙ sym (get_or-take fields.keys fields.fields i d below))
    ∙ sym (get_or-map (λ (f : Field). f.kind) (take fields.keys fields.fields) i d d.kind (omega arith)) in
    let cells : o ≡ cell_cmp field.kind (get_or (first_cells fields.keys a) i None)
    (get_or (first_cells fields.keys b) i None) =
    compared
    ∙ ap (λ (c : Option (List ℕ)). cell_cmp field.kind c (value_of (stored_at b i)))
    (sym (cell_at_place fields.keys a i (omega arith) below))
    ∙ ap (cell_cmp field.kind (get_or (first_cells fields.keys a) i None))
    (sym (cell_at_place fields.keys b i (omega arith) below)) in
    cells_decide (key_kinds fields) (first_cells fields.keys a) (first_cells fields.keys b) i d.kind field.kind o
    answer whole (omega arith) (omega arith) (omega arith) kind cells says left

-- the order of stored rows is that of the rows
some_found : (o : Option (List Stored)) → is_some o ≡ true → o ≡ Some (unwrap_or o [])
some_found None some = absurd (false≢true some)
some_found (Some x) some = refl

module _ (fit : FittedRowsAreRows) (table : TableDef) (is : IsTable table) (rows : Rows) (stored : List (List Stored))
    (holds : HoldsRows table rows stored) (row : List Value) (now : List Stored)
    (filled : now ≡ stored_row table (length stored) row) where
  count : length stored ≡ length rows
  count = ap length holds.same ∙ length-stored table rows

  last_cells : length (clustered_positions table) ≢ 0 → 0 < length rows
      → first_cells (leaf_fields table 0).keys (stored_in stored (length stored - 1))
      ≡ column_key table (get_or rows (length rows - 1) [])
  last_cells keys some =
      let r = length rows - 1 in
      let size = count in
      let below : r < length rows = omega arith in
      let value = get_or rows r [] in
      let found = unwrap_or (fitted_row table r value) [] in
      let is_found : fitted_row table r value ≡ Some found =
      some_found (fitted_row table r value) (holds.fitted r below) in
      let last : stored_in stored (length stored - 1) ≡ found =
      ap (λ (s : List (List Stored)). stored_in s (length stored - 1)) holds.same
      ∙ ap (λ n. stored_in (stored_rows table rows) (n - 1)) size ∙ stored_is table rows r below in
      let fields = (fit table r value found is_found).fields in
      let long = length-stored_row table r value is in
      let within = keys_within table in
      ap (first_cells (leaf_fields table 0).keys) last
      ∙ cells_same table (stored_row table r value) found (leaf_fields table 0).keys fields (omega arith)
      ∙ key_cells table r value is keys

  new_cells : length (clustered_positions table) ≢ 0
      → first_cells (leaf_fields table 0).keys now ≡ column_key table row
  new_cells keys =
      ap (first_cells (leaf_fields table 0).keys) filled ∙ key_cells table (length stored) row is keys

  pub rises_behind : IsAfter table stored now → RisesBehind table rows row
  rises_behind after keys some =
      let size = count in
      subst (λ k. IsBelow (key_kinds (leaf_fields table 0)) k (column_key table row)) (last_cells keys some)
      (subst (IsBelow (key_kinds (leaf_fields table 0))
      (first_cells (leaf_fields table 0).keys (stored_in stored (length stored - 1)))) (new_cells keys)
      (after keys (omega arith)))

  pub is_after : RisesBehind table rows row → IsAfter table stored now
  is_after rises keys some =
      let size = count in
      let more : 0 < length rows = omega arith in
      subst (λ k. IsBelow (key_kinds (leaf_fields table 0)) k (first_cells (leaf_fields table 0).keys now))
      (sym (last_cells keys more))
      (subst (IsBelow (key_kinds (leaf_fields table 0)) (column_key table (get_or rows (length rows - 1) [])))
      (sym (new_cells keys)) (rises keys more))

  fitted_as : (found : Option (List Stored)) → fitted table (length now) now ≡ found
      → fitted_row table (length rows) row ≡ found
  unfolding fitted_row
  fitted_as found fits =
      ap (λ n. fitted table (length (stored_row table n row)) (stored_row table n row)) (sym count)
      ∙ ap (λ (s : List Stored). fitted table (length s) s) (sym filled) ∙ fits

  pub order_refused : (line : List ℕ) → IsLineOf table row line → (IsAfter table stored now → ⊥)
      → (RisesBehind table rows row → ⊥)
  order_refused line has never rises = never (is_after rises)

  pub big_refused : fitted table (length now) now ≡ None → fitted_row table (length rows) row ≡ None
  big_refused fits = fitted_as None fits

  pub next_row : (line : List ℕ) (found : List Stored) → IsLineOf table row line → IsAfter table stored now
      → fitted table (length now) now ≡ Some found → IsNextRow table rows line row
  next_row line found has after fits = record {
    has_line = has;
    rises = rises_behind after;
    fits = ap is_some (fitted_as (Some found) fits);
  }

  pub stored_grown : (found : List Stored) → fitted table (length now) now ≡ Some found
      → stored ++ found ∷ [] ≡ stored_rows table (rows ++ row ∷ [])
  stored_grown found fits =
      ap (λ (s : List (List Stored)). s ++ found ∷ []) holds.same
      ∙ sym (stored_more table rows row found (fitted_as (Some found) fits))

-- what a row was filled with
pub filled_as : (table : TableDef) (stored : List (List Stored)) (n : ℕ) (values row : List Value) (now : List Stored)
    → now ≡ stored_row table n values → n ≡ length stored → values ≡ row
    → now ≡ stored_row table (length stored) row
filled_as table stored n values row now filled count same =
    filled ∙ ap (λ k. stored_row table k values) count ∙ ap (stored_row table (length stored)) same

-- the values of a row, column by column
pub length-values : (table : TableDef) (values : List Value) → IsTableRow table values
    → length table.columns ≡ length values
length-values table values is = zip_length FitsColumn table.columns values is

pub value_fits : (table : TableDef) (columns : List Column) (values : List Value) (c : ℕ) (column : Column)
    (value : Value) → IsTableRow table values → columns ≡ table.columns → c < length table.columns
    → column ≡ get_or columns c column → value ≡ get_or values c value → FitsColumn column value
value_fits table columns values c column value is same below column_is value_is =
    let here : column ≡ get_or table.columns c column =
    column_is ∙ ap (λ (cs : List Column). get_or cs c column) same in
    subst (λ (k : Column). FitsColumn k value) (sym here)
    (subst (FitsColumn (get_or table.columns c column)) (sym value_is)
    (zip_at FitsColumn table.columns values c column value is below))

pub columns_more : (table : TableDef) (columns : List Column) (values : List Value) (places : List ℕ)
    (old now next : List Stored) (k c : ℕ) (column : Column) (value : Value) → IsTableRow table values
    → columns ≡ table.columns → now ≡ old ++ map (stored_column table values) (take k places) → k < length places
    → c ≡ get_or places k 0 → c < length table.columns → column ≡ get_or columns c column
    → value ≡ get_or values c value → next ≡ now ++ stored_value column.kind value ∷ []
    → next ≡ old ++ map (stored_column table values) (take (k + 1) places)
columns_more table columns values places old now next k c column value is same now_is below c_is inside column_is
    value_is next_is =
    let f = stored_column table values in
    let long = length-values table values is in
    let none : Column = record { name = []; kind = Int 1 false; nullable = false } in
    let col : column ≡ column_at table c =
    get_or_read table.columns c column inside
    (column_is ∙ ap (λ (cs : List Column). get_or cs c column) same) none in
    let val : value ≡ get_or values c Null = get_or_read values c value (omega arith) value_is Null in
    let one : stored_value column.kind value ≡ stored_column table values (get_or places k 0) =
    ap (λ (k : Column). stored_value k.kind value) col
    ∙ ap (stored_value (column_at table c).kind) val ∙ ap (stored_column table values) c_is in
    next_is ∙ ap (λ (s : Stored). now ++ s ∷ []) one
    ∙ ap (λ (front : List Stored). front ++ stored_column table values (get_or places k 0) ∷ []) now_is
    ∙ append_assoc old (map (stored_column table values) (take k places))
    (stored_column table values (get_or places k 0) ∷ [])
    ∙ ap (λ (more : List Stored). old ++ more) (sym (map_more (stored_column table values) places k 0 below))

-- a whole row, part by part
pub row_filled : (table : TableDef) (i : ℕ) (row : List Value) (a b c d e : List Stored) (places : List ℕ) → a ≡ []
    → b ≡ a ++ stored_key table i row → c ≡ b ++ kept (replicate 6 0) ∷ [] → d ≡ c ++ kept (replicate 7 0) ∷ []
    → places ≡ other_positions table → e ≡ d ++ map (stored_column table row) places → e ≡ stored_row table i row
unfolding stored_row
row_filled table i row a b c d e places none key first second others last =
    let rest = map (stored_column table row) (other_positions table) in
    let front : b ≡ stored_key table i row = key ∙ ap (λ (xs : List Stored). xs ++ stored_key table i row) none in
    last ∙ ap (λ (ps : List ℕ). d ++ map (stored_column table row) ps) others
    ∙ ap (λ (xs : List Stored). xs ++ rest) second
    ∙ append_assoc c (kept (replicate 7 0) ∷ []) rest
    ∙ ap (λ (xs : List Stored). xs ++ kept (replicate 7 0) ∷ rest) first
    ∙ append_assoc b (kept (replicate 6 0) ∷ []) (kept (replicate 7 0) ∷ rest)
    ∙ ap (λ (xs : List Stored). xs ++ kept (replicate 6 0) ∷ kept (replicate 7 0) ∷ rest) front
