-- The entries of an index that isn't the clustered one have keys of their own, since each holds the whole key of its
-- row.
use Rattle.std.proofs.Common.{◌≡◌, ◌==◌, ℕ, ◌<◌, Bool, true, false, cond, not, List, [], ◌∷◌, ◌++◌}
use Rattle.std.proofs.Common.{length, map, get_or, Option, refl, sym, ap, ◌∙◌, arith, All, Contains}
use Rattle.std.specs.List.{cons_option, list_any}
use Rattle.std.specs.declared.cmp.Ordering.{Ordering}
use Rattle.std.specs.declared.cmp.Ordering.TheVariants.{Less, Equal, Greater}
use Rattle.std.specs.Ordering.{ordering_then}
use Rattle.std.proofs.lemmas.Bool.{ne_eqb}
use Rattle.std.proofs.lemmas.Option.{slice_get-get_or}
use Rattle.std.proofs.lemmas.List.{map-append, take_all, append-nil}
use Rattle.std.proofs.lemmas.List.Elements.{All-head, All-tail, All-cons, All-nil, All-contains}
use Rattle.std.proofs.lemmas.List.FromFn.{get_or-map-range_with_len, length-map-range_with_len}
use Rattle.page_source.proofs.Members.{all_members, contains_filter}
use Rattle.column_values.specs.declared.kind.ColumnType.TheVariants as types
use Rattle.column_values.specs.declared.field.Field.{Field}
use Rattle.column_values.specs.declared.field.FieldType.{FieldType}
use Rattle.column_values.specs.declared.field.FieldType.TheVariants as kinds
use Rattle.column_values.specs.declared.value.Value.{Value}
use Rattle.column_values.specs.Laws.{SpellingSpells}
use Rattle.column_values.specs.Order.{Key, key_cmp, cell_cmp, AreEqualKeys}
use Rattle.compact_record.specs.Reading.{key_kinds}
use Rattle.schema_text.specs.declared.table.Column.{Column}
use Rattle.schema_text.specs.TableDef.{TableDef, column_at, index_at}
use Rattle.schema_text.specs.Grammar.{IsTable}
use Rattle.schema_text.specs.IndexFields.{leaf_fields, key_fields, rest_fields, secondary_fields, kept_fields}
use Rattle.schema_text.specs.IndexFields.{row_reference}
use Rattle.schema_text.specs.IndexFields.{clustered_positions, positions_without, columns_at, kept_at, kept_field}
use Rattle.schema_text.specs.IndexFields.{row_id_field, clustered_key}
use Rattle.schema_text.proofs.ColumnFields.{key_known}
use Rattle.row_text.specs.Line.{IsTableRow}
use Rattle.compact_record.specs.Writing.{part_cell}
use Rattle.tree_layout.specs.Entries.{Entry, key_of_entry}
use Rattle.row_layout.specs.StoredRow.{stored_column, row_id, part_of_field}
use Rattle.row_layout.specs.SecondaryEntries.{stored_reference, stored_entry, secondary_entry, row_entries}
use Rattle.row_layout.specs.RowKeys.{key_of_row}
use Rattle.row_layout.specs.EntryLaws.{EntriesDiffer}
use Rattle.row_layout.proofs.Columns.{has_column, any_contains}
use Rattle.row_layout.proofs.Stored.{StoresField}
use Rattle.row_layout.proofs.Keys.{cell_of, kinds_are, rises}
use Rattle.row_layout.proofs.Secondary.{lacking_known, key_of_index, length-entry, stores_entry}
use Rattle.tree_layout.proofs.Zips.{zip_length}

then_parts : (a b : Ordering) → ordering_then a b ≡ Equal → (a ≡ Equal) × (b ≡ Equal)
then_parts Less b is = absurd (cc)
then_parts Equal b is = (refl, is)
then_parts Greater b is = absurd (cc)

map-map : {A B C : Type 0} (g : B → C) (f : A → B) (xs : List A) → map g (map f xs) ≡ map (λ x. g (f x)) xs
map-map g f [] = refl
map-map g f (x ∷ xs) = ap (λ ys. g (f x) ∷ ys) (map-map g f xs)

-- the kinds of some columns, and their values in a row as a key
abbrev kinds_at : TableDef → List ℕ → List FieldType
kinds_at table positions = map (λ (f : Field). f.kind) (kept_at table.columns positions)

abbrev cells_of : TableDef → List Value → List ℕ → Key
cells_of table values positions = map (cell_of table.format) (map (stored_column table values) positions)

-- two rows, column by column
module _ (table : TableDef) (is : IsTable table) (row other : List Value) where
  abbrev HasEqual : ℕ → Type 0
  HasEqual c = cell_cmp (kinds.Column (column_at table c).kind) (cell_of table.format (stored_column table row c))
      (cell_of table.format (stored_column table other c)) ≡ Equal

  -- the kinds of one column more
  kinds_more : (p : ℕ) (positions : List ℕ) → p < length table.columns
      → kinds_at table (p ∷ positions) ≡ kinds.Column (column_at table p).kind ∷ kinds_at table positions
  kinds_more p positions within =
      ap (λ (o : Option Column). map (λ (f : Field). f.kind) (map kept_field (cons_option o
      (columns_at table.columns positions))))
      (slice_get-get_or table.columns p (record { name = []; kind = types.Int 1 false; nullable = false }) within)

  -- equal keys over some columns, and what stands behind them
  split_equal : (positions : List ℕ) → All (λ c. c < length table.columns) positions
      → (behind : List FieldType) (xs ys : Key)
      → key_cmp (kinds_at table positions ++ behind) (cells_of table row positions ++ xs)
      (cells_of table other positions ++ ys) ≡ Equal
      → All HasEqual positions × (key_cmp behind xs ys ≡ Equal)
  split_equal [] known behind xs ys same = (All-nil HasEqual, same)
  split_equal (p ∷ positions) known behind xs ys same =
      let within : p < length table.columns = All-head (λ c. c < length table.columns) p positions known in
      let parts = then_parts (cell_cmp (kinds.Column (column_at table p).kind)
      (cell_of table.format (stored_column table row p)) (cell_of table.format (stored_column table other p)))
      (key_cmp (kinds_at table positions ++ behind) (cells_of table row positions ++ xs)
      (cells_of table other positions ++ ys))
      (sym (ap (λ (ks : List FieldType). key_cmp (ks ++ behind) (cells_of table row (p ∷ positions) ++ xs)
      (cells_of table other (p ∷ positions) ++ ys)) (kinds_more p positions within)) ∙ same) in
      let rest = split_equal positions (All-tail (λ c. c < length table.columns) p positions known) behind xs ys parts.1
      in
      (All-cons HasEqual p positions parts.0 rest.0, rest.1)

  all_equal : (positions : List ℕ) → All (λ c. c < length table.columns) positions
      → key_cmp (kinds_at table positions) (cells_of table row positions) (cells_of table other positions) ≡ Equal
      → All HasEqual positions
  all_equal [] known same = All-nil HasEqual
  all_equal (p ∷ positions) known same =
      let within : p < length table.columns = All-head (λ c. c < length table.columns) p positions known in
      let parts = then_parts (cell_cmp (kinds.Column (column_at table p).kind)
      (cell_of table.format (stored_column table row p)) (cell_of table.format (stored_column table other p)))
      (key_cmp (kinds_at table positions) (cells_of table row positions) (cells_of table other positions))
      (sym (ap (λ (ks : List FieldType). key_cmp ks (cells_of table row (p ∷ positions))
      (cells_of table other (p ∷ positions))) (kinds_more p positions within)) ∙ same) in
      All-cons HasEqual p positions parts.0
      (all_equal positions (All-tail (λ c. c < length table.columns) p positions known) parts.1)

  -- and back
  join_equal : (positions : List ℕ) → All (λ c. c < length table.columns) positions → All HasEqual positions
      → key_cmp (kinds_at table positions) (cells_of table row positions) (cells_of table other positions) ≡ Equal
  join_equal [] known equal = refl
  join_equal (p ∷ positions) known equal =
      let within : p < length table.columns = All-head (λ c. c < length table.columns) p positions known in
      let here = All-head HasEqual p positions equal in
      let rest = join_equal positions (All-tail (λ c. c < length table.columns) p positions known)
      (All-tail HasEqual p positions equal) in
      ap (λ (ks : List FieldType). key_cmp ks (cells_of table row (p ∷ positions))
      (cells_of table other (p ∷ positions)))
      (kinds_more p positions within)
      ∙ ap (λ (o : Ordering). ordering_then o (key_cmp (kinds_at table positions) (cells_of table row positions)
      (cells_of table other positions))) here
      ∙ rest

  -- an entry has each column of the key, itself or in what it has of the row's key
  key_equal : (columns : List ℕ) → All HasEqual columns
      → All HasEqual (positions_without (clustered_positions table) columns) → All HasEqual (clustered_positions table)
  key_equal columns first second =
      all_members HasEqual (clustered_positions table) (λ c has. by_test c has (has_column columns c) refl)
    where
      by_test : (c : ℕ) → Contains (clustered_positions table) c → (b : Bool) → has_column columns c ≡ b → HasEqual c
      by_test c has true there = All-contains HasEqual columns c first (any_contains columns c there)
      by_test c has false lacks =
          All-contains HasEqual (positions_without (clustered_positions table) columns) c second
          (contains_filter (λ i. not (list_any (λ j. j == i) columns)) (clustered_positions table) c has (ap not lacks))

  -- equal references to rows behind equal columns make equal keys of rows
  rows_equal : (i k : ℕ) (columns : List ℕ) → All (λ c. c < length table.columns) columns → All HasEqual columns
      → All (λ c. c < length table.columns) (positions_without (clustered_positions table) columns)
      → key_cmp (map (λ (f : Field). f.kind) (row_reference table columns))
      (map (cell_of table.format) (stored_reference table columns i row))
      (map (cell_of table.format) (stored_reference table columns k other)) ≡ Equal
      → key_cmp (map (λ (f : Field). f.kind) (clustered_key table)) (key_of_row table i row) (key_of_row table k other)
      ≡ Equal
  rows_equal i k columns known equal lacking = by_test (length (clustered_positions table) == 0)
    where
      by_test : (none : Bool)
          → key_cmp (map (λ (f : Field). f.kind) (cond none (row_id_field ∷ [])
          (kept_at table.columns (positions_without (clustered_positions table) columns))))
          (map (cell_of table.format) (cond none (row_id i ∷ [])
          (map (stored_column table row) (positions_without (clustered_positions table) columns))))
          (map (cell_of table.format) (cond none (row_id k ∷ [])
          (map (stored_column table other) (positions_without (clustered_positions table) columns)))) ≡ Equal
          → key_cmp (map (λ (f : Field). f.kind) (cond none (row_id_field ∷ [])
          (kept_at table.columns (clustered_positions table))))
          (map (cell_of table.format) (cond none (row_id i ∷ [])
          (map (stored_column table row) (clustered_positions table))))
          (map (cell_of table.format) (cond none (row_id k ∷ [])
          (map (stored_column table other) (clustered_positions table)))) ≡ Equal
      by_test true same = same
      by_test false same =
          join_equal (clustered_positions table) (key_known table is)
          (key_equal columns equal (all_equal (positions_without (clustered_positions table) columns) lacking same))

-- the key of an entry is all of it
module _ (spells : SpellingSpells) (table : TableDef) (is : IsTable table) (j : ℕ) (above : 0 < j)
    (known : j < length table.indexes) where
  abbrev columns : List ℕ
  columns = (index_at table j).columns

  fields_count : (leaf_fields table j).keys ≡ length (leaf_fields table j).fields
  unfolding leaf_fields
  fields_count =
      let other : (j == 0) ≡ false = ne_eqb j 0 (λ e. omega arith) in
      ap length (sym (append-nil (key_fields table j)))
      ∙ ap (λ (b : Bool). length (key_fields table j ++ cond b (rest_fields table 0) [])) (sym other)

  entry_key : (i : ℕ) (row : List Value) → IsTableRow table row
      → key_of_entry (leaf_fields table j).keys (secondary_entry table j i row)
      ≡ map (cell_of table.format) (stored_entry table columns i row)
  unfolding secondary_entry
  entry_key i row fits =
      let stored = stored_entry table columns i row in
      let keys = fields_count in
      let count = zip_length StoresField (leaf_fields table j).fields stored
      (stores_entry spells table is j above known i row fits) in
      let size = length-entry spells table is j above known i row fits in
      ap (map part_cell) (take_all (leaf_fields table j).keys (secondary_entry table j i row) (omega arith))
      ∙ map-map part_cell (part_of_field table.format 0) stored

  -- the kinds of its fields
  entry_kinds : key_kinds (leaf_fields table j)
      ≡ kinds_at table columns ++ map (λ (f : Field). f.kind) (row_reference table columns)
  entry_kinds =
      let other : (j == 0) ≡ false = ne_eqb j 0 (λ e. omega arith) in
      kinds_are table j
      ∙ ap (λ (b : Bool). map (λ (f : Field). f.kind) (cond b (clustered_key table) (secondary_fields table columns)))
      other
      ∙ map-append (λ (f : Field). f.kind) (kept_fields table columns) (row_reference table columns)

  -- entries with equal keys are those of rows with equal keys
  rows_same : (i k : ℕ) (row other : List Value) → IsTableRow table row → IsTableRow table other
      → AreEqualKeys (key_kinds (leaf_fields table j))
      (key_of_entry (leaf_fields table j).keys (secondary_entry table j i row))
      (key_of_entry (leaf_fields table j).keys (secondary_entry table j k other))
      → key_cmp (map (λ (f : Field). f.kind) (clustered_key table)) (key_of_row table i row) (key_of_row table k other)
      ≡ Equal
  rows_same i k row other fits fits_other same =
      let kinds = key_kinds (leaf_fields table j) in
      let columns_known = (key_of_index spells table is j above known i row fits).known in
      let first : key_of_entry (leaf_fields table j).keys (secondary_entry table j i row)
      ≡ cells_of table row columns ++ map (cell_of table.format) (stored_reference table columns i row) =
      entry_key i row fits
      ∙ map-append (cell_of table.format) (map (stored_column table row) columns) (stored_reference table columns i row)
      in
      let second : key_of_entry (leaf_fields table j).keys (secondary_entry table j k other)
      ≡ cells_of table other columns ++ map (cell_of table.format) (stored_reference table columns k other) =
      entry_key k other fits_other
      ∙ map-append (cell_of table.format) (map (stored_column table other) columns)
      (stored_reference table columns k other) in
      let all = rw (entry_kinds, first, second) at same in
      let parts = split_equal table is row other columns columns_known
      (map (λ (f : Field). f.kind) (row_reference table columns))
      (map (cell_of table.format) (stored_reference table columns i row))
      (map (cell_of table.format) (stored_reference table columns k other)) all in
      rows_equal table is row other i k columns columns_known parts.0
      (lacking_known spells table is j above known i row fits) parts.1

pub differ_law : SpellingSpells → EntriesDiffer
unfolding row_entries
differ_law spells table j rows is above known fits few rise = λ r s d before within same.
    let size = length-map-range_with_len (λ i. secondary_entry table j i (get_or rows i [])) 0 (length rows) in
    let last : s < length rows = omega arith in
    let first : r < length rows = omega arith in
    let entry : ℕ → Entry = λ i. secondary_entry table j i (get_or rows i []) in
    let at_r = get_or-map-range_with_len (λ i. secondary_entry table j i (get_or rows i [])) 0 (length rows) r r d first
    (omega arith) in
    let at_s = get_or-map-range_with_len (λ i. secondary_entry table j i (get_or rows i [])) 0 (length rows) s s d last
    (omega arith) in
    let equal = rows_same spells table is j above known r s (get_or rows r []) (get_or rows s []) (fits r first)
    (fits s last) (rw (at_r, at_s) at same) in
    let less = rises table rows few rise r s before last in
    absurd (less_equal (sym (ap (λ (ks : List FieldType). key_cmp ks (key_of_row table r (get_or rows r []))
    (key_of_row table s (get_or rows s []))) (kinds_are table 0)) ∙ less) equal)
  where
    less_equal : {o : Ordering} → o ≡ Less → o ≡ Equal → ⊥
    less_equal a b = cc
