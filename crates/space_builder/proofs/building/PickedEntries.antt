-- The entries that are picked from the rows as they are stored are those of the layout.
use Rattle.std.proofs.Common.{◌≡◌, ◌==◌, ℕ, ◌+◌, ◌<◌, Bool, true, false, cond, not, List, [], ◌∷◌, ◌++◌}
use Rattle.std.proofs.Common.{length, map, get_or, Option, Some, None, refl, sym, ap, ◌∙◌, subst, arith, inl}
use Rattle.std.proofs.Common.{inr, All}
use Rattle.std.proofs.Common.{append_assoc, length-append, replicate}
use Rattle.std.specs.List.{range_with_len, list_any}
use Rattle.std.specs.List.Sorted.{IsPermutation, IsSortedBy}
use Rattle.std.proofs.lemmas.Bool.{cases_lt, ne_eqb, false≢true}
use Rattle.std.proofs.lemmas.List.{append-nil, map-append, length-map, get_or-map, get_or_past, take_all}
use Rattle.std.proofs.lemmas.List.Elements.{All-head, All-tail, All-filter}
use Rattle.std.proofs.lemmas.List.Sorted.{IsPermutation-map}
use Rattle.column_values.specs.declared.value.Value.{Value}
use Rattle.column_values.specs.Types.{Fields}
use Rattle.column_values.specs.Order.{Key}
use Rattle.compact_record.specs.declared.parts.Part.{Part}
use Rattle.compact_record.specs.declared.parts.Part.TheVariants as parts
use Rattle.compact_record.specs.Writing.{part_cell}
use Rattle.schema_text.specs.declared.table.Format.{Format}
use Rattle.schema_text.specs.TableDef.{TableDef, index_at}
use Rattle.schema_text.specs.Grammar.{IsTable}
use Rattle.schema_text.specs.IndexFields.{leaf_fields, secondary_fields, row_key, kept_at}
use Rattle.schema_text.specs.IndexFields.{kept_field, columns_at, clustered_positions, positions_without}
use Rattle.schema_text.specs.IndexFields.{field_of_column, other_positions, entry_fields, hidden_fields}
use Rattle.tree_layout.specs.Entries.{Entry, key_of_entry}
use Rattle.tree_layout.specs.Sorted.{is_entry_below, SortingRises}
use Rattle.row_layout.specs.StoredRow.{Stored, stored_at, stored_column, stored_row, row_id, kept}
use Rattle.row_layout.specs.StoredRow.{part_of_field, parts_of_row}
use Rattle.row_layout.specs.Fitting.{AreFieldsOf}
use Rattle.row_layout.specs.Laws.{FittedRowsAreRows}
use Rattle.row_layout.specs.HoldsValues.{AreFitted, stored_in, clustered_entry, clustered_entries}
use Rattle.row_layout.specs.SecondaryEntries.{secondary_entry, row_entries, secondary_entries}
use Rattle.row_layout.specs.EntryLaws.{EntriesDiffer}
use Rattle.row_store.specs.StoredRows.{Rows, value_of}
use Rattle.space_builder.specs.layout.Layout.{value_number, index_entries}
use Rattle.space_builder.specs.calls.Picked.{whole_part, picked_entry, picked_key, picked_entries, clustered_part}
use Rattle.space_builder.specs.calls.StoredRows.{PicksEntries, SamePagesGiveRecords}
use Rattle.space_builder.specs.calls.StoredRows.{StoredRowsGiveEntries}
use Rattle.space_builder.proofs.layout.FittedRows.{fitted_if}
use Rattle.schema_text.proofs.ColumnFields.{length_known}
use Rattle.row_layout.proofs.Stored.{column_stored}
use Rattle.row_store.proofs.Ranges.{map_ranges}

abbrev IsColumn : TableDef → ℕ → Type 0
IsColumn table c = c < length table.columns

-- the columns of an index, and what it lacks of the clustered key
module _ (table : TableDef) (is : IsTable table) (j : ℕ) (known : j < length table.indexes) where
  abbrev own : List ℕ
  own = (index_at table j).columns

  abbrev key : List ℕ
  key = clustered_positions table

  own_known : All (IsColumn table) own
  own_known = (is.keys j _ known).known

  key_known : All (IsColumn table) key
  key_known = (is.keys 0 _ (omega (arith, is.clustered))).known

  lacking_known : (list : List ℕ) → All (IsColumn table) list → All (IsColumn table) (positions_without list own)
  lacking_known list all = All-filter (λ i. not (list_any (λ j. j == i) own)) (IsColumn table) list all

  -- an entry has a field for each of its columns, and one for the hidden row id
  reference_size : (list : List ℕ) → All (IsColumn table) list
      → length (row_key table.columns list (positions_without list own))
      ≡ length (map (field_of_column table) (positions_without list own)
      ++ cond (length list == 0) (0 ∷ []) [])
  reference_size [] all = refl
  reference_size (c ∷ list) all =
      let some : (length (c ∷ list) == 0) ≡ false = ne_eqb (length (c ∷ list)) 0 (λ e. omega arith) in
      let lacking = positions_without (c ∷ list) own in
      rw some
      (length-map (columns_at table.columns lacking) kept_field
      ∙ length_known table.columns lacking (lacking_known (c ∷ list) all)
      ∙ sym (ap length (append-nil (map (field_of_column table) lacking))
      ∙ length-map lacking (field_of_column table)))

  pub keys_size : 0 < j → (leaf_fields table j).keys ≡ length (entry_fields table j)
  unfolding leaf_fields entry_fields
  keys_size second =
      let other : (j == 0) ≡ false = ne_eqb j 0 (λ e. omega arith) in
      let lacking = positions_without key own in
      let size : length (secondary_fields table own) ≡ length own + length (row_key table.columns key lacking) =
      length-append (kept_at table.columns own) (row_key table.columns key lacking)
      ∙ ap (λ (n : ℕ). n + length (row_key table.columns key lacking))
      (length-map (columns_at table.columns own) kept_field ∙ length_known table.columns own own_known) in
      rw other
      (size ∙ ap (λ (n : ℕ). length own + n) (reference_size key key_known)
      ∙ ap (λ (n : ℕ). n + length (map (field_of_column table) lacking ++ hidden_fields table))
      (sym (length-map own (field_of_column table)))
      ∙ sym (length-append (map (field_of_column table) own) (map (field_of_column table) lacking
      ++ hidden_fields table))
      ∙ ap length (sym (append_assoc (map (field_of_column table) own) (map (field_of_column table) lacking)
      (hidden_fields table)))
      ∙ ap (λ (list : List ℕ). length (list ++ hidden_fields table))
      (sym (map-append (field_of_column table) own lacking)))

-- the fields of a row that is stored
module _ (fits : FittedRowsAreRows) (table : TableDef) (is : IsTable table) (rows : Rows)
    (stored : List (List Stored)) (are : AreFitted table rows stored) (r : ℕ) (within : r < length rows) where
  abbrev row : List Value
  row = get_or rows r []

  abbrev old : List Stored
  old = stored_row table r row

  abbrev now : List Stored
  now = stored_in stored r

  abbrev no_field : Stored
  no_field = record { null = true; off = false; bytes = [] }

  abbrev part : Stored → Part
  part field = part_of_field table.format 0 field

  abbrev column : ℕ → Stored
  column c = stored_column table row c

  abbrev picked : ℕ → Part
  picked i = whole_part (stored_at now i)

  fields_kept : AreFieldsOf table old now
  fields_kept = (fits table r row now (are.fit r within)).fields

  -- each has its value
  same_part : (i : ℕ) → picked i ≡ whole_part (stored_at old i)
  same_part i = elim (cases_lt i (length old)) [
    | inl below ↦
        let same = fields_kept.each i below in
        ap (λ (b : Bool). cond b parts.Null (parts.Bytes (stored_at now i).bytes false)) same.null
        ∙ ap (λ (b : List ℕ). cond (stored_at old i).null parts.Null (parts.Bytes b false)) same.bytes
    | inr past ↦
        ap whole_part (get_or_past now i no_field (omega (arith, past, fields_kept.count)))
        ∙ ap whole_part (sym (get_or_past old i no_field past))
  ]

  column_part : (c : ℕ) → c < length table.columns → picked (field_of_column table c) ≡ part (column c)
  column_part c known = same_part (field_of_column table c) ∙ ap whole_part (column_stored table is r row c known)

  column_parts : (list : List ℕ) → All (IsColumn table) list
      → map picked (map (field_of_column table) list) ≡ map part (map column list)
  column_parts [] known = refl
  column_parts (c ∷ list) known =
      ap (λ (p : Part). p ∷ map picked (map (field_of_column table) list))
      (column_part c (All-head (IsColumn table) c list known))
      ∙ ap (λ (ps : List Part). part (column c) ∷ ps) (column_parts list (All-tail (IsColumn table) c list known))

  -- the hidden row id is the first one
  id_first : clustered_positions table ≡ [] → picked 0 ≡ part (row_id r)
  unfolding stored_row
  id_first none = same_part 0 ∙ ap whole_part (first (length (clustered_positions table) == 0) (rw none refl))
    where
      rest : List Stored
      rest = kept (replicate 6 0) ∷ kept (replicate 7 0) ∷ map column (other_positions table)

      first : (b : Bool) → b ≡ true
          → stored_at (cond b (row_id r ∷ []) (map column (clustered_positions table)) ++ rest) 0 ≡ row_id r
      first true yes' = refl
      first false no' = absurd (false≢true no')

  module _ (j : ℕ) (inside : j < length table.indexes) where
    reference_parts : (key : List ℕ) → (key ≡ [] → picked 0 ≡ part (row_id r)) → All (IsColumn table) key
        → map picked (map (field_of_column table) (positions_without key (index_at table j).columns)
        ++ cond (length key == 0) (0 ∷ []) [])
        ≡ map part (cond (length key == 0) (row_id r ∷ [])
        (map column (positions_without key (index_at table j).columns)))
    reference_parts [] first known = ap (λ (p : Part). p ∷ []) (first refl)
    reference_parts (c ∷ key) first known =
        let some : (length (c ∷ key) == 0) ≡ false = ne_eqb (length (c ∷ key)) 0 (λ e. omega arith) in
        let lacking = positions_without (c ∷ key) (index_at table j).columns in
        rw some
        (ap (map picked) (append-nil (map (field_of_column table) lacking))
        ∙ column_parts lacking (lacking_known table is j inside (c ∷ key) known))

    pub entry_picked : picked_entry (entry_fields table j) now ≡ secondary_entry table j r row
    unfolding entry_fields secondary_entry
    entry_picked =
        let own = (index_at table j).columns in
        let lacking = positions_without (clustered_positions table) own in
        let f = field_of_column table in
        ap (map picked)
        (ap (λ (list : List ℕ). list ++ hidden_fields table) (map-append f own lacking)
        ∙ append_assoc (map f own) (map f lacking) (hidden_fields table))
        ∙ map-append picked (map f own) (map f lacking ++ hidden_fields table)
        ∙ ap (λ (ps : List Part). ps ++ map picked (map f lacking ++ hidden_fields table))
        (column_parts own (own_known table is j inside))
        ∙ ap (λ (ps : List Part). map part (map column own) ++ ps)
        (reference_parts (clustered_positions table) id_first (key_known table is j inside))
        ∙ sym (map-append part (map column own)
        (cond (length (clustered_positions table) == 0) (row_id r ∷ []) (map column lacking)))

-- the key of an entry that is picked
part_value : (b : Bool) (bytes : List ℕ)
    → part_cell (cond b parts.Null (parts.Bytes bytes false)) ≡ cond b None (Some bytes)
part_value true bytes = refl
part_value false bytes = refl

part_values : (fields : List ℕ) (stored : List Stored)
    → map part_cell (picked_entry fields stored) ≡ picked_key fields stored
part_values [] stored = refl
part_values (i ∷ fields) stored =
    ap (λ (v : Option (List ℕ)). v ∷ map part_cell (picked_entry fields stored))
    (part_value (stored_at stored i).null (stored_at stored i).bytes)
    ∙ ap (λ (vs : Key). value_of (stored_at stored i) ∷ vs) (part_values fields stored)

pub key_picked : (fields : List ℕ) (row : List Stored) (keys : ℕ) → keys ≡ length fields
    → key_of_entry keys (picked_entry fields row) ≡ picked_key fields row
key_picked fields row keys all =
    let size = length-map fields (λ i. whole_part (stored_at row i)) in
    ap (map part_cell) (take_all keys (picked_entry fields row) (omega arith)) ∙ part_values fields row

-- a sort of numbers sorts what they name
sorted_map : {X : Type 0} (lt : X → X → Bool) (f : ℕ → X) (list : List ℕ) → IsSortedBy (λ a b. lt (f a) (f b)) list
    → IsSortedBy lt (map f list)
sorted_map lt f list sorted = λ k d low below.
    let size = length-map list f in
    rw (get_or-map f list (k + 1) 0 d (omega arith), get_or-map f list k 0 d (omega arith))
    (sorted k 0 low (omega arith))

pub picks_entries : FittedRowsAreRows → EntriesDiffer → SortingRises → PicksEntries
unfolding secondary_entries picked_entries row_entries
picks_entries fits differ sorts table rows stored j order are second inside is =
    (sorts leaf (row_entries table j rows)
    (differ table j rows are.is_table second inside are.good.are_rows are.good.few are.good.rise)).only
    (map entry order) moved sorted
  where
    leaf : Fields
    leaf = leaf_fields table j

    entry : ℕ → Entry
    entry r = picked_entry (entry_fields table j) (stored_in stored r)

    fitted : AreFitted table rows stored
    fitted = subst (AreFitted table rows) (sym are.same) (fitted_if table rows are.good.are_rows are.good.fitted)

    rows_picked : map entry (range_with_len 0 (length rows)) ≡ row_entries table j rows
    rows_picked =
        map_ranges entry (λ i. secondary_entry table j i (get_or rows i [])) 0 0 (length rows)
        (λ i below.
        let e : 0 + i ≡ i = omega arith in
        ap entry e ∙ entry_picked fits table are.is_table rows stored fitted i below j inside
        ∙ ap (λ (n : ℕ). secondary_entry table j n (get_or rows n [])) (sym e))

    moved : IsPermutation (row_entries table j rows) (map entry order)
    moved =
        subst (λ (es : List Entry). IsPermutation es (map entry order)) rows_picked
        (IsPermutation-map entry (range_with_len 0 (length rows)) order
        (subst (λ (n : ℕ). IsPermutation (range_with_len 0 n) order) fitted.count is.moved))

    key_is : (r : ℕ) → key_of_entry leaf.keys (entry r) ≡ picked_key (entry_fields table j) (stored_in stored r)
    key_is r =
        key_picked (entry_fields table j) (stored_in stored r) leaf.keys
        (keys_size table are.is_table j inside second)

    sorted : IsSortedBy (is_entry_below leaf) (map entry order)
    sorted =
        sorted_map (is_entry_below leaf) entry order
        (λ k d low below. rw (key_is (get_or order (k + 1) d), key_is (get_or order k d)) (is.sorted k d low below))

-- a record names a page only for a field that goes off it
part_same : (format : Format) (n m : ℕ) (field : Stored) → (field.off ≡ true → n ≡ m)
    → part_of_field format n field ≡ part_of_field format m field
part_same format n m field same = by_test field.off refl
  where
    by_test : (b : Bool) → field.off ≡ b → part_of_field format n field ≡ part_of_field format m field
    by_test true off = ap (λ (k : ℕ). part_of_field format k field) (same off)
    by_test false near = rw near refl

pub same_records : SamePagesGiveRecords
unfolding clustered_entries parts_of_row
same_records format stored number other same =
    map_ranges (clustered_entry format number stored) (clustered_entry format other stored) 0 0 (length stored)
    (λ r below.
    let e : 0 + r ≡ r = omega arith in
    ap (clustered_entry format number stored) e
    ∙ map_ranges (clustered_part format number stored r) (clustered_part format other stored r) 0 0
    (length (stored_in stored r))
    (λ i inside.
    let d : 0 + i ≡ i = omega arith in
    ap (clustered_part format number stored r) d
    ∙ part_same format (number r i 0) (other r i 0) (stored_at (stored_in stored r) i) (same r i below inside)
    ∙ ap (clustered_part format other stored r) (sym d))
    ∙ ap (clustered_entry format other stored) (sym e))

-- the entries of the layout
pub layout_entries : PicksEntries → StoredRowsGiveEntries
unfolding index_entries
layout_entries picks table rows stored are = record {
  clustered = λ number same.
      same_records table.format stored number (value_number table rows) same
      ∙ ap (clustered_entries table.format (value_number table rows)) are.same;
  picked = λ j order second inside is.
      let other : (j == 0) ≡ false = ne_eqb j 0 (λ e. omega arith) in
      rw other (picks table rows stored j order are second inside is);
}
