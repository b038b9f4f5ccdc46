-- In a sound file no two rows ask for equal entries: each key has all fields of the clustered one.
use Rattle.std.proofs.Common.{◌≡◌, ℕ, zero, suc, ◌<◌, ◌≤◌, Bool, true, false, cond, List, [], ◌∷◌}
use Rattle.std.proofs.Common.{length, get_or, map, All, Contains, None, refl, sym, ap, ◌∙◌}
use Rattle.std.proofs.Common.{inl, inr, arith, length-append}
use Rattle.std.specs.Prelude.{◌==◌}
use Rattle.std.specs.declared.cmp.Ordering.TheVariants.{Equal}
use Rattle.std.proofs.lemmas.Bool.{cases_order, false≢true}
use Rattle.std.proofs.lemmas.List.{get_or_default, get_or_append_left, get_or-map}
use Rattle.std.proofs.lemmas.List.{length-map, take_at}
use Rattle.std.proofs.lemmas.List.Elements.{All-contains, All-filter}
use Rattle.std.proofs.lemmas.List.FromFn.{get_or-map-range_with_len, length-map-range_with_len}
use Rattle.column_values.specs.declared.field.Field.{Field}
use Rattle.column_values.specs.declared.field.FieldType.{FieldType}
use Rattle.column_values.specs.declared.field.FieldType.TheVariants as kinds
use Rattle.column_values.specs.Types.{field_at, child_field}
use Rattle.column_values.specs.Order.{cell_cmp, AreEqualKeys}
use Rattle.column_values.proofs.KeyOrder.{symmetric}
use Rattle.page_source.specs.Pages.{page_of}
use Rattle.compact_record.specs.declared.places.Place.{Place}
use Rattle.compact_record.specs.Reading.{key_kinds, key_of, place_of, cell_at, is_external, field_count}
use Rattle.schema_text.specs.TableDef.{TableDef, column_at}
use Rattle.schema_text.specs.Grammar.{IsTable}
use Rattle.schema_text.specs.IndexFields.{leaf_fields, clustered_positions, clustered_key, kept_at}
use Rattle.schema_text.specs.IndexFields.{kept_field, columns_at}
use Rattle.schema_text.specs.IndexFields.{row_id_field}
use Rattle.schema_text.specs.IndexFields.{clustered_rest}
use Rattle.tree_walk.specs.Index.{Index, Row, no_row, page_in, leaf_rows, is_live_row}
use Rattle.tree_walk.specs.Records.{IsRecord}
use Rattle.tree_walk.specs.Laws.{row_key, RowsCanBeRead}
use Rattle.table_check.specs.Trees.{index_in, clustered_tree}
use Rattle.table_check.specs.Values.{live_rows}
use Rattle.table_check.specs.Valid.{IsValid}
use Rattle.table_check.specs.Laws.{LiveRowsRise, TreesAreWalked}
use Rattle.schema_text.specs.IndexFields.{entry_fields}
use Rattle.cross_index.specs.Entries.{field_of_row, whole_cell, projection}
use Rattle.cross_index.specs.Entries.{rows_in, entry_kinds, row_keys}
use Rattle.cross_index.specs.Sides.{AreApart}
use Rattle.cross_index.proofs.Sides.{not_both}
use Rattle.cross_index.proofs.Keys.{equal_field, equal_by_fields}
use Rattle.cross_index.proofs.Rising.{rises_pairs}
use Rattle.cross_index.proofs.EntryKinds.{kind_in, kinds_size, covers}

-- a field of the clustered key stays on its leaf
stays : (table : TableDef) (k : ℕ) → k < (leaf_fields table 0).keys
    → (field_at (leaf_fields table 0) k).may_leave ≡ false
unfolding leaf_fields
stays table k inside =
    let front = clustered_key table in
    let rest = clustered_rest table in
    ap (λ (f : Field). f.may_leave) (get_or_append_left front rest child_field k inside)
    ∙ none_leaves (length (clustered_positions table) == 0) k child_field inside
  where
    none_leaves : (none : Bool) (k : ℕ) (d : Field)
        → k < length (cond none (row_id_field ∷ []) (kept_at table.columns (clustered_positions table)))
        → (get_or (cond none (row_id_field ∷ []) (kept_at table.columns (clustered_positions table))) k d).may_leave
        ≡ false
    none_leaves true zero d inside = refl
    none_leaves true (suc k) d inside = absurd (omega (arith, inside))
    none_leaves false k d inside =
        let columns = columns_at table.columns (clustered_positions table) in
        let size = length-map columns kept_field in
        ap (λ (f : Field). f.may_leave)
        (get_or-map kept_field columns k (column_at table 0) d (omega (arith, inside, size)))

-- a cell that doesn't go on elsewhere
near_cell : (file page : List ℕ) (place : Place) → place.external ≡ false → whole_cell file page place
    ≡ cell_at page place
near_cell file page place near = rw near refl

-- the number of key fields, and their kinds
keys_within : (table : TableDef) (k : ℕ) → k < (leaf_fields table 0).keys → k < field_count (leaf_fields table 0)
unfolding leaf_fields
keys_within table k inside =
    omega (arith, inside, length-append (clustered_key table) (clustered_rest table))

kinds_count : (table : TableDef) → length (key_kinds (leaf_fields table 0)) ≡ (leaf_fields table 0).keys
unfolding leaf_fields
kinds_count table =
    let front = clustered_key table in
    ap (λ (fs : List Field). length (map kind_in fs)) (take_at front (clustered_rest table) (length front) refl)
    ∙ length-map front kind_in

kind_at : (table : TableDef) (k : ℕ) (d : FieldType) → k < (leaf_fields table 0).keys
    → get_or (key_kinds (leaf_fields table 0)) k d ≡ (field_at (leaf_fields table 0) k).kind
unfolding leaf_fields
kind_at table k d inside =
    let front = clustered_key table in
    ap (λ (fs : List Field). get_or (map kind_in fs) k d) (take_at front (clustered_rest table) (length front) refl)
    ∙ get_or-map kind_in front k child_field d inside
    ∙ ap kind_in (sym (get_or_append_left front (clustered_rest table) child_field k inside))

-- a field of the key of a row has the bytes of that key
key_field : (file : List ℕ) (table : TableDef) (row : Row) (k : ℕ) → k < (leaf_fields table 0).keys
    → IsRecord (page_in (clustered_tree file table) row.page) (leaf_fields table 0) row.origin
    → field_of_row (clustered_tree file table) row k ≡ get_or (row_key (clustered_tree file table) row) k None
unfolding field_of_row row_key key_of place_of index_in
key_field file table row k inside record' =
    let page = page_of file row.page in
    let fields = leaf_fields table 0 in
    near_cell file page (place_of page row.origin fields k) (by_test (is_external page row.origin fields k) refl)
    ∙ sym (get_or-map-range_with_len (λ i. cell_at page (place_of page row.origin fields i)) 0 fields.keys k k None
    inside (omega arith))
  where
    by_test : (b : Bool) → is_external (page_of file row.page) row.origin (leaf_fields table 0) k ≡ b
        → is_external (page_of file row.page) row.origin (leaf_fields table 0) k ≡ false
    by_test true e =
        absurd (false≢true (sym (stays table k inside)
        ∙ (record'.spelled.each k (keys_within table k inside)).leaves e))
    by_test false e = e

-- the laws of the crates below on which these stand
pub record HasLaws : Type 0 where
  pub rise : LiveRowsRise
  pub read : RowsCanBeRead
  pub walked : TreesAreWalked

module _ (laws : HasLaws) (file : List ℕ) (table : TableDef) (i : ℕ) (is : IsTable table) (valid : IsValid file table)
    (within : i < length table.indexes) (second : 1 ≤ i) where
  abbrev index : Index
  index = clustered_tree file table

  abbrev rows : List Row
  rows = rows_in file table

  readable : All (λ row. IsRecord (page_in index row.page) (leaf_fields table 0) row.origin) rows
  unfolding live_rows index_in
  readable =
      All-filter (is_live_row index) (λ row. IsRecord (page_in index row.page) (leaf_fields table 0) row.origin)
      (leaf_rows index)
      (laws.read index
      (laws.walked file table valid 0 (omega (arith, is.clustered))))

  -- equal projections have equal fields of the clustered key
  same_field : (a b : Row) → Contains rows a → Contains rows b
      → AreEqualKeys (entry_kinds table i) (projection file table i a) (projection file table i b) → (k : ℕ)
      → k < (leaf_fields table 0).keys
      → cell_cmp (field_at (leaf_fields table 0) k).kind (get_or (row_key index a) k None) (get_or (row_key index b) k
      None) ≡ Equal
  same_field a b at_a at_b equal k inside =
      let cover = covers table i is within second k inside in
      let fields = entry_fields table i in
      let size = kinds_size table i is within second in
      let count = λ (row : Row). length-map fields (field_of_row index row) in
      let same = equal_field (entry_kinds table i) (projection file table i a) (projection file table i b) cover.place
      kinds.RowId equal (count a ∙ sym size) (count b ∙ sym size) (omega (arith, cover.inside, size)) in
      let field : (row : Row) → Contains rows row → get_or (projection file table i row) cover.place None
      ≡ get_or (row_key index row) k None = λ row at.
      get_or-map (field_of_row index row) fields cover.place 0 None cover.inside
      ∙ ap (field_of_row index row) cover.is_field
      ∙ key_field file table row k inside (All-contains (λ row. IsRecord (page_in index row.page) (leaf_fields table 0)
      row.origin) rows row readable at) in
      rw (sym cover.is_kind, sym (field a at_a), sym (field b at_b)) same

  key_size : (row : Row) → length (row_key index row) ≡ (leaf_fields table 0).keys
  unfolding row_key key_of index_in
  key_size row = length-map-range_with_len (λ i. cell_at (page_of file row.page) (place_of (page_of file row.page)
      row.origin (leaf_fields table 0) i)) 0 (leaf_fields table 0).keys

  -- the rows have equal keys
  same_key : (a b : Row) → Contains rows a → Contains rows b
      → AreEqualKeys (entry_kinds table i) (projection file table i a) (projection file table i b)
      → AreEqualKeys (key_kinds (leaf_fields table 0)) (row_key index a) (row_key index b)
  same_key a b at_a at_b equal =
      let fields = leaf_fields table 0 in
      let size = kinds_count table in
      equal_by_fields (key_kinds fields) (row_key index a) (row_key index b) kinds.RowId (key_size a ∙ sym size)
      (key_size b ∙ sym size)
      (λ j inside.
      let below : j < fields.keys = omega (arith, inside, size) in
      rw (kind_at table j kinds.RowId below) (same_field a b at_a at_b equal j below))

  -- no two rows ask for equal entries
  pub rows_apart : AreApart (entry_kinds table i) (row_keys file table i)
  unfolding row_keys index_in
  rows_apart p q p_within q_within equal =
      let size = length-map rows (projection file table i) in
      let p_in : p < length rows = omega (arith, p_within, size) in
      let q_in : q < length rows = omega (arith, q_within, size) in
      let a = get_or rows p no_row in
      let b = get_or rows q no_row in
      let equal' : AreEqualKeys (entry_kinds table i) (projection file table i a) (projection file table i b) =
      rw (
        sym (get_or-map (projection file table i) rows p no_row [] p_in),
        sym (get_or-map (projection file table i) rows q no_row [] q_in),
      ) equal in
      let same = same_key a b (p, p_in, get_or_default rows p a no_row p_in)
      (q, q_in, get_or_default rows q b no_row q_in) equal' in
      let pairs = rises_pairs index rows (laws.rise file table valid 0 (omega (arith, is.clustered))) in
      let kinds = key_kinds (leaf_fields table 0) in
      elim (cases_order p q) [
        | inl e ↦ e
        | inr h ↦ elim h [
          | inl less ↦ absurd (not_both kinds (row_key index a) (row_key index b) (pairs p q no_row less q_in) same)
          | inr more ↦
              absurd (not_both kinds (row_key index b) (row_key index a) (pairs q p no_row more p_in)
              (symmetric kinds (row_key index a) (row_key index b) same))
        ]
      ]
