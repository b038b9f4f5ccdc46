-- The entries of an index that isn't the clustered one: their parts fit, and they are short.
use Rattle.std.proofs.Common.{◌≡◌, ◌==◌, ℕ, ◌<◌, ◌≤◌, Bool, true, false, cond, not, List, []}
use Rattle.std.proofs.Common.{◌∷◌, ◌++◌, length, map, get_or, Option, Some, None, refl, sym, ap, ◌∙◌, subst, arith}
use Rattle.std.proofs.Common.{All, length-append}
use Rattle.std.specs.Prelude.{slice_get}
use Rattle.std.specs.List.{AllZip, flat_map, sum_by, cons_option, filter, list_any}
use Rattle.std.proofs.lemmas.Bool.{true≢false, ne_eqb}
use Rattle.std.proofs.lemmas.Option.{slice_get-get_or}
use Rattle.std.proofs.lemmas.List.{append-nil, length-map, map-append, get_or-map}
use Rattle.std.proofs.lemmas.List.Concat.{flat_map-append, length-flat_map}
use Rattle.std.proofs.lemmas.List.Elements.{All-head, All-tail, All-get_or, All-append, All-cons, All-nil, All-filter}
use Rattle.std.proofs.lemmas.List.Elements.{All-from_get_or}
use Rattle.std.proofs.lemmas.List.Sums.{sum_by-cons, length-filter, count_by-le-length, get_or-le-sum_by}
use Rattle.std.proofs.lemmas.List.FromFn.{get_or-map-range_with_len, length-map-range_with_len}
use Rattle.column_values.specs.declared.kind.ColumnType.TheVariants as types
use Rattle.column_values.specs.declared.field.Field.{Field}
use Rattle.column_values.specs.declared.value.Value.{Value}
use Rattle.column_values.specs.declared.value.Value.TheVariants as values
use Rattle.column_values.specs.Types.{Fields, field_at, greatest_length, child_field}
use Rattle.column_values.specs.Laws.{SpellingSpells}
use Rattle.schema_text.specs.declared.table.Column.{Column}
use Rattle.schema_text.specs.TableDef.{TableDef, column_at, index_at}
use Rattle.schema_text.specs.Grammar.{IsTable, IsKeyOf}
use Rattle.schema_text.specs.IndexFields.{leaf_fields, node_fields, key_fields, rest_fields, secondary_fields}
use Rattle.schema_text.specs.IndexFields.{kept_fields}
use Rattle.schema_text.specs.IndexFields.{row_reference, clustered_positions, positions_without, columns_at, kept_at}
use Rattle.schema_text.specs.IndexFields.{kept_field, row_id_field}
use Rattle.schema_text.specs.Laws.{ListsAreOfOneIndex}
use Rattle.schema_text.proofs.FieldLemmas.{leaf_good}
use Rattle.schema_text.proofs.ColumnFields.{key_known}
use Rattle.row_text.specs.Line.{IsTableRow}
use Rattle.compact_record.specs.declared.parts.Part.{Part}
use Rattle.compact_record.specs.declared.parts.Part.TheVariants as parts
use Rattle.compact_record.specs.Writing.{local_bytes, size_of_record, FitFields, FitsField}
use Rattle.tree_layout.specs.Entries.{Entry}
use Rattle.tree_layout.specs.DivisionLaws.{PointersAreSmall, RecordsAreSmall}
use Rattle.row_layout.specs.StoredRow.{Stored, stored_at, stored_column, row_id, part_of_field}
use Rattle.row_layout.specs.SecondaryEntries.{stored_reference, stored_entry, secondary_entry, row_entries}
use Rattle.row_layout.specs.EntryLaws.{IsShort, EntriesAreShort}
use Rattle.tree_layout.proofs.Zips.{zip-append, zip_from, zip_length, zip_at}
use Rattle.row_layout.proofs.Held.{StoresValue}
use Rattle.row_layout.proofs.Lengths.{spell_fits}
use Rattle.row_layout.proofs.Stored.{StoresField, stores_columns, stores_column, near_columns}
use Rattle.row_layout.proofs.Fits.{part_fits}
use Rattle.row_layout.proofs.Short.{short_alone}

-- how long the columns at some positions may be together
abbrev pub lengths_at : TableDef → List ℕ → ℕ
lengths_at table positions = sum_by (λ (c : Column). greatest_length c.kind) (columns_at table.columns positions)

-- and those of some columns
abbrev lengths_of : List Column → ℕ
lengths_of columns = sum_by (λ (c : Column). greatest_length c.kind) columns

option_fewer : (o : Option Column) (xs ys : List Column) → lengths_of xs ≤ lengths_of ys
    → lengths_of (cons_option o xs) ≤ lengths_of (cons_option o ys)
option_fewer None xs ys fewer = fewer
option_fewer (Some c) xs ys fewer =
    let first = sum_by-cons (λ (c : Column). greatest_length c.kind) c xs in
    let second = sum_by-cons (λ (c : Column). greatest_length c.kind) c ys in
    omega arith

option_more : (o : Option Column) (ys : List Column) → lengths_of ys ≤ lengths_of (cons_option o ys)
option_more None ys = omega arith
option_more (Some c) ys = let sum = sum_by-cons (λ (c : Column). greatest_length c.kind) c ys in omega arith

-- fewer positions, shorter columns
lengths_fewer : (table : TableDef) (test : ℕ → Bool) (positions : List ℕ)
    → lengths_at table (filter test positions) ≤ lengths_at table positions
lengths_fewer table test [] = omega arith
lengths_fewer table test (p ∷ positions) = by_test (test p) (lengths_fewer table test positions)
  where
    by_test : (b : Bool)
        → lengths_of (columns_at table.columns (filter test positions)) ≤ lengths_of
        (columns_at table.columns positions)
        → lengths_of (columns_at table.columns (cond b (p ∷ filter test positions) (filter test positions)))
        ≤ lengths_of (cons_option (slice_get table.columns p) (columns_at table.columns positions))
    by_test true fewer =
        option_fewer (slice_get table.columns p) (columns_at table.columns (filter test positions))
        (columns_at table.columns positions) fewer
    by_test false fewer =
        let more = option_more (slice_get table.columns p) (columns_at table.columns positions) in omega arith

filter_fewer : {X : Type 0} (test : X → Bool) (xs : List X) → length (filter test xs) ≤ length xs
filter_fewer test xs =
    let kept = length-filter test xs in let most = count_by-le-length test xs in omega arith

-- the local bytes of columns are no longer
module _ (spells : SpellingSpells) (table : TableDef) (is : IsTable table) (row : List Value)
    (fits : IsTableRow table row) where
  local_column : (c : ℕ) → c < length table.columns
      → length (local_bytes (part_of_field table.format 0 (stored_column table row c)))
      ≤ greatest_length (column_at table c).kind
  local_column c within =
      by_null (stored_column table row c).null refl (stores_column spells table is row fits c within).0
    where
      by_null : (b : Bool) → (stored_column table row c).null ≡ b
          → StoresValue (column_at table c).kind (stored_column table row c) (get_or row c values.Null)
          → length (local_bytes (part_of_field table.format 0 (stored_column table row c)))
          ≤ greatest_length (column_at table c).kind
      by_null true null stores = rw null (omega arith)
      by_null false some stores =
          let kind = (column_at table c).kind in
          let most = spell_fits kind (get_or row c values.Null) (stored_column table row c).bytes
          (is.kinds c _ within) (stores.spelled some) in
          rw some most

  local_columns : (positions : List ℕ) → All (λ i. i < length table.columns) positions
      → length (flat_map local_bytes (map (part_of_field table.format 0) (map (stored_column table row) positions)))
      ≤ lengths_at table positions
  local_columns [] known = omega arith
  local_columns (p ∷ positions) known =
      let within : p < length table.columns = All-head (λ i. i < length table.columns) p positions known in
      let rest = local_columns positions (All-tail (λ i. i < length table.columns) p positions known) in
      let column = column_at table p in
      let there : slice_get table.columns p ≡ Some column =
      slice_get-get_or table.columns p (record { name = []; kind = types.Int 1 false; nullable = false }) within in
      let here = local_column p within in
      let both = length-append (local_bytes (part_of_field table.format 0 (stored_column table row p)))
      (flat_map local_bytes (map (part_of_field table.format 0) (map (stored_column table row) positions))) in
      let sum = sum_by-cons (λ (c : Column). greatest_length c.kind) column (columns_at table.columns positions) in
      subst (λ (o : Option Column). length (flat_map local_bytes (map (part_of_field table.format 0)
      (map (stored_column table row) (p ∷ positions))))
      ≤ sum_by (λ (c : Column). greatest_length c.kind) (cons_option o (columns_at table.columns positions)))
      (sym there)
      (omega arith)

-- each part of an entry is one of its locals
part_below : (entry : Entry) (i : ℕ) → i < length entry
    → length (local_bytes (get_or entry i parts.Null)) ≤ length (flat_map local_bytes entry)
part_below entry i within =
    let all = length-flat_map local_bytes entry in
    let here = get_or-le-sum_by (λ part. length (local_bytes part)) entry i parts.Null within in
    omega arith

-- the fields of an entry
pub fields_are : (table : TableDef) (j : ℕ) → 0 < j
    → (leaf_fields table j).fields ≡ secondary_fields table (index_at table j).columns
unfolding leaf_fields
fields_are table j above =
    let other : (j == 0) ≡ false = ne_eqb j 0 (λ e. omega arith) in
    rw other (append-nil (secondary_fields table (index_at table j).columns))

nullable_few : (table : TableDef) (j : ℕ) → (leaf_fields table j).nullable ≤ length (leaf_fields table j).fields
unfolding leaf_fields
nullable_few table j =
    filter_fewer (λ (f : Field). f.nullable) (key_fields table j ++ rest_fields table j)

module _ (spells : SpellingSpells) (table : TableDef) (is : IsTable table) (j : ℕ) (above : 0 < j)
    (known : j < length table.indexes) (i : ℕ) (row : List Value) (fits : IsTableRow table row) where
  abbrev columns : List ℕ
  columns = (index_at table j).columns

  abbrev lacking : List ℕ
  lacking = positions_without (clustered_positions table) columns

  abbrev leaf : Fields
  leaf = leaf_fields table j

  abbrev stored : List Stored
  stored = stored_entry table columns i row

  abbrev entry : Entry
  entry = secondary_entry table j i row

  pub key_of_index : IsKeyOf table (index_at table j)
  key_of_index = is.keys j _ known

  key_of_rows : IsKeyOf table (index_at table 0)
  key_of_rows = is.keys 0 _ (omega (arith, is.clustered))

  pub lacking_known : All (λ c. c < length table.columns) lacking
  lacking_known =
      All-filter (λ c. not (list_any (λ k. k == c) columns)) (λ c. c < length table.columns)
      (clustered_positions table) (key_known table is)

  -- what it stores
  stores_reference : AllZip StoresField (row_reference table columns) (stored_reference table columns i row)
  stores_reference = by_test (length (clustered_positions table) == 0)
    where
      by_test : (none : Bool) → AllZip StoresField (cond none (row_id_field ∷ []) (kept_at table.columns lacking))
          (cond none (row_id i ∷ []) (map (stored_column table row) lacking))
      by_test true = ((refl, refl), tt)
      by_test false =
          stores_columns spells table is row fits kept_field (λ column. refl) (λ column. refl) lacking lacking_known

  pub stores_entry : AllZip StoresField leaf.fields stored
  stores_entry =
      subst (λ fields. AllZip StoresField fields stored) (sym (fields_are table j above))
      (zip-append StoresField (kept_fields table columns) (row_reference table columns)
      (map (stored_column table row) columns) (stored_reference table columns i row)
      (stores_columns spells table is row fits kept_field (λ column. refl) (λ column. refl) columns key_of_index.known)
      stores_reference)

  all_near : All (λ (field : Stored). field.off ≡ false) stored
  all_near =
      All-append (λ (field : Stored). field.off ≡ false) (map (stored_column table row) columns)
      (stored_reference table columns i row) (near_columns table row columns)
      (by_test (length (clustered_positions table) == 0))
    where
      by_test : (none : Bool) → All (λ (field : Stored). field.off ≡ false)
          (cond none (row_id i ∷ []) (map (stored_column table row) lacking))
      by_test true = All-cons (λ (field : Stored). field.off ≡ false) (row_id i) [] refl
          (All-nil (λ (field : Stored). field.off ≡ false))
      by_test false = near_columns table row lacking

  -- how long
  reference_locals : length (flat_map local_bytes (map (part_of_field table.format 0)
      (stored_reference table columns i row))) ≤ 3072
  reference_locals = by_test (length (clustered_positions table) == 0)
    where
      by_test : (none : Bool) → length (flat_map local_bytes (map (part_of_field table.format 0)
          (cond none (row_id i ∷ []) (map (stored_column table row) lacking)))) ≤ 3072
      by_test true = omega arith
      by_test false =
          let local = local_columns spells table is row fits lacking lacking_known in
          let fewer = lengths_fewer table (λ c. not (list_any (λ k. k == c) columns)) (clustered_positions table) in
          let most = key_of_rows.fits.total in
          omega arith

  locals : length (flat_map local_bytes entry) ≤ 6144
  unfolding secondary_entry
  locals =
      let first = map (stored_column table row) columns in
      let second = stored_reference table columns i row in
      let local = local_columns spells table is row fits columns key_of_index.known in
      let most = key_of_index.fits.total in
      let rest = reference_locals in
      let f : Stored → Part = part_of_field table.format 0 in
      let split : flat_map local_bytes (map (part_of_field table.format 0) stored)
      ≡ flat_map local_bytes (map (part_of_field table.format 0) first)
      ++ flat_map local_bytes (map (part_of_field table.format 0) second) =
      ap (flat_map local_bytes) (map-append (part_of_field table.format 0) first second)
      ∙ flat_map-append local_bytes (map (part_of_field table.format 0) first)
      (map (part_of_field table.format 0) second) in
      let both = ap length split
      ∙ length-append (flat_map local_bytes (map (part_of_field table.format 0) first))
      (flat_map local_bytes (map (part_of_field table.format 0) second)) in
      omega arith

  reference_few : length (stored_reference table columns i row) ≤ 16
  reference_few = by_test (length (clustered_positions table) == 0)
    where
      by_test : (none : Bool) → length (cond none (row_id i ∷ []) (map (stored_column table row) lacking)) ≤ 16
      by_test true = omega arith
      by_test false =
          let size = length-map lacking (stored_column table row) in
          let fewer = filter_fewer (λ c. not (list_any (λ k. k == c) columns)) (clustered_positions table) in
          let most = key_of_rows.most in
          omega arith

  few_parts : length stored ≤ 32
  few_parts =
      let both = length-append (map (stored_column table row) columns) (stored_reference table columns i row) in
      let size = length-map columns (stored_column table row) in
      let most = key_of_index.most in
      let rest = reference_few in
      omega arith

  pub length-entry : length entry ≡ length stored
  unfolding secondary_entry
  length-entry = length-map stored (part_of_field table.format 0)

  size_short : RecordsAreSmall → size_of_record leaf entry ≤ 6217
  size_short records =
      let size = records leaf entry in
      let local = locals in
      let parts = length-entry in
      let few = few_parts in
      let fields = zip_length StoresField leaf.fields stored stores_entry in
      let nulls = nullable_few table j in
      omega arith

  part_is : (k : ℕ) → k < length stored
      → get_or entry k parts.Null ≡ part_of_field table.format 0 (stored_at stored k)
  unfolding secondary_entry
  part_is k within = get_or-map (part_of_field table.format 0) stored k _ parts.Null within

  entry_fits : FitFields leaf entry
  entry_fits =
      let good = leaf_good table j is known in
      let count = zip_length StoresField leaf.fields stored stores_entry in
      let size = length-entry in
      let none : Stored = record { null = true; off = false; bytes = [] } in
      zip_from FitsField leaf.fields entry child_field parts.Null (omega arith)
      (λ k inside.
      let within : k < length stored = omega arith in
      let near = All-get_or (λ (field : Stored). field.off ≡ false) stored k none within all_near in
      let local = part_below entry k (omega arith) in
      let most = locals in
      let few : length (local_bytes (get_or entry k parts.Null)) < 16384 = omega arith in
      subst (FitsField (field_at leaf k)) (sym (part_is k within))
      (part_fits table.format 0 (field_at leaf k) (stored_at stored k) (good.listed.kinds k child_field inside)
      (zip_at StoresField leaf.fields stored k child_field none stores_entry inside)
      (λ off. absurd (true≢false (sym off ∙ near)))
      (λ _. subst (λ (part : Part). length (local_bytes part) < 16384) (part_is k within) few)))

  pub entry_short : PointersAreSmall → RecordsAreSmall → ListsAreOfOneIndex
      → IsShort leaf (node_fields table j) entry
  entry_short small records lists = record {
    fit = entry_fits;
    alone = short_alone leaf entry (let size = size_short records in omega arith);
    pointers = λ n.
        let least = small leaf (node_fields table j) entry n (lists table j) entry_fits in
        let size = size_short records in
        omega arith;
  }

pub entries_short : SpellingSpells → PointersAreSmall → RecordsAreSmall → ListsAreOfOneIndex → EntriesAreShort
unfolding row_entries
entries_short spells small records lists table j rows is above known fits =
    let make : ℕ → Entry = λ i. secondary_entry table j i (get_or rows i []) in
    All-from_get_or (IsShort (leaf_fields table j) (node_fields table j)) (row_entries table j rows) []
    (λ r below.
    let size = length-map-range_with_len (λ i. secondary_entry table j i (get_or rows i [])) 0 (length rows) in
    let within : r < length rows = omega arith in
    subst (IsShort (leaf_fields table j) (node_fields table j))
    (sym (get_or-map-range_with_len (λ i. secondary_entry table j i (get_or rows i [])) 0 (length rows) r r [] within
    (omega arith)))
    (entry_short spells table is j above known r (get_or rows r []) (fits r within) small records lists))
