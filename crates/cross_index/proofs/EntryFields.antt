-- The fields of an entry: as many as its key has, and each is kept of the rows.
use Rattle.std.proofs.Common.{◌≡◌, ℕ, ◌<◌, ◌≤◌, Bool, true, false, cond, List, [], ◌∷◌, ◌++◌, length, get_or, map}
use Rattle.std.proofs.Common.{take}
use Rattle.std.proofs.Common.{All, Contains, flat_map, sym, ◌∙◌, arith, length-append}
use Rattle.std.specs.Prelude.{◌==◌, ◌-◌}
use Rattle.std.specs.List.{range_with_len, list_any}
use Rattle.std.proofs.lemmas.Bool.Decides.{nat_tests}
use Rattle.std.proofs.lemmas.List.{get_or_default, length-map, length-take-le}
use Rattle.std.proofs.lemmas.List.Elements.{All-nil, All-append, All-map, All-push}
use Rattle.std.proofs.lemmas.List.Folds.{list_any-from_Any}
use Rattle.page_source.proofs.Members.{contains_filter, contains_range, range_has, flat_map_contains}
use Rattle.column_values.specs.declared.field.Field.{Field}
use Rattle.compact_record.specs.Reading.{field_count}
use Rattle.schema_text.specs.TableDef.{TableDef, index_at}
use Rattle.schema_text.specs.Grammar.{IsTable}
use Rattle.schema_text.specs.IndexFields.{leaf_fields, key_fields, rest_fields, clustered_positions, clustered_key}
use Rattle.schema_text.specs.IndexFields.{clustered_rest, positions_without, field_of_column}
use Rattle.table_check.specs.Trees.{index_count}
use Rattle.schema_text.proofs.ColumnFields.{holds_column}
use Rattle.schema_text.specs.IndexFields.{entry_columns, hidden_fields, entry_fields}
use Rattle.cross_index.specs.Entries.{entry_kinds}
use Rattle.cross_index.specs.calls.Gather.{all_entry_fields, kept_fields}
use Rattle.cross_index.proofs.EntryKinds.{all_without, kinds_size}

-- a key has a kind for each of its fields
key_size : (table : TableDef) (i : ℕ) → length (entry_kinds table i) ≡ (leaf_fields table i).keys
unfolding leaf_fields
key_size table i =
    let front = key_fields table i in
    let rest = rest_fields table i in
    length-map (take (length front) (front ++ rest)) (λ (f : Field). f.kind)
    ∙ length-take-le (length front) (front ++ rest) (omega (arith, length-append front rest))

-- a clustered record has some fields
some_fields : (table : TableDef) → 0 < field_count (leaf_fields table 0)
unfolding leaf_fields
some_fields table = omega (arith, length-append (clustered_key table) (clustered_rest table))

module _ (table : TableDef) (i : ℕ) (is : IsTable table) (within : i < length table.indexes) (second : 1 ≤ i) where
  -- the key of an entry has all its fields
  pub keys_size : (leaf_fields table i).keys ≡ length (entry_fields table i)
  keys_size = sym (key_size table i) ∙ kinds_size table i is within second

  abbrev IsInside : ℕ → Type 0
  IsInside k = k < field_count (leaf_fields table 0)

  columns_inside : All (λ c. IsInside (field_of_column table c)) (entry_columns table i)
  columns_inside =
      let own = (index_at table i).columns in
      let key = clustered_positions table in
      let inside : (list : List ℕ) → All (λ c. c < length table.columns) list
      → All (λ c. IsInside (field_of_column table c)) list =
      λ list known k d below. (holds_column table (get_or list k d) is (known k d below)).inside in
      All-append (λ c. IsInside (field_of_column table c)) own (positions_without key own)
      (inside own (is.keys i _ within).known)
      (inside (positions_without key own) (all_without (λ c. c < length table.columns) key own (is.keys 0 _ (omega (
        arith,
        is.clustered,
      ))).known))

  hidden_inside : (none : Bool) → All IsInside (cond none (0 ∷ []) [])
  hidden_inside true = All-push IsInside [] 0 (All-nil IsInside) (some_fields table)
  hidden_inside false = All-nil IsInside

  -- each is one of the fields of a row
  entry_inside : All IsInside (entry_fields table i)
  unfolding entry_fields
  entry_inside =
      All-append IsInside (map (field_of_column table) (entry_columns table i)) (hidden_fields table)
      (All-map IsInside (field_of_column table) (entry_columns table i) columns_inside)
      (hidden_inside (length (clustered_positions table) == 0))

  -- each field of an entry is kept
  pub entry_kept : (j : ℕ) → j < length (entry_fields table i)
      → Contains (kept_fields table) (get_or (entry_fields table i) j 0)
  unfolding kept_fields all_entry_fields
  entry_kept j inside =
      let fields = entry_fields table i in
      let k = get_or fields j 0 in
      let others = range_with_len 1 (index_count table - 1) in
      let all = flat_map (entry_fields table) others in
      let (n, below, at) = flat_map_contains (entry_fields table) others i k
      (range_has 1 (index_count table - 1) i second (omega (arith, within)))
      (j, inside, get_or_default fields j k 0 inside) in
      contains_filter (λ m. list_any (λ n. n == m) all) (range_with_len 0 (field_count (leaf_fields table 0))) k
      (contains_range (field_count (leaf_fields table 0)) k (entry_inside j 0 inside))
      (list_any-from_Any (λ n. n == k) all (n, k, below, at, same k))
    where
      same : (k : ℕ) → (k == k) ≡ true
      same k = grind (arith, nat_tests)
