-- One secondary index beside the kept values of the rows.
use Rattle.std.proofs.Common.{◌≡◌, ℕ, ◌*◌, ◌^◌, ◌<◌, ◌≤◌, List, [], ◌∷◌, length, get_or}
use Rattle.std.proofs.Common.{All, Contains, Result, Ok, Err, IfOk, flat_map, sym, ap, ◌∙◌, subst, arith}
use Rattle.std.specs.List.{range_with_len}
use Rattle.std.proofs.lemmas.List.{length-map, length-append}
use Rattle.std.proofs.lemmas.List.Elements.{All-head, All-tail}
use Rattle.std.proofs.lemmas.List.FromFn.{length-range_with_len}
use Rattle.std.proofs.lemmas.List.Sorted.{length_permutation}
use Rattle.std.proofs.lemmas.List.Sums.{length-filter, count_by-le-length}
use Rattle.column_values.specs.declared.field.FieldType.{FieldType}
use Rattle.column_values.specs.Order.{Key}
use Rattle.index_page.specs.Header.{records_of}
use Rattle.schema_text.specs.TableDef.{TableDef}
use Rattle.schema_text.specs.Grammar.{IsTable}
use Rattle.tree_walk.specs.declared.ends.TreeEnds.{TreeEnds}
use Rattle.tree_walk.specs.Index.{Index, Row, page_in, rows_on, leaf_pages, leaf_rows, is_live_row}
use Rattle.tree_walk.specs.Leaf.{IsWalked}
use Rattle.tree_walk.specs.Walk.{IsEndsOf}
use Rattle.tree_walk.specs.Laws.{LeavesAreSound}
use Rattle.table_check.specs.Trees.{index_in, index_count}
use Rattle.table_check.specs.Values.{live_rows}
use Rattle.table_check.specs.Live.{LiveView, HasGivenLive}
use Rattle.table_check.specs.Laws.{TreesAreWalked}
use Rattle.cross_index.specs.declared.crossed.CrossStop.{CrossStop}
use Rattle.cross_index.specs.declared.gathered.Gathered.{Gathered}
use Rattle.schema_text.specs.IndexFields.{entry_fields}
use Rattle.cross_index.specs.calls.Kept.{kept_keys}
use Rattle.cross_index.specs.calls.Order.{IsOrder}
use Rattle.cross_index.specs.calls.Gather.{kept_fields, StandsAt}
use Rattle.cross_index.specs.calls.Compare.{CanCompare, Compares}
use Rattle.cross_index.specs.calls.Indexes.{CanCompareIndex}
use Rattle.cross_index.proofs.Rising.{entries_rise}
use Rattle.cross_index.proofs.DistinctKeys.{HasLaws, rows_apart}
use Rattle.cross_index.proofs.EntrySteps.{kept_size}
use Rattle.cross_index.proofs.KeysAre.{keys_are}
use Rattle.cross_index.proofs.EntryFields.{entry_kept}

-- an order has a place for each of the rows
pub order_size : (kinds : List FieldType) (cells : Key) (width : ℕ) (slots order : List ℕ) (count : ℕ)
    → IsOrder kinds (kept_keys cells width slots count) order → length order ≡ count
order_size kinds cells width slots order count is =
    let keys = kept_keys cells width slots count in
    length_permutation (range_with_len 0 (length keys)) order is.places ∙ length-range_with_len 0 (length keys)
    ∙ kept_size cells width slots count

pub order_of_all : (kinds : List FieldType) (cells : Key) (width : ℕ) (slots order : List ℕ) (count : ℕ)
    → IsOrder kinds (kept_keys cells width slots count) order
    → IsOrder kinds (kept_keys cells width slots (length order)) order
order_of_all kinds cells width slots order count is =
    subst (λ (n : ℕ). IsOrder kinds (kept_keys cells width slots n) order)
    (sym (order_size kinds cells width slots order count is)) is

-- each field of an entry stands at its slot among the kept ones
pub slots_stand : (table : TableDef) (i : ℕ) → IsTable table → i < index_count table → 1 ≤ i
    → (kept own slots : List ℕ) → kept ≡ kept_fields table → own ≡ entry_fields table i
    → ((j : ℕ) → j < length own → Contains kept (get_or own j 0) → StandsAt kept (get_or slots j 0) (get_or own j 0))
    → (j : ℕ) → j < length (entry_fields table i)
    → StandsAt (kept_fields table) (get_or slots j 0) (get_or (entry_fields table i) j 0)
slots_stand table i is within second kept own slots same_kept same_own each j inside =
    subst (λ (k : List ℕ). StandsAt k (get_or slots j 0) (get_or (entry_fields table i) j 0)) same_kept
    (subst (λ (o : List ℕ). StandsAt kept (get_or slots j 0) (get_or o j 0)) same_own
    (each j (subst (λ (o : List ℕ). j < length o) (sym same_own) inside)
    (subst (λ (k : List ℕ). Contains k (get_or own j 0)) (sym same_kept)
    (subst (λ (o : List ℕ). Contains (kept_fields table) (get_or o j 0)) (sym same_own)
    (entry_kept table i is within second j inside)))))

-- the entries of an index can be compared with the kept rows
pub can_compare : HasLaws → (file : List ℕ) (table : TableDef) (i : ℕ) (ends : TreeEnds) (found : Gathered)
    (entries : LiveView) (slots order : List ℕ)
    → IsTable table → i < index_count table → 1 ≤ i → CanCompareIndex file table i ends found
    → length slots ≡ length (entry_fields table i)
    → ((j : ℕ) → j < length (entry_fields table i)
    → StandsAt (kept_fields table) (get_or slots j 0) (get_or (entry_fields table i) j 0))
    → ((index : Index) → IsEndsOf index ends → HasGivenLive index entries 0)
    → (kinds : List FieldType)
    → IsOrder kinds (kept_keys found.cells (length (kept_fields table)) slots found.count) order
    → CanCompare file table i entries (kept_keys found.cells (length (kept_fields table)) slots (length order))
can_compare laws file table i ends found entries slots order is within second can size stand start kinds ordered =
    record {
      walked = laws.walked file table can.valid i within;
      start = start (index_in file table i) can.has_ends;
      rows = ap (λ (n : ℕ). kept_keys found.cells (length (kept_fields table)) slots n)
          (order_size kinds found.cells (length (kept_fields table)) slots order found.count ordered)
          ∙ keys_are file table i found.cells found.count slots can.gathered size stand;
      apart = rows_apart laws file table i is can.valid within second;
      rise = entries_rise laws.rise file table i can.valid within;
    }

-- a page has fewer than 32,768 records
few_in_all : {X Y : Type 0} (f : X → List Y) (xs : List X) → All (λ x. length (f x) ≤ 32768) xs
    → length (flat_map f xs) ≤ length xs * 32768
few_in_all f [] few = omega arith
few_in_all f (x ∷ xs) few =
    let here : length (f x) ≤ 32768 = All-head (λ x. length (f x) ≤ 32768) x xs few in
    let rest = few_in_all f xs (All-tail (λ x. length (f x) ≤ 32768) x xs few) in
    omega (arith, here, rest, length-append (f x) (flat_map f xs))

few_on : LeavesAreSound → (index : Index) → IsWalked index
    → All (λ n. length (rows_on index n) ≤ 32768) (leaf_pages index)
few_on sound index walked k d below =
    let n = get_or (leaf_pages index) k d in
    let facts = (sound index walked).sound k d below in
    let size : length (rows_on index n) ≡ length (records_of (page_in index n)) =
    length-map {B = Row} (records_of (page_in index n)) (λ origin. record { page = n; origin = origin }) in
    omega (arith, size, facts.is_chain.counted, facts.header.heap)

-- an index has fewer than 2 ^ 47 entries
few_entries : LeavesAreSound → (index : Index) (ends : TreeEnds) → IsWalked index → IsEndsOf index ends
    → ends.leaves < 2 ^ 32 → length (live_rows index) ≤ 2 ^ 47
unfolding live_rows
few_entries sound index ends walked has few =
    let pages : length (leaf_pages index) ≤ 4294967296 = omega (arith, has.count, few) in
    let all = few_in_all (rows_on index) (leaf_pages index) (few_on sound index walked) in
    omega (
      arith,
      pages,
      all,
      length-filter (is_live_row index) (leaf_rows index),
      count_by-le-length (is_live_row index) (leaf_rows index),
    )

pub few_counted : TreesAreWalked → LeavesAreSound → (file : List ℕ) (table : TableDef) (i : ℕ) (ends : TreeEnds)
    (found : Gathered) (result : Result ℕ CrossStop) → i < index_count table → ends.leaves < 2 ^ 32
    → CanCompareIndex file table i ends found → Compares file table i result
    → IfOk result (λ count. count ≤ 2 ^ 47)
few_counted law sound file table i ends found (Ok count) within leaves can compares =
    omega (
      arith,
      compares.1,
      few_entries sound (index_in file table i) ends (law file table can.valid i within) can.has_ends leaves,
    )
few_counted law sound file table i ends found (Err stop) within leaves can compares = tt
