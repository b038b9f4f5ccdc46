-- The entries of each index can be divided.
use Rattle.std.proofs.Common.{◌≡◌, ◌==◌, ℕ, zero, suc, ◌+◌, ◌<◌, ◌≤◌, Bool, true, false, cond, List, [], ◌∷◌, ◌++◌}
use Rattle.std.proofs.Common.{length}
use Rattle.std.proofs.Common.{sym, subst, arith, All, get_or}
use Rattle.std.proofs.lemmas.Bool.{ne_eqb}
use Rattle.std.proofs.lemmas.List.Sorted.{All-permutation, length_permutation}
use Rattle.std.proofs.lemmas.List.FromFn.{length-map-range_with_len}
use Rattle.column_values.specs.declared.value.Value.{Value}
use Rattle.column_values.specs.Types.{Fields}
use Rattle.column_values.specs.Laws.{SpellingSpells}
use Rattle.schema_text.specs.TableDef.{TableDef}
use Rattle.schema_text.specs.Grammar.{IsTable}
use Rattle.schema_text.specs.IndexFields.{leaf_fields, node_fields}
use Rattle.schema_text.specs.Laws.{ListsAreOfOneIndex}
use Rattle.tree_layout.specs.Entries.{Entry, EntriesAscend}
use Rattle.tree_layout.specs.Division.{CanDivide, divided, divided_from, has_room_for}
use Rattle.tree_layout.specs.DivisionLaws.{PointersAreSmall, RecordsAreSmall, AlikeRecordsHaveOneSize}
use Rattle.tree_layout.specs.Sorted.{SortingRises}
use Rattle.row_layout.specs.StoredRow.{Stored}
use Rattle.row_layout.specs.HoldsValues.{AreFitted, clustered_entries}
use Rattle.row_layout.specs.SecondaryEntries.{secondary_entry, row_entries, secondary_entries}
use Rattle.row_layout.specs.RowKeys.{RowsRise}
use Rattle.row_layout.specs.LeafEntries.{leaf_entries}
use Rattle.row_layout.specs.EntryLaws.{IsShort, EntriesCanDivide}
use Rattle.row_layout.proofs.Short.{rows_short}
use Rattle.row_layout.proofs.Keys.{rise_law, entries_count}
use Rattle.row_layout.proofs.Secondary.{entries_short}
use Rattle.row_layout.proofs.Differ.{differ_law}

-- at most one page more than entries
pages_few : (fields : Fields) (page entries : List Entry)
    → length (divided_from fields page entries) ≤ length entries + 1
pages_few fields page [] = omega arith
pages_few fields page (entry ∷ entries) =
    by_room (has_room_for fields page entry) (pages_few fields (page ++ entry ∷ []) entries)
    (pages_few fields (entry ∷ []) entries)
  where
    by_room : (room : Bool) → length (divided_from fields (page ++ entry ∷ []) entries) ≤ length entries + 1
        → length (divided_from fields (entry ∷ []) entries) ≤ length entries + 1
        → length (cond room (divided_from fields (page ++ entry ∷ []) entries)
        (page ∷ divided_from fields (entry ∷ []) entries)) ≤ length (entry ∷ entries) + 1
    by_room true joined apart = omega arith
    by_room false joined apart = omega arith

-- short entries whose keys rise
can_divide : ListsAreOfOneIndex → (table : TableDef) (j : ℕ) (entries : List Entry)
    → All (IsShort (leaf_fields table j) (node_fields table j)) entries → EntriesAscend (leaf_fields table j) entries
    → length entries < 281474976710656 → CanDivide (leaf_fields table j) (node_fields table j) entries
unfolding divided
can_divide lists table j entries short rise few =
    let leaf = leaf_fields table j in
    let node = node_fields table j in
    record {
      one_index = lists table j;
      fit = λ k d within. (short k d within).fit;
      rise = rise;
      alone = λ k d within. (short k d within).alone;
      pointers = λ k d within. (short k d within).pointers;
      few = let pages = pages_few leaf [] entries in omega arith;
    }

module _ (spells : SpellingSpells) (small : PointersAreSmall) (records : RecordsAreSmall)
    (sizes : AlikeRecordsHaveOneSize) (lists : ListsAreOfOneIndex)
    (sorts : SortingRises) (table : TableDef) (rows : List (List Value)) (stored : List (List Stored))
    (number : ℕ → ℕ → ℕ → ℕ) (is : IsTable table) (are : AreFitted table rows stored)
    (few : length rows < 281474976710656) (rise : RowsRise table rows) where
  clustered_divides : CanDivide (leaf_fields table 0) (node_fields table 0)
      (clustered_entries table.format number stored)
  clustered_divides =
      let count = entries_count table stored number in
      let same = are.count in
      can_divide lists table 0 (clustered_entries table.format number stored)
      (rows_short spells small sizes lists table rows stored number is are)
      (rise_law spells table rows stored number is are few rise) (omega arith)

  count_entries : (j : ℕ) → length (row_entries table j rows) ≡ length rows
  unfolding row_entries
  count_entries j =
      length-map-range_with_len (λ i. secondary_entry table j i (get_or rows i [])) 0 (length rows)

  secondary_divides : (j : ℕ) → 0 < j → j < length table.indexes
      → CanDivide (leaf_fields table j) (node_fields table j) (secondary_entries table j rows)
  unfolding secondary_entries
  secondary_divides j above known =
      let entries = row_entries table j rows in
      let short = entries_short spells small records lists table j rows is above known are.are_rows in
      let sorted = sorts (leaf_fields table j) entries
      (differ_law spells table j rows is above known are.are_rows few rise) in
      let count = count_entries j in
      let moved = length_permutation entries (secondary_entries table j rows) sorted.moved in
      can_divide lists table j (secondary_entries table j rows)
      (All-permutation (IsShort (leaf_fields table j) (node_fields table j)) entries (secondary_entries table j rows)
      sorted.moved short)
      sorted.rise (omega arith)

  pub divides : (j : ℕ) → j < length table.indexes
      → CanDivide (leaf_fields table j) (node_fields table j) (leaf_entries table rows stored number j)
  divides zero known = clustered_divides
  divides (suc j) known =
      let other : (suc j == 0) ≡ false = ne_eqb (suc j) 0 (λ e. omega arith) in
      subst (λ (b : Bool). CanDivide (leaf_fields table (suc j)) (node_fields table (suc j))
      (cond b (clustered_entries table.format number stored) (secondary_entries table (suc j) rows))) (sym other)
      (secondary_divides (suc j) (omega arith) known)

pub divide_law : SpellingSpells → PointersAreSmall → RecordsAreSmall → AlikeRecordsHaveOneSize → ListsAreOfOneIndex
    → SortingRises
    → EntriesCanDivide
divide_law spells small records sizes lists sorts table rows stored number j is are few rise known =
    divides spells small records sizes lists sorts table rows stored number is are few rise j known
