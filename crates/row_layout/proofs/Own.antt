-- The pages of values, one by one: each comes once, and none is left over.
use Rattle.std.proofs.Common.{◌≡◌, ℕ, zero, suc, ◌+◌, ◌<◌, ◌≤◌, Bool, true, false, not, cond, eqb, List, [], ◌∷◌}
use Rattle.std.proofs.Common.{◌++◌, length, refl, sym, ◌∙◌, subst, arith, inl, inr, Contains}
use Rattle.std.specs.List.{flat_map, range_with_len}
use Rattle.std.proofs.lemmas.Bool.{true≢false, false≢true, and_parts, not-true, cases_lt}
use Rattle.std.proofs.lemmas.Bool.Decides.{eqb_tells}
use Rattle.std.proofs.lemmas.List.Concat.{flat_map_single}
use Rattle.std.proofs.lemmas.List.Elements.{at_from_Contains, Contains-get_or}
use Rattle.std.proofs.lemmas.List.FromFn.{get_or-map-range_with_len, length-map-range_with_len}
use Rattle.page_source.specs.Lists.{times_in}
use Rattle.page_source.proofs.Members.{contains_cases, contains_none, contains_flat_map, flat_map_contains}
use Rattle.page_source.proofs.Members.{contains_range}
use Rattle.page_source.proofs.Members.{range_contains}
use Rattle.page_source.proofs.Times.{times_append, times_cons, contains_times, times_some, times_flat_map, sum_by_same}
use Rattle.page_source.proofs.Times.{one_if, times_none}
use Rattle.column_values.specs.declared.value.Value.{Value}
use Rattle.column_values.specs.Laws.{SpellingSpells}
use Rattle.space_audit.specs.declared.owner.Owner.{Owner}
use Rattle.space_audit.specs.declared.owner.Owner.TheVariants as owners
use Rattle.space_audit.specs.Owners.{owner_of}
use Rattle.space_audit.specs.Marks.{is_in, seen}
use Rattle.offpage_chain.specs.Laws.{HasOneChain}
use Rattle.schema_text.specs.declared.table.Format.{Format}
use Rattle.schema_text.specs.TableDef.{TableDef}
use Rattle.tree_walk.specs.Index.{tree_pages}
use Rattle.tree_walk.specs.Descent.{pages_by_descent}
use Rattle.tree_walk.specs.Laws.{ComeOnce, LevelsHaveThePages}
use Rattle.table_check.specs.Trees.{index_in, index_count, clustered_tree, pages_of_trees, all_tree_pages}
use Rattle.table_check.specs.Values.{all_chain_pages}
use Rattle.table_check.specs.Valid.{pages_of_descents, HasValues}
use Rattle.table_check.specs.First.{is_segment_owner, is_reached, is_unreached}
use Rattle.row_layout.specs.StoredRow.{Stored, stored_at}
use Rattle.row_layout.specs.HoldsValues.{HoldsRows, IsValuePage, EachPart, stored_in}
use Rattle.row_layout.specs.HoldsValues.{pages_of_stored, field_page_numbers, row_page_numbers, value_page_numbers}
use Rattle.row_layout.specs.Laws.{HeldRowsAreRows, HeldValuesAreSound, NothingIsLeftOver}
use Rattle.row_layout.proofs.HeldRows.{are_rows, sound_rows, pages_are}

-- lists of numbers, one for each place, none of which has a number of another
module _ (lists : ℕ → List ℕ) (n limit : ℕ) (once : (i : ℕ) → i < limit → times_in (lists i) n ≤ 1)
    (apart : (i j : ℕ) → i < j → j < limit → 1 ≤ times_in (lists i) n → times_in (lists j) n ≡ 0) where
  none_behind : (i from count : ℕ) → i < from → from + count ≤ limit → 1 ≤ times_in (lists i) n
      → times_in (flat_map lists (range_with_len from count)) n ≡ 0
  none_behind i from zero before within comes = refl
  none_behind i from (suc count) before within comes =
      let here = apart i from before (omega arith) comes in
      let rest = none_behind i (from + 1) count (omega arith) (omega arith) comes in
      times_append (lists from) (flat_map lists (range_with_len (from + 1) count)) n ∙ omega arith

  pub once_in_all : (from count : ℕ) → from + count ≤ limit
      → times_in (flat_map lists (range_with_len from count)) n ≤ 1
  once_in_all from zero within = omega arith
  once_in_all from (suc count) within =
      let here = once from (omega arith) in
      let both = times_append (lists from) (flat_map lists (range_with_len (from + 1) count)) n in
      elim (cases_lt 0 (times_in (lists from) n)) [
        | inl comes ↦
            let rest = none_behind from (from + 1) count (omega arith) (omega arith) comes in omega arith
        | inr none ↦ let rest = once_in_all (from + 1) count (omega arith) in omega arith
      ]

module _ (format : Format) where
  -- a page of a field, and of a row
  field_page : (number : ℕ → ℕ) (field : Stored) (n : ℕ) → Contains (field_page_numbers format number field) n
      → (k : ℕ) × (k < pages_of_stored format field) × (number k ≡ n)
  field_page number field n has =
      let found = at_from_Contains (field_page_numbers format number field) n has in
      let size = length-map-range_with_len number 0 (pages_of_stored format field) in
      let within : found.0 < pages_of_stored format field = let below = found.1 in omega arith in (
        found.0,
        within,
        sym (get_or-map-range_with_len number 0 (pages_of_stored format field) found.0 found.0 0 within (omega arith))
            ∙ found.2 0,
      )

  has_field_page : (number : ℕ → ℕ) (field : Stored) (k : ℕ) → k < pages_of_stored format field
      → Contains (field_page_numbers format number field) (number k)
  has_field_page number field k within =
      let size = length-map-range_with_len number 0 (pages_of_stored format field) in
      subst (λ n. Contains (field_page_numbers format number field) n)
      (get_or-map-range_with_len number 0 (pages_of_stored format field) k k 0 within (omega arith))
      (Contains-get_or (field_page_numbers format number field) k 0 (omega arith))

  -- a page of a row
  pub record IsRowPage (number : ℕ → ℕ → ℕ) (row : List Stored) (n : ℕ) : Type 0 where
    pub i : ℕ
    pub k : ℕ
    pub field : i < length row
    pub part : k < pages_of_stored format (stored_at row i)
    pub same : number i k ≡ n

  row_page : (number : ℕ → ℕ → ℕ) (row : List Stored) (n : ℕ) → Contains (row_page_numbers format number row) n
      → IsRowPage number row n
  row_page number row n has =
      let piece =
      contains_flat_map (λ i. field_page_numbers format (number i) (stored_at row i))
      (range_with_len 0 (length row))
      n has in
      let page = field_page (number piece.piece) (stored_at row piece.piece) n piece.member in
      record {
        i = piece.piece;
        k = page.0;
        field = range_contains (length row) piece.piece piece.among;
        part = page.1;
        same = page.2;
      }

  pub value_page : (number : ℕ → ℕ → ℕ → ℕ) (stored : List (List Stored)) (n : ℕ)
      → Contains (value_page_numbers format number stored) n → IsValuePage format stored number n
  unfolding value_page_numbers
  value_page number stored n has =
      let piece = contains_flat_map (λ r. row_page_numbers format (number r) (stored_in stored r))
      (range_with_len 0 (length stored)) n has in
      let page = row_page (number piece.piece) (stored_in stored piece.piece) n piece.member in
      record {
        r = piece.piece;
        i = page.i;
        k = page.k;
        row = range_contains (length stored) piece.piece piece.among;
        field = page.field;
        part = page.part;
        same = page.same;
      }

  pub has_value_page : (number : ℕ → ℕ → ℕ → ℕ) (stored : List (List Stored)) (n : ℕ)
      → IsValuePage format stored number n → Contains (value_page_numbers format number stored) n
  unfolding value_page_numbers
  has_value_page number stored n page =
      let row = stored_in stored page.r in
      flat_map_contains (λ r. row_page_numbers format (number r) (stored_in stored r))
      (range_with_len 0 (length stored)) page.r n
      (contains_range (length stored) page.r page.row)
      (flat_map_contains (λ i. field_page_numbers format (number page.r i) (stored_at row i))
      (range_with_len 0 (length row))
      page.i n (contains_range (length row) page.i page.field)
      (subst (λ m. Contains (field_page_numbers format (number page.r page.i) (stored_at row page.i)) m) page.same
      (has_field_page (number page.r page.i) (stored_at row page.i) page.k page.part)))

  -- each number comes once
  module _ (number : ℕ → ℕ → ℕ → ℕ) (stored : List (List Stored))
      (one : EachPart format stored (λ r i k. EachPart format stored (λ s j m.
      number r i k ≡ number s j m → (r ≡ s) × (i ≡ j) × (k ≡ m)))) (n : ℕ) where
    once_in_field : (r i : ℕ) → r < length stored → i < length (stored_in stored r)
        → times_in (field_page_numbers format (number r i) (stored_at (stored_in stored r) i)) n ≤ 1
    once_in_field r i row field =
        let count = pages_of_stored format (stored_at (stored_in stored r) i) in
        let single : ℕ → List ℕ = λ k. number r i k ∷ [] in
        let cell : (k : ℕ)
        → times_in (single k) n ≡ one_if (eqb (number r i k) n) + 0 = λ k. times_cons (number r i k) [] n
        in
        subst (λ xs. times_in xs n ≤ 1) (flat_map_single (number r i) (range_with_len 0 count))
        (once_in_all single n count
        (λ k within. few (eqb (number r i k) n) (times_in (single k) n) (cell k))
        (λ k m before within comes.
        times_none (single m) n
        (λ has.
        let there = only (number r i m) n has in
        let here = only (number r i k) n (contains_times (single k) n comes) in
        let same = (one r i k row field (omega arith) r i m row field within (here ∙ sym there)).2 in
        absurd (omega arith)))
        0 count (omega arith))
      where
        few : (b : Bool) (times : ℕ) → times ≡ one_if b + 0 → times ≤ 1
        few true times is = omega arith
        few false times is = omega arith

        only : (x n : ℕ) → Contains (x ∷ []) n → x ≡ n
        only x n has = elim (contains_cases x [] n has) [
          | inl same ↦ same
          | inr none ↦ absurd (contains_none n none)
        ]

    once_in_row : (r : ℕ) → r < length stored → times_in (row_page_numbers format (number r) (stored_in stored r)) n ≤ 1
    once_in_row r row =
        let fields = stored_in stored r in
        once_in_all (λ i. field_page_numbers format (number r i) (stored_at fields i)) n (length fields)
        (λ i field. once_in_field r i row field)
        (λ i j before within comes.
        times_none (field_page_numbers format (number r j) (stored_at fields j)) n
        (λ has.
        let there = field_page (number r j) (stored_at fields j) n has in
        let here = field_page (number r i) (stored_at fields i) n
        (contains_times (field_page_numbers format (number r i) (stored_at fields i)) n comes) in
        let same = (one r i here.0 row (omega arith) here.1 r j there.0 row within there.1 (here.2 ∙ sym there.2)).1 in
        absurd (omega arith)))
        0 (length fields) (omega arith)

    pub once_in_values : times_in (value_page_numbers format number stored) n ≤ 1
    unfolding value_page_numbers
    once_in_values =
        once_in_all (λ r. row_page_numbers format (number r) (stored_in stored r)) n (length stored)
        (λ r row. once_in_row r row)
        (λ r s before within comes.
        times_none (row_page_numbers format (number s) (stored_in stored s)) n
        (λ has.
        let there = row_page (number s) (stored_in stored s) n has in
        let here = row_page (number r) (stored_in stored r) n
        (contains_times (row_page_numbers format (number r) (stored_in stored r)) n comes) in
        let same = (one r here.i here.k (omega arith) here.field here.part s there.i there.k within there.field
        there.part (here.same ∙ sym there.same)).0 in
        absurd (omega arith)))
        0 (length stored) (omega arith)

-- the three laws
pub rows_law : HasOneChain → SpellingSpells → HeldRowsAreRows
rows_law one spells file table rows stored number h = are_rows one spells file table rows stored number h

-- sound values with pages of their own
pub values_from : HasOneChain → SpellingSpells → (file : List ℕ) (table : TableDef) (rows : List (List Value))
    (stored : List (List Stored)) (number : ℕ → ℕ → ℕ → ℕ) → HoldsRows file table rows stored number
    → ComeOnce (pages_of_descents file table)
    → ((n : ℕ) → times_in (value_page_numbers table.format number stored) n ≤ 1)
    → ((n : ℕ) → Contains (value_page_numbers table.format number stored) n
    → ¬ (Contains (pages_of_descents file table) n))
    → HasValues file table
values_from one spells file table rows stored number h trees each apart = record {
  rows = sound_rows one spells file table rows stored number h;
  once = λ n.
      let descents = pages_of_descents file table in
      let pages = value_page_numbers table.format number stored in
      let same = pages_are one spells file table rows stored number h in
      let both = times_append descents pages n in
      let once = each n in
      let tree = trees n in
      subst (λ xs. times_in (descents ++ xs) n ≤ 1) (sym same)
      (elim (cases_lt 0 (times_in pages n)) [
        | inl comes ↦ let none = times_none descents n (apart n (contains_times pages n comes)) in omega arith
        | inr none ↦ omega arith
      ]);
}

pub values_law : HasOneChain → SpellingSpells → HeldValuesAreSound
values_law one spells file table rows stored number h own =
    values_from one spells file table rows stored number h own.trees
    (λ n. once_in_values table.format number stored own.one n)
    (λ n comes has.
    let page = value_page table.format number stored n comes in
    own.apart page.r page.i page.k page.row page.field page.part
    (subst (λ m. Contains (pages_of_descents file table) m) (sym page.same) has))

-- what stands in a list is found there
is_in_list : (xs : List ℕ) (n : ℕ) → Contains xs n → is_in xs n ≡ true
is_in_list [] n has = absurd (contains_none n has)
is_in_list (x ∷ xs) n has = elim (eqb_tells x n) [
  | inl q ↦ rw q.0 refl
  | inr q ↦ rw q.0 (is_in_list xs n (elim (contains_cases x xs n has) [
    | inl same ↦ absurd (q.1 same)
    | inr there ↦ there
  ]))
]

-- an owner that is a segment
used_segment : (owner : Owner) → is_segment_owner owner ≡ true → (segment : ℕ) × (owner ≡ owners.Used segment)
used_segment (owners.Used segment) is = (segment, refl)
used_segment owners.System is = absurd (false≢true is)
used_segment owners.InodePage is = absurd (false≢true is)
used_segment (owners.Spare segment) is = absurd (false≢true is)
used_segment owners.FragmentFree is = absurd (false≢true is)
used_segment owners.FreeExtent is = absurd (false≢true is)
used_segment owners.Beyond is = absurd (false≢true is)

-- a page of a tree, level by level
tree_page : LevelsHaveThePages → (file : List ℕ) (table : TableDef) (n : ℕ) → Contains (pages_of_descents file table) n
    → Contains (all_tree_pages file table) n
unfolding pages_of_descents pages_of_trees
tree_page have file table n has =
    let range = range_with_len 0 (index_count table) in
    let some = times_some (pages_of_descents file table) n has in
    let descents = times_flat_map (λ j. pages_by_descent (index_in file table j)) range n in
    let levels = times_flat_map (λ j. tree_pages (index_in file table j)) range n in
    let same = sum_by_same (λ j. times_in (tree_pages (index_in file table j)) n)
    (λ j. times_in (pages_by_descent (index_in file table j)) n) (λ j. have (index_in file table j) n) range in
    contains_times (all_tree_pages file table) n (omega arith)

seen_first : (taken : ℕ → Bool) (list : List ℕ) (n : ℕ) → taken n ≡ true → seen taken list n ≡ true
seen_first taken list n is = rw is refl

seen_then : (taken : ℕ → Bool) (list : List ℕ) (n : ℕ) → is_in list n ≡ true → seen taken list n ≡ true
seen_then taken list n is = by_test (taken n)
  where
    by_test : (b : Bool) → cond b true (is_in list n) ≡ true
    by_test true = refl
    by_test false = is

pub left_law : HasOneChain → SpellingSpells → LevelsHaveThePages → NothingIsLeftOver
unfolding is_unreached
left_law one spells have file table rows stored number h others n below unreached =
    let parts = and_parts (is_segment_owner (owner_of file n)) (not (is_reached file table n)) unreached in
    let owner = used_segment (owner_of file n) parts.0 in
    let trees = all_tree_pages file table in
    let chains = all_chain_pages (clustered_tree file table) in
    let reached : is_reached file table n ≡ true =
    elim (others owner.0 n owner.1) [
      | inl tree ↦
          seen_first (is_in trees) chains n (is_in_list trees n (tree_page have file table n tree))
      | inr value ↦
          seen_then (is_in trees) chains n
          (is_in_list chains n
          (subst (λ xs. Contains xs n) (sym (pages_are one spells file table rows stored number h))
          (has_value_page table.format number stored n value)))
    ] in
    absurd (true≢false (sym reached ∙ not-true (is_reached file table n) parts.1))
