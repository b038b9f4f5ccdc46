-- Entries whose keys differ have one order in which the keys rise.
use Rattle.std.proofs.Common.{◌≡◌, ◌≢◌, ℕ, zero, suc, ◌+◌, ◌-◌, ◌<◌, List, [], ◌∷◌, length, get_or, set, cond}
use Rattle.std.proofs.Common.{true, false, refl, sym, ap, ◌∙◌, subst, arith, inl, inr}
use Rattle.std.specs.declared.cmp.Ordering.{Ordering}
use Rattle.std.specs.declared.cmp.Ordering.TheVariants.{Less, Equal, Greater}
use Rattle.std.specs.Ordering.{is_lt}
use Rattle.std.specs.List.{All, AllPairs, Contains, swap}
use Rattle.std.specs.List.Sorted.{IsPermutation, IsSortedBy}
use Rattle.std.proofs.lemmas.Bool.{true≢false, false≢true, cases_lt}
use Rattle.std.proofs.lemmas.Bool.Decides.{eqb_tells}
use Rattle.std.proofs.lemmas.List.{get_or-set_same, get_or-set_other, length-set}
use Rattle.std.proofs.lemmas.List.Edits.{swap_is}
use Rattle.std.proofs.lemmas.List.Elements.{All-head, All-tail, All-cons, All-nil, All-contains}
use Rattle.std.proofs.lemmas.List.Kept.{AllPairs-cons}
use Rattle.std.proofs.lemmas.List.Sorted.{IsPermutation-refl, IsPermutation-cons, IsPermutation-trans}
use Rattle.std.proofs.lemmas.List.Sorted.{IsPermutation-sym}
use Rattle.std.proofs.lemmas.List.Sorted.{IsPermutation-swap, IsPermutation-keeps, Contains-permutation}
use Rattle.page_source.proofs.Members.{contains_here, contains_there, contains_cases, contains_none}
use Rattle.column_values.specs.Types.{Fields}
use Rattle.column_values.specs.Order.{key_cmp}
use Rattle.column_values.proofs.KeyOrder.{is_strict, is_transitive, is_total, symmetric}
use Rattle.compact_record.specs.Reading.{key_kinds}
use Rattle.tree_layout.specs.Entries.{Entry, key_of_entry, IsEntryBelow, EntriesAscend}
use Rattle.tree_layout.specs.Sorted.{is_entry_below, put_sorted, sorted_entries, DifferAt, HaveOwnKeys}
use Rattle.tree_layout.specs.Sorted.{SortingRises}

module _ {X : Type 0} (R : X → X → Type 0) where
  pairs_head : (x : X) (xs : List X) → AllPairs R (x ∷ xs) → All (R x) xs
  pairs_head x xs pairs k d within = pairs 0 (suc k) d (omega arith) (omega arith)

  pairs_tail : (x : X) (xs : List X) → AllPairs R (x ∷ xs) → AllPairs R xs
  pairs_tail x xs pairs i j d before within = pairs (suc i) (suc j) d (omega arith) (omega arith)

is_below : (o : Ordering) → is_lt o ≡ true → o ≡ Less
is_below Less is = refl
is_below Equal is = absurd (false≢true is)
is_below Greater is = absurd (false≢true is)

not_below : (o : Ordering) → is_lt o ≡ false → o ≡ Less → ⊥
not_below Less is below = absurd (true≢false is)
not_below Equal is below = cc
not_below Greater is below = cc

decided_below : (o : Ordering) → ((o ≡ Less → ⊥) → ⊥) → o ≡ Less
decided_below Less most = refl
decided_below Equal most = absurd (most (λ same. cc))
decided_below Greater most = absurd (most (λ same. cc))

module _ (fields : Fields) where
  below_trans : (a b c : Entry) → IsEntryBelow fields a b → IsEntryBelow fields b c → IsEntryBelow fields a c
  below_trans a b c first second =
      is_transitive (key_kinds fields) (key_of_entry fields.keys a) (key_of_entry fields.keys b)
      (key_of_entry fields.keys c) first second

  below_itself : (a : Entry) → IsEntryBelow fields a a → ⊥
  below_itself a below = is_strict (key_kinds fields) (key_of_entry fields.keys a) below

  -- of two different keys one is below the other
  other_below : (a b : Entry) → DifferAt fields a b → is_entry_below fields a b ≡ false → IsEntryBelow fields b a
  other_below a b differ not =
      let kinds = key_kinds fields in
      let first = key_of_entry fields.keys a in
      let second = key_of_entry fields.keys b in
      decided_below (key_cmp kinds second first)
      (λ none. differ (is_total kinds first second (not_below (key_cmp kinds first second) not) none))

  -- what holds of an entry and of a list holds of both together
  put_all : (P : Entry → Type 0) (x : Entry) (xs : List Entry) → P x → All P xs → All P (put_sorted fields x xs)
  put_all P x [] here all = All-cons P x [] here (All-nil P)
  put_all P x (y ∷ ys) here all =
      elim (is_entry_below fields x y) as (λ below. All P (cond below (x ∷ y ∷ ys) (y ∷ put_sorted fields x ys))) [
        | true ↦ All-cons P x (y ∷ ys) here all
        | false ↦ All-cons P y (put_sorted fields x ys) (All-head P y ys all)
            (put_all P x ys here (All-tail P y ys all))
      ]

  put_rises : (x : Entry) (xs : List Entry) → All (DifferAt fields x) xs → EntriesAscend fields xs
      → EntriesAscend fields (put_sorted fields x xs)
  put_rises x [] differ rise = λ i j d before within. absurd (omega arith)
  put_rises x (y ∷ ys) differ rise =
      let R = IsEntryBelow fields in
      let behind = pairs_head R y ys rise in
      let rest = pairs_tail R y ys rise in
      elim (is_entry_below fields x y) as (λ below. is_entry_below fields x y ≡ below
      → EntriesAscend fields (cond below (x ∷ y ∷ ys) (y ∷ put_sorted fields x ys))) [
        | true ↦ λ below.
            let first = is_below (key_cmp (key_kinds fields) (key_of_entry fields.keys x) (key_of_entry fields.keys y))
            below in
            AllPairs-cons R x (y ∷ ys)
            (All-cons (R x) y ys first (λ k d within. below_trans x y (get_or ys k d) first (behind k d within))) rise
        | false ↦ λ below.
            let first = other_below x y (All-head (DifferAt fields x) y ys differ) below in
            AllPairs-cons R y (put_sorted fields x ys) (put_all (R y) x ys first behind)
            (put_rises x ys (All-tail (DifferAt fields x) y ys differ) rest)
      ] refl

  put_moves : (x : Entry) (xs : List Entry) → IsPermutation (x ∷ xs) (put_sorted fields x xs)
  put_moves x [] = IsPermutation-refl (x ∷ [])
  put_moves x (y ∷ ys) =
      elim (is_entry_below fields x y) as (λ below. IsPermutation (x ∷ y ∷ ys)
      (cond below (x ∷ y ∷ ys) (y ∷ put_sorted fields x ys))) [
        | true ↦ IsPermutation-refl (x ∷ y ∷ ys)
        | false ↦ IsPermutation-trans (x ∷ y ∷ ys) (y ∷ x ∷ ys) (y ∷ put_sorted fields x ys)
            (IsPermutation-swap (x ∷ y ∷ ys) (y ∷ x ∷ ys) 0 1 (omega arith) (omega arith) refl)
            (IsPermutation-cons y (x ∷ ys) (put_sorted fields x ys) (put_moves x ys))
      ]

  sorted_all : (P : Entry → Type 0) (xs : List Entry) → All P xs → All P (sorted_entries fields xs)
  unfolding sorted_entries
  sorted_all P [] all = All-nil P
  sorted_all P (x ∷ xs) all =
      put_all P x (sorted_entries fields xs) (All-head P x xs all) (sorted_all P xs (All-tail P x xs all))

  sorted_rise : (xs : List Entry) → HaveOwnKeys fields xs → EntriesAscend fields (sorted_entries fields xs)
  unfolding sorted_entries
  sorted_rise [] differ = λ i j d before within. absurd (omega arith)
  sorted_rise (x ∷ xs) differ =
      put_rises x (sorted_entries fields xs)
      (sorted_all (DifferAt fields x) xs (pairs_head (DifferAt fields) x xs differ))
      (sorted_rise xs (pairs_tail (DifferAt fields) x xs differ))

  sorted_moved : (xs : List Entry) → IsPermutation xs (sorted_entries fields xs)
  unfolding sorted_entries
  sorted_moved [] = IsPermutation-refl []
  sorted_moved (x ∷ xs) =
      IsPermutation-trans (x ∷ xs) (x ∷ sorted_entries fields xs) (put_sorted fields x (sorted_entries fields xs))
      (IsPermutation-cons x xs (sorted_entries fields xs) (sorted_moved xs)) (put_moves x (sorted_entries fields xs))

  -- rising lists of the same entries are one
  same_first : (x y : Entry) (xs ys : List Entry) → EntriesAscend fields (x ∷ xs) → EntriesAscend fields (y ∷ ys)
      → Contains (y ∷ ys) x → Contains (x ∷ xs) y → x ≡ y
  same_first x y xs ys first second here there =
      elim (contains_cases y ys x here) [
        | inl same ↦ sym same
        | inr inside ↦
            elim (contains_cases x xs y there) [
              | inl same ↦ same
              | inr within ↦
                  let R = IsEntryBelow fields in
                  let after_y = All-contains (R y) ys x (pairs_head R y ys second) inside in
                  let after_x = All-contains (R x) xs y (pairs_head R x xs first) within in
                  absurd (below_itself x (below_trans x y x after_x after_y))
            ]
      ]

  -- another member than the first is one of the rest
  rest_of : (x : Entry) (ys : List Entry) (z : Entry) → IsEntryBelow fields x z → Contains (x ∷ ys) z → Contains ys z
  rest_of x ys z below inside =
      elim (contains_cases x ys z inside) [
        | inl same ↦ absurd (below_itself x (subst (IsEntryBelow fields x) (sym same) below))
        | inr within ↦ within
      ]

  rising_one : (xs ys : List Entry) → EntriesAscend fields xs → EntriesAscend fields ys
      → ((z : Entry) → Contains xs z → Contains ys z) → ((z : Entry) → Contains ys z → Contains xs z) → xs ≡ ys
  rising_one [] [] first second into back = refl
  rising_one [] (y ∷ ys) first second into back = absurd (contains_none y (back y (contains_here y ys)))
  rising_one (x ∷ xs) [] first second into back = absurd (contains_none x (into x (contains_here x xs)))
  rising_one (x ∷ xs) (y ∷ ys) first second into back =
      let R = IsEntryBelow fields in
      let same = same_first x y xs ys first second (into x (contains_here x xs)) (back y (contains_here y ys)) in
      let rest = rising_one xs ys (pairs_tail R x xs first) (pairs_tail R y ys second)
      (λ z inside. rest_of y ys z
      (subst (λ a. R a z) same (All-contains (R x) xs z (pairs_head R x xs first) inside))
      (into z (contains_there x xs z inside)))
      (λ z inside. rest_of x xs z
      (subst (λ a. R a z) (sym same) (All-contains (R y) ys z (pairs_head R y ys second) inside))
      (back z (contains_there y ys z inside))) in
      rw (same, rest) refl

-- where the member at a place of a list stood before two members changed places
record Moved (i j k p : ℕ) : Type 0 where
  second : k ≡ j → p ≡ i
  first : k ≢ j → k ≡ i → p ≡ j
  other : k ≢ j → k ≢ i → p ≡ k

record Before {X : Type 0} (xs ys : List X) (i j k : ℕ) (d : X) : Type 0 where
  place : ℕ
  inside : place < length xs
  same : get_or ys k d ≡ get_or xs place d
  moved : Moved i j k place

before_swap : {X : Type 0} (xs : List X) (i j k : ℕ) (d : X) → i < length xs → j < length xs → k < length xs
    → Before xs (swap xs i j) i j k d
before_swap xs i j k d first second within =
    let front = set xs i (get_or xs j d) in
    let size : length front ≡ length xs = length-set xs i (get_or xs j d) in
    let swapped : swap xs i j ≡ set front j (get_or xs i d) = sym (swap_is xs i j d first second) in
    let at : (e : ℕ) → get_or (set front j (get_or xs i d)) k d ≡ get_or xs e d
    → get_or (swap xs i j) k d ≡ get_or xs e d = λ e same. ap (λ ys. get_or ys k d) swapped ∙ same in
    elim (eqb_tells k j) [
      | inl last ↦ record {
        place = i;
        inside = first;
        same = at i (ap (λ n. get_or (set front j (get_or xs i d)) n d) last.1
            ∙ get_or-set_same front j (get_or xs i d) d (omega arith));
        moved = record {
          second = λ is. refl;
          first = λ not is. absurd (not last.1);
          other = λ not none. absurd (not last.1);
        };
      }
      | inr not_last ↦
          let kept = get_or-set_other front j k (get_or xs i d) d not_last.1 in
          elim (eqb_tells k i) [
            | inl is ↦ record {
              place = j;
              inside = second;
              same = at j (kept ∙ ap (λ n. get_or front n d) is.1 ∙ get_or-set_same xs i (get_or xs j d) d first);
              moved = record {
                second = λ last. absurd (not_last.1 last);
                first = λ not here. refl;
                other = λ not none. absurd (none is.1);
              };
            }
            | inr none ↦ record {
              place = k;
              inside = within;
              same = at k (kept ∙ get_or-set_other xs i k (get_or xs j d) d none.1);
              moved = record {
                second = λ last. absurd (not_last.1 last);
                first = λ not here. absurd (none.1 here);
                other = λ not other. refl;
              };
            }
          ]
    ]

-- different places stood in different places
moved_apart : (i j k m p q : ℕ) → Moved i j k p → Moved i j m q → k ≢ m → p ≢ q
moved_apart i j k m p q one two apart same =
    elim (eqb_tells k j) [
      | inl k_last ↦
          let e = one.second k_last.1 in
          elim (eqb_tells m j) [
            | inl m_last ↦ apart (k_last.1 ∙ sym m_last.1)
            | inr m_other ↦
                elim (eqb_tells m i) [
                  | inl is ↦ let f = two.first m_other.1 is.1 in apart (omega (arith, k_last.1, is.1))
                  | inr none ↦ let f = two.other m_other.1 none.1 in none.1 (sym f ∙ sym same ∙ e)
                ]
          ]
      | inr k_other ↦
          elim (eqb_tells k i) [
            | inl k_is ↦
                let e = one.first k_other.1 k_is.1 in
                elim (eqb_tells m j) [
                  | inl m_last ↦ let f = two.second m_last.1 in k_other.1 (k_is.1 ∙ sym f ∙ sym same ∙ e)
                  | inr m_other ↦
                      elim (eqb_tells m i) [
                        | inl is ↦ apart (k_is.1 ∙ sym is.1)
                        | inr none ↦ let f = two.other m_other.1 none.1 in m_other.1 (sym f ∙ sym same ∙ e)
                      ]
                ]
            | inr k_none ↦
                let e = one.other k_other.1 k_none.1 in
                elim (eqb_tells m j) [
                  | inl m_last ↦ let f = two.second m_last.1 in k_none.1 (sym e ∙ same ∙ f)
                  | inr m_other ↦
                      elim (eqb_tells m i) [
                        | inl is ↦ let f = two.first m_other.1 is.1 in k_other.1 (sym e ∙ same ∙ f)
                        | inr none ↦ let f = two.other m_other.1 none.1 in apart (sym e ∙ same ∙ f)
                      ]
                ]
          ]
    ]

module _ (fields : Fields) where
  differ_both : (xs : List Entry) → HaveOwnKeys fields xs → (p q : ℕ) (d : Entry) → p ≢ q → p < length xs
      → q < length xs → DifferAt fields (get_or xs p d) (get_or xs q d)
  differ_both xs differ p q d apart first second =
      elim (cases_lt p q) [
        | inl before ↦ differ p q d before second
        | inr behind ↦ λ equal. differ q p d (omega arith) first (symmetric (key_kinds fields) _ _ equal)
      ]

  differ_swapped : (xs : List Entry) (i j : ℕ) → i < length xs → j < length xs → HaveOwnKeys fields xs
      → HaveOwnKeys fields (swap xs i j)
  differ_swapped xs i j first second differ k m d before within =
      let size : length (swap xs i j) ≡ length xs =
      ap length (sym (swap_is xs i j d first second)) ∙ length-set (set xs i (get_or xs j d)) j (get_or xs i d)
      ∙ length-set xs i (get_or xs j d) in
      let one = before_swap xs i j k d first second (omega arith) in
      let two = before_swap xs i j m d first second (omega arith) in
      let apart = moved_apart i j k m one.place two.place one.moved two.moved (λ same. omega arith) in
      rw (one.same, two.same) (differ_both xs differ one.place two.place d apart one.inside two.inside)

  differ_moved : (xs ys : List Entry) → IsPermutation xs ys → HaveOwnKeys fields xs → HaveOwnKeys fields ys
  differ_moved xs ys moved differ =
      IsPermutation-keeps xs (HaveOwnKeys fields) differ differ_swapped ys moved

  steps_far : (xs : List Entry) → ((k : ℕ) (d : Entry) → k + 1 < length xs
      → IsEntryBelow fields (get_or xs k d) (get_or xs (k + 1) d)) → (i n : ℕ) (d : Entry) → i + suc n < length xs
      → IsEntryBelow fields (get_or xs i d) (get_or xs (i + suc n) d)
  steps_far xs step i zero d within =
      let e : i + suc zero ≡ i + 1 = omega arith in rw e (step i d (omega arith))
  steps_far xs step i (suc n) d within =
      let e : i + suc (suc n) ≡ i + suc n + 1 = omega arith in
      rw e (below_trans fields (get_or xs i d) (get_or xs (i + suc n) d) (get_or xs (i + suc n + 1) d)
      (steps_far xs step i n d (omega arith)) (step (i + suc n) d (omega arith)))

  -- keys that rise from each entry to the next rise from each to every later one
  pub steps_rise : (xs : List Entry) → ((k : ℕ) (d : Entry) → k + 1 < length xs
      → IsEntryBelow fields (get_or xs k d) (get_or xs (k + 1) d)) → EntriesAscend fields xs
  steps_rise xs step i j d before within =
      let far = steps_far xs step i (j - suc i) d (omega arith) in
      let e : i + suc (j - suc i) ≡ j = omega arith in
      rw e at far

  -- a sort of entries whose keys differ makes them rise
  sort_rises : (xs ys : List Entry) → HaveOwnKeys fields xs → IsPermutation xs ys
      → IsSortedBy (is_entry_below fields) ys → EntriesAscend fields ys
  sort_rises xs ys differ moved up =
      steps_rise ys (λ k d within.
      other_below fields (get_or ys (k + 1) d) (get_or ys k d)
      (differ_both ys (differ_moved xs ys moved differ) (k + 1) k d (λ same. omega arith) within (omega arith))
      (up k d (omega arith) within))

pub sorting_law : SortingRises
sorting_law fields entries differ = record {
  moved = sorted_moved fields entries;
  rise = sorted_rise fields entries differ;
  only = λ others moved up.
      let sorted = sorted_entries fields entries in
      let back = sorted_moved fields entries in
      rising_one fields others sorted (sort_rises fields entries others differ moved up)
      (sorted_rise fields entries differ)
      (λ z inside. Contains-permutation entries sorted z back
      (Contains-permutation others entries z (IsPermutation-sym entries others moved) inside))
      (λ z inside. Contains-permutation entries others z moved
      (Contains-permutation sorted entries z (IsPermutation-sym entries sorted back) inside));
}
