-- Several trees in one file: no page comes twice over all of them, and each segment is named once.
use Rattle.std.proofs.Common.{◌≡◌, ◌≢◌, ◌==◌, ℕ, zero, suc, ◌+◌, ◌-◌, ◌*◌, ◌<◌, ◌≤◌, List, [], ◌∷◌, length, get_or}
use Rattle.std.proofs.Common.{cond, refl, sym, ap, ◌∙◌, subst, arith, inl, inr, ◌⊎◌}
use Rattle.std.specs.List.{All, flat_map, range_with_len}
use Rattle.std.proofs.lemmas.Bool.{ne_eqb, eq-eqb, cases_lt}
use Rattle.std.proofs.lemmas.List.Elements.{All-append, All-contains, All-from_get_or, Contains-get_or}
use Rattle.page_source.specs.Lists.{times_in}
use Rattle.page_source.proofs.Times.{times_cons, times_append, times_some, contains_times}
use Rattle.tree_walk.specs.Index.{Index, root_level, reached, pages_at, tree_pages}
use Rattle.tree_walk.specs.Descent.{pages_by_descent}
use Rattle.tree_walk.specs.Laws.{LevelsHaveThePages}
use Rattle.tree_layout.specs.Division.{Level}
use Rattle.tree_layout.specs.Levels.{width_at, top_of, numbers_at}
use Rattle.tree_layout.specs.Built.{HoldsTree, HoldsTrees}
use Rattle.tree_layout.specs.TreeLaws.{BuiltTreesAreWhole, HasBuiltTrees, BuiltTreesAreApart}
use Rattle.tree_walk.specs.Segments.{named_segments}
use Rattle.tree_layout.proofs.TreeRows.{length-numbers, number_at, root_alone, pages_are, root_level_is}

-- the pages of a tree

-- a number is that of a page of these levels
pub record IsPageIn (numbers : ℕ → ℕ → ℕ) (levels : List Level) (n : ℕ) : Type 0 where
  pub l : ℕ
  pub k : ℕ
  pub inside : l < length levels
  pub within : k < width_at levels l
  pub same : n ≡ numbers l k

level_pages : (numbers : ℕ → ℕ → ℕ) (levels : List Level) (l : ℕ) → l < length levels
    → All (IsPageIn numbers levels) (numbers_at levels numbers l)
level_pages numbers levels l inside =
    All-from_get_or (IsPageIn numbers levels) (numbers_at levels numbers l) 0
    (λ k below.
    let size = length-numbers levels numbers l in
    let within : k < width_at levels l = omega arith in
    record { l = l; k = k; inside = inside; within = within; same = number_at levels numbers l k 0 within })

module _ (index : Index) (numbers : ℕ → ℕ → ℕ) (levels : List Level) (tree : HoldsTree index numbers levels) where
  depth_pages : (d : ℕ) → d ≤ top_of levels → All (IsPageIn numbers levels) (reached index d)
  unfolding reached
  depth_pages zero below =
      let some = tree.are_levels.some in
      subst (All (IsPageIn numbers levels)) (root_alone index numbers levels tree)
      (level_pages numbers levels (top_of levels) (omega arith))
  depth_pages (suc d) below =
      let some = tree.are_levels.some in
      let l = top_of levels - suc d in
      All-append (IsPageIn numbers levels) (reached index d) (pages_at index (suc d)) (depth_pages d (omega arith))
      (subst (All (IsPageIn numbers levels)) (sym (pages_are index numbers levels tree (suc d) l (omega arith)))
      (level_pages numbers levels l (omega arith)))

  -- each page of the descent is one of these
  pub descent_page : LevelsHaveThePages → (n : ℕ) → 1 ≤ times_in (pages_by_descent index) n
      → IsPageIn numbers levels n
  descent_page have n comes =
      let same = have index n in
      let level = root_level_is index numbers levels tree in
      All-contains (IsPageIn numbers levels) (tree_pages index) n (depth_pages (root_level index) (omega arith))
      (contains_times (tree_pages index) n (omega arith))

-- a member of a list comes in it
comes_at : (xs : List ℕ) (k d : ℕ) → k < length xs → 1 ≤ times_in xs (get_or xs k d)
comes_at xs k d below = let some = times_some xs (get_or xs k d) (Contains-get_or xs k d below) in omega arith

-- the pages of a depth are among those that are reached
reached_has : (index : Index) (n d e : ℕ) → times_in (pages_at index d) n ≤ times_in (reached index (d + e)) n
unfolding reached pages_at
reached_has index n zero zero = omega arith
reached_has index n (suc d) zero =
    let sum : suc d + 0 ≡ suc d = omega arith in
    let both = times_append (reached index d) (pages_at index (suc d)) n in
    rw sum (omega arith)
reached_has index n d (suc e) =
    let sum : d + suc e ≡ suc (d + e) = omega arith in
    let rest = reached_has index n d e in
    let both = times_append (reached index (d + e)) (pages_at index (suc (d + e))) n in
    rw sum (omega arith)

module _ (index : Index) (numbers : ℕ → ℕ → ℕ) (levels : List Level) (tree : HoldsTree index numbers levels) where
  -- each page of the levels is one of the descent
  pub page_descended : LevelsHaveThePages → (l k : ℕ) → l < length levels → k < width_at levels l
      → 1 ≤ times_in (pages_by_descent index) (numbers l k)
  page_descended have l k inside within =
      let some = tree.are_levels.some in
      let level = root_level_is index numbers levels tree in
      let d = top_of levels - l in
      let pages = pages_are index numbers levels tree d l (omega arith) in
      let size = length-numbers levels numbers l in
      let number = number_at levels numbers l k 0 within in
      let here : 1 ≤ times_in (pages_at index d) (numbers l k) =
      subst (λ n. 1 ≤ times_in (pages_at index d) n) number
      (subst (λ pages. 1 ≤ times_in pages (get_or (numbers_at levels numbers l) k 0)) (sym pages)
      (comes_at (numbers_at levels numbers l) k 0 (omega arith))) in
      let all = reached_has index (numbers l k) d l in
      let sum : d + l ≡ root_level index = omega arith in
      let reached_all : times_in (reached index (d + l)) (numbers l k) ≡ times_in (tree_pages index) (numbers l k) =
      ap (λ e. times_in (reached index e) (numbers l k)) sum in
      let same = have index (numbers l k) in
      omega arith

-- lists of numbers, one for each index

module _ (lists : ℕ → List ℕ) (n limit : ℕ) (once : (i : ℕ) → i < limit → times_in (lists i) n ≤ 1)
    (apart : (i j : ℕ) → i < j → j < limit → 1 ≤ times_in (lists i) n → times_in (lists j) n ≡ 0) where
  none_behind : (i from count : ℕ) → i < from → from + count ≤ limit → 1 ≤ times_in (lists i) n
      → times_in (flat_map lists (range_with_len from count)) n ≡ 0
  none_behind i from zero before within comes = refl
  none_behind i from (suc count) before within comes =
      let here = apart i from before (omega arith) comes in
      let rest = none_behind i (from + 1) count (omega arith) (omega arith) comes in
      times_append (lists from) (flat_map lists (range_with_len (from + 1) count)) n ∙ omega arith

  pub once_in_all : (from count : ℕ) → from + count ≤ limit
      → times_in (flat_map lists (range_with_len from count)) n ≤ 1
  once_in_all from zero within = omega arith
  once_in_all from (suc count) within =
      let here = once from (omega arith) in
      let both = times_append (lists from) (flat_map lists (range_with_len (from + 1) count)) n in
      elim (cases_lt 0 (times_in (lists from) n)) [
        | inl comes ↦
            let rest = none_behind from (from + 1) count (omega arith) (omega arith) comes in omega arith
        | inr none ↦ let rest = once_in_all (from + 1) count (omega arith) in omega arith
      ]

-- lists that are the same below a limit
pub same_below : (f g : ℕ → List ℕ) (limit : ℕ) → ((i : ℕ) → i < limit → f i ≡ g i) → (from count : ℕ)
    → from + count ≤ limit → flat_map f (range_with_len from count) ≡ flat_map g (range_with_len from count)
same_below f g limit same from zero within = refl
same_below f g limit same from (suc count) within =
    rw (same from (omega arith), same_below f g limit same (from + 1) count (omega arith)) refl

-- the segments of the indexes: two of each, one after another
abbrev pub two_segments : ℕ → List ℕ
two_segments j = (2 * j + 1) ∷ (2 * j) ∷ []

times_two : (s j : ℕ) → times_in (two_segments j) s ≡ cond (2 * j + 1 == s) 1 0 + cond (2 * j == s) 1 0
times_two s j =
    let first = times_cons (2 * j + 1) (2 * j ∷ []) s in
    let second = times_cons (2 * j) [] s in
    omega (arith, first, second)

other_two : (s j : ℕ) → (s ≢ 2 * j) → (s ≢ 2 * j + 1) → times_in (two_segments j) s ≡ 0
other_two s j even odd =
    times_two s j ∙ rw (ne_eqb (2 * j + 1) s (λ e. odd (sym e)), ne_eqb (2 * j) s (λ e. even (sym e))) refl

one_of_two : (s j : ℕ) → (s ≡ 2 * j) ⊎ (s ≡ 2 * j + 1) → times_in (two_segments j) s ≡ 1
one_of_two s j (inl even) =
    times_two s j ∙ rw (ne_eqb (2 * j + 1) s (λ e. omega arith), eq-eqb (2 * j) s (sym even)) refl
one_of_two s j (inr odd) =
    times_two s j ∙ rw (eq-eqb (2 * j + 1) s (sym odd), ne_eqb (2 * j) s (λ e. omega arith)) refl

abbrev pub segments_of : ℕ → ℕ → List ℕ
segments_of from count = flat_map two_segments (range_with_len from count)

no_segment : (s from count : ℕ) → s < 2 * from → times_in (segments_of from count) s ≡ 0
no_segment s from zero before = refl
no_segment s from (suc count) before =
    let here = other_two s from (λ e. omega arith) (λ e. omega arith) in
    let rest = no_segment s (from + 1) count (omega arith) in
    times_append (two_segments from) (segments_of (from + 1) count) s ∙ omega arith

pub segment_once : (s from count : ℕ) → 2 * from ≤ s → s < 2 * (from + count) → times_in (segments_of from count) s ≡ 1
segment_once s from zero least most = absurd (omega arith)
segment_once s from (suc count) least most =
    let both = times_append (two_segments from) (segments_of (from + 1) count) s in
    elim (cases_lt s (2 * (from + 1))) [
      | inl here ↦
          let place : (s ≡ 2 * from) ⊎ (s ≡ 2 * from + 1) =
          elim (cases_lt s (2 * from + 1)) [ inl even ↦ inl (omega arith) | inr odd ↦ inr (omega arith) ] in
          let one = one_of_two s from place in
          let rest = no_segment s (from + 1) count here in
          both ∙ omega arith
      | inr later ↦
          let none = other_two s from (λ e. omega arith) (λ e. omega arith) in
          let rest = segment_once s (from + 1) count later (omega arith) in
          both ∙ omega arith
    ]

module _ (whole : BuiltTreesAreWhole) (have : LevelsHaveThePages) (index : ℕ → Index) (limit : ℕ)
    (numbers : ℕ → ℕ → ℕ → ℕ) (levels : ℕ → List Level) (held : HoldsTrees index limit numbers levels) where
  other_pages : (n i j : ℕ) → i < j → j < limit → 1 ≤ times_in (pages_by_descent (index i)) n
      → times_in (pages_by_descent (index j)) n ≡ 0
  other_pages n i j before inside comes =
      let here = descent_page (index i) (numbers i) (levels i) (held.trees i (omega arith)) have n comes in
      elim (cases_lt 0 (times_in (pages_by_descent (index j)) n)) [
        | inl again ↦
            let there = descent_page (index j) (numbers j) (levels j) (held.trees j inside) have n again in
            absurd (held.apart i j before inside here.l here.k here.inside here.within there.l there.k there.inside
            there.within (sym here.same ∙ there.same))
        | inr none ↦ omega arith
      ]

  segments_are : flat_map (λ j. named_segments (index j)) (range_with_len 0 limit) ≡ segments_of 0 limit
  segments_are =
      same_below (λ j. named_segments (index j)) two_segments limit
      (λ j inside. rw (held.leaf j inside, held.top j inside) refl) 0 limit (omega arith)

  pub trees_held : HasBuiltTrees index limit numbers levels
  trees_held = record {
    trees = λ j inside. whole (index j) (numbers j) (levels j) (held.trees j inside);
    once = λ n. once_in_all (λ j. pages_by_descent (index j)) n limit
        (λ j inside. (whole (index j) (numbers j) (levels j) (held.trees j inside)).whole.once n)
        (other_pages n) 0 limit (omega arith);
    named = λ segment inside.
        ap (λ list. times_in list segment) segments_are ∙ segment_once segment 0 limit (omega arith) (omega arith);
  }

pub apart_law : BuiltTreesAreWhole → LevelsHaveThePages → BuiltTreesAreApart
apart_law whole have index count numbers levels held = trees_held whole have index count numbers levels held
