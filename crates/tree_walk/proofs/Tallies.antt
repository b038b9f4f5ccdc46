-- how many records are live, and how many are deleted
use Rattle.std.proofs.Common.{◌≡◌, ℕ, ◌+◌, ◌<◌, ◌≤◌, ◌&&◌, Bool, true, false, not, cond, List, [], ◌∷◌, ◌++◌, get_or}
use Rattle.std.proofs.Common.{take}
use Rattle.std.proofs.Common.{count_by, All, refl, sym, ◌∙◌, ap, subst, arith}
use Rattle.std.proofs.lemmas.List.{take_more, append-nil}
use Rattle.std.proofs.lemmas.List.Sums.{sum_by_more, sum_by-append, sum_by-cons}
use Rattle.std.proofs.lemmas.List.Concat.{flat_map-append}
use Rattle.std.proofs.lemmas.List.Elements.{All-nil, All-cons, All-append, All-map}
use Rattle.std.proofs.lemmas.Bool.{true≢false, eq-eqb}
use Rattle.tree_walk.specs.Index.{Index, Row, page_in, rows_at, rows_on, rows_of, is_deleted_row, is_live_row}
use Rattle.column_values.specs.Types.{Fields}
use Rattle.compact_record.specs.Header.{next_origin, is_deleted, is_minimum}
use Rattle.compact_record.specs.Whole.{LiesWhole}
use Rattle.index_page.specs.Header.{records_of, record_count}
use Rattle.index_page.specs.Page.{HasMinimumMark, is_lowest_first}
use Rattle.tree_walk.specs.Records.{PageFacts, HasPassed}
use Rattle.tree_walk.specs.declared.place.tally.Tally.{Tally}
use Rattle.tree_walk.specs.Place.{is_leaf_level}
use Rattle.tree_walk.specs.Walk.{IsTally, IsTallyOf, AreUnmarked, RowLiesWhole}
use Rattle.tree_walk.proofs.Records.{passed_more, passed_behind, record_at, length-records}

-- the first k records were counted
pub record HasCounted (page : List ℕ) (fields : Fields) (k at live deleted : ℕ) (whole : Bool) : Type 0 where
  pub passed : HasPassed page k at
  pub live_is : live ≡ count_by (λ o. not (is_deleted page o)) (take k (records_of page))
  pub deleted_is : deleted ≡ count_by (is_deleted page) (take k (records_of page))
  pub whole_is : whole ≡ true → All (LiesWhole page fields) (take k (records_of page))
  pub most : live + deleted ≡ k

pub counted_none : (page : List ℕ) (fields : Fields) (whole : Bool) → HasCounted page fields 0 99 0 0 whole
counted_none page fields whole = record {
  passed = refl;
  live_is = refl;
  deleted_is = refl;
  whole_is = λ w. All-nil (LiesWhole page fields);
  most = refl;
}

live_one : (b : Bool) → ◌≡◌ {A = ℕ} (cond (not b) 1 0) (cond b 0 1)
live_one true = refl
live_one false = refl

both_one : (b : Bool) → ◌≡◌ {A = ℕ} (cond b 0 1 + cond b 1 0) 1
both_one true = refl
both_one false = refl

module _ (page : List ℕ) (fields : Fields) (f : PageFacts page fields) (k at live deleted : ℕ) (whole : Bool)
    (h : k < record_count page) (c : HasCounted page fields k at live deleted whole) where
  next_is : next_origin page at ≡ get_or (records_of page) k 0
  next_is = passed_more page k at h c.passed

  pub next_heap : (next : ℕ) → next ≡ next_origin page at → (125 ≤ next) × (next ≤ 16384)
  next_heap next e =
      let r = record_at page fields k f h in
      let l = r.least in
      let m = r.most in
      rw (e, next_is) (l, m)

  pub counted_more : (next live' deleted' : ℕ) (whole' : Bool) → next ≡ next_origin page at
      → live' ≡ live + cond (is_deleted page next) 0 1 → deleted' ≡ deleted + cond (is_deleted page next) 1 0
      → (whole' ≡ true → (whole ≡ true) × LiesWhole page fields next)
      → HasCounted page fields (k + 1) next live' deleted' whole'
  counted_more next live' deleted' whole' e l m v =
      let b : Bool = is_deleted page next in
      let n = length-records page in
      let q : next ≡ get_or (records_of page) k 0 = e ∙ next_is in
      let one = sum_by_more (λ o. cond (is_deleted page o) 1 0) (records_of page) k 0 (omega arith) in
      let two = sum_by_more (λ o. cond (not (is_deleted page o)) 1 0) (records_of page) k 0 (omega arith) in
      let db : b ≡ is_deleted page (get_or (records_of page) k 0) = ap (is_deleted page) q in
      let t = both_one b in
      let s = c.most in
      record {
        passed = passed_behind page k next q;
        live_is = rw (l, c.live_is, two, ← db, live_one) refl;
        deleted_is = rw (m, c.deleted_is, one, ← db) refl;
        whole_is = λ w.
            let both = v w in
            subst (All (LiesWhole page fields)) (sym (take_more (records_of page) k 0 (omega arith)))
            (All-append (LiesWhole page fields) (take k (records_of page)) (get_or (records_of page) k 0 ∷ [])
            (c.whole_is both.0)
            (All-cons (LiesWhole page fields) (get_or (records_of page) k 0) []
            (subst (LiesWhole page fields) q both.1) (All-nil (LiesWhole page fields))));
        most = omega arith;
      }

  -- the records so far have no minimum mark, nor has the next one
  pub marked_more : (next : ℕ) (unmarked unmarked' : Bool) → next ≡ next_origin page at
      → (unmarked ≡ true → AreUnmarked page (take k (records_of page)))
      → (unmarked' ≡ true → (unmarked ≡ true) × (is_minimum page next ≡ false))
      → unmarked' ≡ true → AreUnmarked page (take (k + 1) (records_of page))
  marked_more next unmarked unmarked' e before here t =
      let n = length-records page in
      let both = here t in
      let P : ℕ → Type 0 = λ o. is_minimum page o ≡ false in
      let q : next ≡ get_or (records_of page) k 0 = e ∙ next_is in
      subst (All P) (sym (take_more (records_of page) k 0 (omega arith)))
      (All-append P (take k (records_of page)) (get_or (records_of page) k 0 ∷ []) (before both.0)
      (All-cons P (get_or (records_of page) k 0) [] (subst P q both.1) (All-nil P)))

pub none_marked : (page : List ℕ) → AreUnmarked page (take 0 (records_of page))
none_marked page = All-nil (λ o. is_minimum page o ≡ false)

not_on_leaf : (leftmost : Bool) → ¬ (is_lowest_first true leftmost ≡ true)
not_on_leaf true e = true≢false (sym e)
not_on_leaf false e = true≢false (sym e)

-- so a leaf has the mark nowhere, as it must
pub leaf_unmarked : (page : List ℕ) (level : ℕ) (leftmost : Bool) → level ≡ 0 → AreUnmarked page (records_of page)
    → HasMinimumMark page (is_leaf_level level) leftmost (records_of page)
leaf_unmarked page level leftmost leaf none k h =
    let e : is_leaf_level level ≡ true = eq-eqb level 0 leaf in
    rw e (
      λ t. absurd (true≢false (sym t ∙ none k 0 h)),
      λ first. absurd (not_on_leaf leftmost first.1),
    )

-- over all leaves

count-rows : (p : Row → Bool) (n : ℕ) (os : List ℕ) → count_by p (rows_at n os) ≡ count_by
    (λ o. p (record { page = n; origin = o })) os
count-rows p n [] = refl
count-rows p n (o ∷ os) =
    sum_by-cons (λ x. cond (p x) 1 0) (record { page = n; origin = o }) (rows_at n os)
    ∙ ap (λ k. cond (p (record { page = n; origin = o })) 1 0 + k) (count-rows p n os)
    ∙ sym (sum_by-cons (λ o. cond (p (record { page = n; origin = o })) 1 0) o os)

rows_more : (index : Index) (xs : List ℕ) (n : ℕ) → rows_of index (xs ++ n ∷ []) ≡ rows_of index xs ++ rows_on index n
rows_more index xs n = flat_map-append (rows_on index) xs (n ∷ []) ∙ ap (λ ys. rows_of index xs ++ ys)
    (append-nil (rows_on index n))

count-more : (p : Row → Bool) (index : Index) (xs : List ℕ) (n : ℕ)
    → count_by p (rows_of index (xs ++ n ∷ [])) ≡ count_by p (rows_of index xs) + count_by
    (λ o. p (record { page = n; origin = o })) (records_of (page_in index n))
count-more p index xs n =
    ap (count_by p) (rows_more index xs n)
    ∙ sum_by-append (λ x. cond (p x) 1 0) (rows_of index xs) (rows_on index n)
    ∙ ap (λ k. count_by p (rows_of index xs) + k) (count-rows p n (records_of (page_in index n)))

pub tally_none : (index : Index) → IsTallyOf index [] (record { live = 0; deleted = 0; whole = true })
tally_none index = record { live = refl; deleted = refl; whole = λ w. All-nil (RowLiesWhole index) }

both_whole : (a b : Bool) → (a && b) ≡ true → (a ≡ true) × (b ≡ true)
both_whole true b e = (refl, e)
both_whole false b e = absurd (true≢false (sym e))

-- the rows of one more leaf
whole_more : (index : Index) (xs : List ℕ) (n : ℕ) → All (RowLiesWhole index) (rows_of index xs)
    → All (LiesWhole (page_in index n) index.leaf) (records_of (page_in index n))
    → All (RowLiesWhole index) (rows_of index (xs ++ n ∷ []))
whole_more index xs n before here =
    subst (All (RowLiesWhole index)) (sym (rows_more index xs n))
    (All-append (RowLiesWhole index) (rows_of index xs) (rows_on index n) before
    (All-map (RowLiesWhole index) _ (records_of (page_in index n)) here))

pub tally_more : (index : Index) (xs : List ℕ) (n : ℕ) (tally one both : Tally) → IsTallyOf index xs tally → IsTally
    (page_in index n) index.leaf one
    → both.live ≡ tally.live + one.live → both.deleted ≡ tally.deleted + one.deleted
    → both.whole ≡ (tally.whole && one.whole) → IsTallyOf index (xs ++ n ∷ []) both
unfolding is_deleted_row
tally_more index xs n tally one both t o l d w = record {
  live = rw (l, t.live, o.live) (sym (count-more (is_live_row index) index xs n));
  deleted = rw (d, t.deleted, o.deleted) (sym (count-more (is_deleted_row index) index xs n));
  whole = λ e.
      let both = both_whole tally.whole one.whole (sym w ∙ e) in
      whole_more index xs n (t.whole both.0) (o.whole both.1);
}

-- of the root alone
pub tally_root : (index : Index) (tally : Tally) → IsTally (page_in index index.root) index.leaf tally
    → IsTallyOf index (index.root ∷ []) tally
tally_root index tally t =
    tally_more index [] index.root (record { live = 0; deleted = 0; whole = true }) tally tally (tally_none index) t
    (omega arith) (omega arith) refl
