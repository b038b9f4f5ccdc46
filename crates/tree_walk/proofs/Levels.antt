-- facts on the levels of a tree
use Rattle.std.proofs.Common.{◌≡◌, ◌==◌, ◌-◌, ℕ, suc, zero, ◌+◌, ◌<◌, ◌≤◌, List, [], ◌∷◌, ◌++◌, length, get_or, take}
use Rattle.std.proofs.Common.{cond, Bool, true, false, refl, ◌∙◌, ap, arith, add-one, Option, None, Some}
use Rattle.std.specs.List.{All}
use Rattle.std.proofs.lemmas.Bool.{ne_eqb}
use Rattle.std.proofs.lemmas.List.{take_more, take_all, length-map, get_or-map, length-append}
use Rattle.std.proofs.lemmas.List.Elements.{All-head, All-nil, All-cons, All-from_get_or}
use Rattle.page_source.specs.Pages.{page_count, fil_null}
use Rattle.page_source.specs.Checks.{HaltsAt}
use Rattle.page_source.specs.declared.rule.Fault.{Fault}
use Rattle.page_source.specs.declared.checks.Halt.{Halt}
use Rattle.page_source.specs.declared.checks.Halt.TheVariants.{Broken, Source}
use Rattle.space_header.specs.Header.{size_of}
use Rattle.extent_map.specs.Head.{IsSize}
use Rattle.index_page.specs.Header.{record_count}
use Rattle.tree_walk.specs.Index.{Index, Row, page_in, fields_on, root_level, rows_of, children, child_of, places}
use Rattle.tree_walk.specs.Index.{pages_at, reached, row_at, no_row}
use Rattle.space_audit.specs.Marks.{is_in, is_set, seen, Marked}
use Rattle.tree_walk.specs.Walk.{GrowsBy}
use Rattle.tree_walk.specs.Records.{PageFacts}
use Rattle.tree_walk.specs.Place.{is_leaf_level}
use Rattle.tree_walk.specs.Facts.{LevelFacts}
use Rattle.tree_walk.specs.TreeChecks.{DepthCheck, LevelCheck, PlaceCheck, PlaceWith, RootCheck}
use Rattle.tree_walk.proofs.Records.{page_facts, some_record, root_some, length-records}

pub pages_at_more : (index : Index) (depth : ℕ) → pages_at index (depth + 1) ≡ children index (places index depth)
unfolding pages_at
pages_at_more index depth = rw add-one refl

pub reached_more : (index : Index) (depth : ℕ) → reached index (depth + 1) ≡ reached index depth ++ children index
    (places index depth)
unfolding reached pages_at
reached_more index depth = rw add-one refl

pub pages_at_root : (index : Index) → pages_at index 0 ≡ index.root ∷ []
unfolding pages_at
pages_at_root index = refl

pub reached_root : (index : Index) → reached index 0 ≡ index.root ∷ []
unfolding reached
reached_root index = refl

-- marks

pub is_in-append : (xs ys : List ℕ) (n : ℕ) → is_in (xs ++ ys) n ≡ cond (is_in xs n) true (is_in ys n)
is_in-append [] ys n = refl
is_in-append (x ∷ xs) ys n =
    elim (x == n) as (λ b. cond b true (is_in (xs ++ ys) n) ≡ cond (cond b true (is_in xs n)) true (is_in ys n))
    [ true ↦ refl | false ↦ is_in-append xs ys n ]

-- what was seen of a list and then of more
pub seen_join : (taken : ℕ → Bool) (marks : List Bool) (xs ys : List ℕ) (n : ℕ) → Marked taken marks xs → seen
    (is_set marks) ys n ≡ seen taken (xs ++ ys) n
seen_join taken marks xs ys n m =
    rw (m n, is_in-append)
    (elim (taken n) as (λ b. cond (cond b true (is_in xs n)) true (is_in ys n) ≡ cond b true
    (cond (is_in xs n) true (is_in ys n)))
    [ true ↦ refl | false ↦ refl ])

pub marked_join : (taken : ℕ → Bool) (marks after' : List Bool) (xs ys : List ℕ) → Marked taken marks xs → Marked
    (is_set marks) after' ys → Marked taken after' (xs ++ ys)
marked_join taken marks after' xs ys m k n = k n ∙ seen_join taken marks xs ys n m

-- the children of the first places

pub children_more : (index : Index) (ps : List Row) (j : ℕ) → j < length ps → take (j + 1) (children index ps) ≡
    take j (children index ps) ++ child_of index (row_at ps j) ∷ []
unfolding row_at
children_more index ps j h =
    let n : j < length (children index ps) = rw length-map h in
    take_more (children index ps) j 0 n ∙ ap (λ x. take j (children index ps) ++ x ∷ [])
    (get_or-map (child_of index) ps j no_row 0 h)

pub children_all : (index : Index) (ps : List Row) (j : ℕ) → length ps ≤ j → take j (children index ps) ≡ children
    index ps
children_all index ps j h = take_all j (children index ps) (rw length-map h)

-- one more place is marked
pub marks_step : (index : Index) (taken : ℕ → Bool) (marks marks' : List Bool) (ps : List Row) (j : ℕ) → j < length
    ps → GrowsBy marks marks' (child_of index (row_at ps j))
    → Marked taken marks (take j (children index ps)) → Marked taken marks' (take (j + 1) (children index ps))
marks_step index taken marks marks' ps j h g m = rw (children_more index ps j h)
    (g taken (take j (children index ps)) m)

-- a check by the marks at hand is one by those at the start of the level
pub check_at : (index : Index) (level : ℕ) (taken : ℕ → Bool) (marks : List Bool) (ps : List Row) (j : ℕ)
    (verdict : Option Fault) → Marked taken marks (take j (children index ps))
    → PlaceWith index level (get_or marks (child_of index (row_at ps j)) false) ps j verdict → PlaceCheck index
    level taken [] ps j verdict
check_at index level taken marks ps j verdict m x = rw (m (child_of index (row_at ps j))) at x

pub level_halts : (index : Index) (level : ℕ) (taken : ℕ → Bool) (marks : List Bool) (ps : List Row) (j : ℕ)
    (halt : Halt)
    → j < length ps → Marked taken marks (take j (children index ps)) →
    ((k : ℕ) → k < j → PlaceCheck index level taken [] ps k None)
    → HaltsAt halt (PlaceWith index level (get_or marks (child_of index (row_at ps j)) false) ps j) → HaltsAt halt
    (LevelCheck index level taken [] ps)
level_halts index level taken marks ps j (Broken fault) h m held x =
    (j, h, held, check_at index level taken marks ps j (Some fault) m x)
level_halts index level taken marks ps j Source h m held x = tt

-- a level checked by the marks at its start is checked by what was taken at the tree's start
place_from : (index : Index) (level : ℕ) (taken : ℕ → Bool) (marks : List Bool) (list : List ℕ) (ps : List Row)
    (j : ℕ) (verdict : Option Fault)
    → Marked taken marks list → PlaceCheck index level (is_set marks) [] ps j verdict → PlaceCheck index level taken
    list ps j verdict
place_from index level taken marks list ps j verdict m x =
    rw (seen_join taken marks list (take j (children index ps)) (child_of index (row_at ps j)) m) at x

pub level_from : (index : Index) (level : ℕ) (taken : ℕ → Bool) (marks : List Bool) (list : List ℕ) (ps : List Row)
    (verdict : Option Fault)
    → Marked taken marks list → LevelCheck index level (is_set marks) [] ps verdict → LevelCheck index level taken
    list ps verdict
level_from index level taken marks list ps None m x = λ k h. place_from index level taken marks list ps k None m (x k h)
level_from index level taken marks list ps (Some fault) m (k, h, held, x) = (
  k,
  h,
  (λ j l. place_from index level taken marks list ps j None m (held j l)),
  place_from index level taken
      marks list ps k (Some fault) m x,
)

-- what holds of the page of each place holds of each page one depth lower
pub children_hold : (P : ℕ → Type 0) (index : Index) (ps : List Row) →
    ((j : ℕ) → j < length ps → P (child_of index (row_at ps j))) → All P (children index ps)
unfolding row_at
children_hold P index ps h =
    All-from_get_or P (children index ps) 0
    (λ j l. let m : j < length ps = rw (← length-map ps (child_of index)) l in
    rw (get_or-map (child_of index) ps j no_row 0 m) (h j m))

-- a level whose pages have records has a level below
some_below : (index : Index) (pages : List ℕ) → 0 < length pages → All (λ n. 0 < record_count (page_in index n))
    pages → 0 < length (rows_of index pages)
some_below index [] s a = absurd (omega arith)
some_below index (x ∷ xs) s a =
    let h : 0 < record_count (page_in index x) = All-head (λ n. 0 < record_count (page_in index n)) x xs a in
    let e = length-records (page_in index x) in
    simp (length-append, length-map) (omega arith)

pub some_places : (index : Index) (depth : ℕ) → 0 < length (pages_at index depth) → All
    (λ n. 0 < record_count (page_in index n)) (pages_at index depth) → 0 < length (places index depth)
some_places index depth s f = some_below index (pages_at index depth) s f

All-one : (P : ℕ → Type 0) (x : ℕ) → P x → All P (x ∷ [])
All-one P x p = All-cons P x [] p (All-nil P)

-- a page of an upper level that isn't a root of level 0 has a record
module _ (index : Index) (taken named : ℕ → Bool) (size : IsSize (size_of index.file) (page_count index.file)) where
  root_filled : RootCheck index taken named None → 0 < root_level index → 0 < record_count (page_in index index.root)
  root_filled c h =
      let n = length-records (page_in index index.root) in
      root_some (page_in index index.root) (fields_on index (root_level index)) (root_level index) h c.1.1.1.1.1.0

  facts_root : RootCheck index taken named None → LevelFacts index (fields_on index (root_level index)) 0
  unfolding pages_at
  facts_root c = record {
    some = omega arith;
    within = All-one (λ n. n < page_count index.file) index.root
        (let b = c.0.page.1.below in let s = size.within in omega arith);
    small = All-one (λ n. n < fil_null) index.root (let b = c.0.page.1.below in let s = size.most in omega arith);
    sound = All-one (λ n. PageFacts (page_in index n) (fields_on index (root_level index))) index.root
        (page_facts (page_in index index.root) (fields_on index (root_level index))
        (is_leaf_level (root_level index)) true true c.1.1.1.1.1.0);
    filled = λ l. All-one (λ n. 0 < record_count (page_in index n)) index.root (root_filled c l);
    linked = λ i h. let e : i ≡ 0 = omega arith in rw e c.1.1.1.0.1;
  }

  facts_below : (depth : ℕ) (list : List ℕ) → depth < root_level index → LevelFacts index
      (fields_on index (root_level index - depth)) depth
      → LevelCheck index (root_level index - suc depth) taken list (places index depth) None → LevelFacts index
      (fields_on index (root_level index - suc depth)) (suc depth)
  unfolding pages_at row_at
  facts_below depth list l facts c = record {
    some = rw length-map (some_places index depth facts.some (facts.filled (omega arith)));
    within = children_hold (λ n. n < page_count index.file) index (places index depth)
        (λ j h. let b = (c j h).0.page.below in let s = size.within in omega arith);
    small = children_hold (λ n. n < fil_null) index (places index depth)
        (λ j h. let b = (c j h).0.page.below in let s = size.most in omega arith);
    sound = children_hold (λ n. PageFacts (page_in index n) (fields_on index (root_level index - suc depth))) index
        (places index depth)
        (λ j h. page_facts _ (fields_on index (root_level index - suc depth))
        (is_leaf_level (root_level index - suc depth)) false (j == 0) (c j h).1.1.1.1.0);
    filled = λ m. children_hold (λ n. 0 < record_count (page_in index n)) index (places index depth)
        (λ j h. some_record _ (fields_on index (root_level index - suc depth))
        (is_leaf_level (root_level index - suc depth)) false (j == 0) (c j h).1.1.1.1.0 refl);
    linked = λ i h.
        let m : i < length (places index depth) = rw (← length-map (places index depth) (child_of index)) h in
        rw (get_or-map (child_of index) (places index depth) i no_row 0 m) (c i m).1.1.0.1;
  }

  pub level_facts : (depth : ℕ) → depth ≤ root_level index → RootCheck index taken named None
      → ((d : ℕ) → d < depth → DepthCheck index taken d None) → LevelFacts index
      (fields_on index (root_level index - depth)) depth
  level_facts zero l r held = let e : root_level index - 0 ≡ root_level index = omega arith in rw e (facts_root r)
  level_facts (suc depth) l r held =
      facts_below depth (reached index depth) (omega arith) (level_facts depth (omega arith) r
      (λ d h. held d (omega arith))) (held depth (omega arith))

-- the parents of a level have node pointers
pub fields_above : (index : Index) (depth : ℕ) → depth < root_level index → fields_on index
    (root_level index - depth) ≡ index.node
fields_above index depth h = rw (ne_eqb (root_level index - depth) 0 (λ e. omega arith)) refl
