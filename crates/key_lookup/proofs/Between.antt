-- The keys of the rows below a page lie between its separators.
use Rattle.std.proofs.Common.{◌≡◌, ℕ, zero, suc, ◌-◌, ◌<◌, Bool, true, false, ◌&&◌, cond, Option, None, Some}
use Rattle.std.proofs.Common.{List, [], ◌∷◌, length, get_or, All, flat_map, refl, sym, ◌∙◌, subst}
use Rattle.std.proofs.Common.{inl, inr, arith}
use Rattle.std.specs.List.{AllPairs}
use Rattle.std.proofs.lemmas.Bool.{false≢true, cases_lt, ne_eqb, and_parts}
use Rattle.std.proofs.lemmas.List.{append-nil, length-map, get_or-map}
use Rattle.std.proofs.lemmas.List.Elements.{All-head, All-tail, All-nil, All-cons, All-append}
use Rattle.column_values.specs.declared.field.FieldType.{FieldType}
use Rattle.column_values.specs.Types.{Fields}
use Rattle.column_values.specs.Order.{Key, IsBelow}
use Rattle.column_values.proofs.KeyOrder.{is_transitive, splits}
use Rattle.compact_record.specs.Reading.{key_of, key_kinds}
use Rattle.index_page.specs.Header.{records_of, record_count}
use Rattle.index_page.specs.Page.{KeysRise, is_lowest_first}
use Rattle.index_page.specs.Laws.{KeysRiseThroughout}
use Rattle.tree_walk.specs.Index.{Index, Row, page_in, fields_on, rows_on, child_of, children, key_in}
use Rattle.tree_walk.specs.Place.{is_leaf_level, HasLow, HasLastBelow}
use Rattle.tree_walk.specs.Descent.{rows_below, Bounded, key_after, bounds, kids, IsNode, IsTree}
use Rattle.tree_walk.specs.Laws.{row_key}
use Rattle.tree_walk.proofs.Records.{length-records}

-- a key isn't below a low separator, and is below a high one
abbrev pub IsFrom : List FieldType → Option Key → Key → Type 0
IsFrom kinds None key = Unit {0}
IsFrom kinds (Some low) key = IsBelow kinds key low → ⊥

abbrev pub IsUnder : List FieldType → Option Key → Key → Type 0
IsUnder kinds None key = Unit {0}
IsUnder kinds (Some high) key = IsBelow kinds key high

-- each later key isn't below the low separator either
from_step : (kinds : List FieldType) (low : Option Key) (k l : Key) → IsFrom kinds low k → IsBelow kinds k l
    → IsFrom kinds low l
from_step kinds None k l f b = tt
from_step kinds (Some low) k l f b = λ h. f (is_transitive kinds k l low b h)

-- nor is each key that isn't below such a one
from_from : (kinds : List FieldType) (low : Option Key) (k l : Key) → IsFrom kinds low k → IsFrom kinds (Some k) l
    → IsFrom kinds low l
from_from kinds None k l f g = tt
from_from kinds (Some low) k l f g = λ h. g (splits kinds l low k h f)

-- each earlier key is below the high separator too
under_step : (kinds : List FieldType) (high : Option Key) (k l : Key) → IsBelow kinds k l → IsUnder kinds high l
    → IsUnder kinds high k
under_step kinds None k l b u = tt
under_step kinds (Some high) k l b u = is_transitive kinds k l high b u

-- the key of a row lies between two separators
pub record IsBetween (index : Index) (low high : Option Key) (row : Row) : Type 0 where
  pub from : IsFrom (key_kinds index.leaf) low (row_key index row)
  pub under : IsUnder (key_kinds index.leaf) high (row_key index row)

-- the keys of one page, by the numbers of its records

last_under : (page : List ℕ) (fields : Fields) (lowest_first : Bool) (high : Option Key)
    → HasLastBelow page fields lowest_first high → ((record_count page ≡ 1) × (lowest_first ≡ true) → ⊥)
    → IsUnder (key_kinds fields) high (key_of page (get_or (records_of page) (record_count page - 1) 0) fields)
last_under page fields lowest_first None h not_lowest = tt
last_under page fields lowest_first (Some high) h not_lowest = h not_lowest

first_from : (page : List ℕ) (fields : Fields) (level : ℕ) (low : Option Key) → HasLow page fields level low
    → IsFrom (key_kinds fields) low (key_of page (get_or (records_of page) 0 0) fields)
first_from page fields level None h = tt
first_from page fields level (Some low) h = h.0

module _ (law : KeysRiseThroughout) (page : List ℕ) (fields : Fields) (lowest_first : Bool)
    (rise : KeysRise page fields lowest_first (records_of page)) where
  -- the key of record i
  abbrev key_at : ℕ → Key
  key_at i = key_of page (get_or (records_of page) i 0) fields

  pub later : (i j : ℕ) → i < j → j < record_count page → ((i ≡ 0) × (lowest_first ≡ true) → ⊥)
      → IsBelow (key_kinds fields) (key_at i) (key_at j)
  later i j less within not_lowest =
      let n = length-records page in
      elim (law page fields lowest_first (records_of page) i j rise less (omega arith)) [
        | inl z ↦ absurd (not_lowest z)
        | inr b ↦ b
      ]

  pub under_at : (high : Option Key) → HasLastBelow page fields lowest_first high → (i : ℕ) → i < record_count page
      → ((i ≡ 0) × (lowest_first ≡ true) → ⊥) → IsUnder (key_kinds fields) high (key_at i)
  under_at high last i within not_lowest =
      elim (cases_lt i (record_count page - 1)) [
        | inl l ↦ under_step (key_kinds fields) high (key_at i) (key_at (record_count page - 1))
            (later i (record_count page - 1) l (omega arith) not_lowest)
            (last_under page fields lowest_first high last (λ z. let one = z.0 in absurd (omega arith)))
        | inr m ↦
            let e : i ≡ record_count page - 1 = omega arith in
            rw e (last_under page fields lowest_first high last
            (λ z. let one = z.0 in not_lowest (omega arith, z.1)))
      ]

  pub from_at : (level : ℕ) (low : Option Key) → HasLow page fields level low → (lowest_first ≡ true → low ≡ None)
      → (i : ℕ) → i < record_count page → IsFrom (key_kinds fields) low (key_at i)
  from_at level low first fit zero within = first_from page fields level low first
  from_at level low first fit (suc i) within = by_flag lowest_first refl
    where
      by_flag : (flag : Bool) → lowest_first ≡ flag → IsFrom (key_kinds fields) low (key_at (suc i))
      by_flag true e = rw (fit e) tt
      by_flag false e =
          from_step (key_kinds fields) low (key_at 0) (key_at (suc i)) (first_from page fields level low first)
          (later 0 (suc i) (omega arith) within (λ z. false≢true (sym e ∙ z.1)))

-- a leftmost page has no low separator
abbrev pub Fits : Bounded → Type 0
Fits b = b.leftmost ≡ true → b.low ≡ None

-- no leftmost child of a page has a low separator
pub kids_fit : (index : Index) (leftmost : Bool) (ps : List Row) (high : Option Key)
    → All Fits (bounds index leftmost ps high)
kids_fit index leftmost [] high = All-nil Fits
kids_fit index leftmost (p ∷ ps) high =
    All-cons Fits (record {
      page = child_of index p;
      low = cond leftmost None (Some (key_in index p));
      high = key_after index ps high;
      leftmost = leftmost;
    }) (bounds index false ps high) (λ e. rw e refl) (kids_fit index false ps high)

-- the rows below these pages lie between their separators
abbrev pub AreBetween : Index → ℕ → List Bounded → Type 0
AreBetween index level bs =
    All (λ (b : Bounded). All (IsBetween index b.low b.high) (rows_below index level b.page)) bs

-- each member after the first is such
abbrev pub AllBehind : {X : Type 0} → (X → Type 0) → List X → Type 0
AllBehind P [] = Unit {0}
AllBehind P (x ∷ xs) = All P xs

behind : {X : Type 0} (P : X → Type 0) (xs : List X) → ((k : ℕ) (d : X) → suc k < length xs → P (get_or xs (suc k) d))
    → AllBehind P xs
behind P [] h = tt
behind P (x ∷ xs) h = λ k d m. h k d (omega arith)

-- each member after the first stands so to each later one
abbrev pub PairsBehind : {X : Type 0} → (X → X → Type 0) → List X → Type 0
PairsBehind R [] = Unit {0}
PairsBehind R (x ∷ xs) = AllPairs R xs

pairs_behind : {X : Type 0} (R : X → X → Type 0) (xs : List X)
    → ((i j : ℕ) (d : X) → i < j → suc j < length xs → R (get_or xs (suc i) d) (get_or xs (suc j) d))
    → PairsBehind R xs
pairs_behind R [] h = tt
pairs_behind R (x ∷ xs) h = λ i j d l m. h i j d l (omega arith)

-- what the keys of some node pointers say of the separators of their page
pub record Spans (index : Index) (leftmost : Bool) (ps : List Row) (low high : Option Key) : Type 0 where
  pub fit : leftmost ≡ true → low ≡ None
  pub from : All (λ p. IsFrom (key_kinds index.leaf) low (key_in index p)) ps
  pub under : AllBehind (λ p. IsUnder (key_kinds index.leaf) high (key_in index p)) ps

from_first : (kinds : List FieldType) (leftmost : Bool) (low : Option Key) (k l : Key) → (leftmost ≡ true → low ≡ None)
    → IsFrom kinds low k → IsFrom kinds (cond leftmost None (Some k)) l → IsFrom kinds low l
from_first kinds true low k l fit f g = rw (fit refl) tt
from_first kinds false low k l fit f g = from_from kinds low k l f g

-- the rows below all of these pages lie between the separators
pub kids_between : (index : Index) (level : ℕ) (leftmost : Bool) (ps : List Row) (low high : Option Key)
    → Spans index leftmost ps low high → AreBetween index level (bounds index leftmost ps high)
    → All (IsBetween index low high) (flat_map (rows_below index level) (children index ps))
kids_between index level leftmost [] low high s a = All-nil (IsBetween index low high)
kids_between index level leftmost (p ∷ []) low high s a =
    let kinds = key_kinds index.leaf in
    let b : Bounded = record {
      page = child_of index p;
      low = cond leftmost None (Some (key_in index p));
      high = high;
      leftmost = leftmost;
    } in
    let here = All-head (λ (b : Bounded). All (IsBetween index b.low b.high) (rows_below index level b.page)) b [] a in
    let f = All-head (λ p. IsFrom kinds low (key_in index p)) p [] s.from in
    rw append-nil (λ k d h. record {
      from = from_first kinds leftmost low (key_in index p) _ s.fit f (here k d h).from;
      under = (here k d h).under;
    })
kids_between index level leftmost (p ∷ q ∷ qs) low high s a =
    let kinds = key_kinds index.leaf in
    let b : Bounded = record {
      page = child_of index p;
      low = cond leftmost None (Some (key_in index p));
      high = Some (key_in index q);
      leftmost = leftmost;
    } in
    let rest = bounds index false (q ∷ qs) high in
    let here = All-head (λ (b : Bounded). All (IsBetween index b.low b.high)
    (rows_below index level b.page)) b rest a in
    let behind = All-tail (λ (b : Bounded). All (IsBetween index b.low b.high) (rows_below index level b.page)) b rest a
    in
    let f = All-head (λ p. IsFrom kinds low (key_in index p)) p (q ∷ qs) s.from in
    let u = All-head (λ p. IsUnder kinds high (key_in index p)) q qs s.under in
    let more : Spans index false (q ∷ qs) low high = record {
      fit = λ e. absurd (false≢true e);
      from = All-tail (λ p. IsFrom kinds low (key_in index p)) p (q ∷ qs) s.from;
      under = All-tail (λ p. IsUnder kinds high (key_in index p)) q qs s.under;
    } in
    All-append (IsBetween index low high) (rows_below index level (child_of index p))
    (flat_map (rows_below index level) (children index (q ∷ qs)))
    (λ k d h. record {
      from = from_first kinds leftmost low (key_in index p) _ s.fit f (here k d h).from;
      under = under_step kinds high _ (key_in index q) (here k d h).under u;
    })
    (kids_between index level false (q ∷ qs) low high more behind)

-- the records of a page, by number
rows_all : (index : Index) (n : ℕ) (P : Row → Type 0)
    → ((i : ℕ) → i < record_count (page_in index n)
    → P (record { page = n; origin = get_or (records_of (page_in index n)) i 0 })) → All P (rows_on index n)
rows_all index n P h k d m =
    let e = length-records (page_in index n) in
    let l : length (rows_on index n) ≡ length (records_of (page_in index n)) =
    length-map (records_of (page_in index n)) (λ origin. record { page = n; origin = origin }) in
    rw (get_or-map (λ origin. record { page = n; origin = origin }) (records_of (page_in index n)) k 0 d (omega arith))
    (h k (omega arith))

-- the lists of one index have keys of the same kinds
abbrev pub HasOneKind : Index → Type 0
HasOneKind index = key_kinds index.node ≡ key_kinds index.leaf

module _ (law : KeysRiseThroughout) (index : Index) (one : HasOneKind index) where
  node_fields : (l : ℕ) → fields_on index (suc l) ≡ index.node
  node_fields l = rw (ne_eqb (suc l) 0 (λ e. omega arith)) refl

  -- the keys of the node pointers of a page
  pub spans : (l : ℕ) (root : Bool) (b : Bounded) → IsNode index (suc l) root b → Fits b
      → Spans index b.leftmost (rows_on index b.page) b.low b.high
  unfolding key_in
  spans l root b node fit =
      let page = page_in index b.page in
      let lowest : Bool = is_lowest_first (is_leaf_level (suc l)) b.leftmost in
      let rise : KeysRise page index.node lowest (records_of page) =
      subst (λ f. KeysRise page f lowest (records_of page)) (node_fields l) node.page.rise in
      let first : HasLow page index.node (suc l) b.low =
      subst (λ f. HasLow page f (suc l) b.low) (node_fields l) node.keys.low in
      let last : HasLastBelow page index.node lowest b.high =
      subst (λ f. HasLastBelow page f lowest b.high) (node_fields l) node.keys.high in
      let count = length-records page in
      let same : length (rows_on index b.page) ≡ length (records_of page) =
      length-map (records_of page) (λ origin. record { page = b.page; origin = origin }) in
      record {
        fit = fit;
        from = rows_all index b.page (λ p. IsFrom (key_kinds index.leaf) b.low (key_in index p))
            (λ i m. rw (← one) (from_at law page index.node lowest rise (suc l) b.low first
            (λ e. fit (and_parts b.leftmost _ e).0) i m));
        under = behind (λ p. IsUnder (key_kinds index.leaf) b.high (key_in index p)) (rows_on index b.page)
            (λ k d m. rw (
              ← one,
              get_or-map (λ origin. record { page = b.page; origin = origin }) (records_of page)
                  (suc k) 0 d (omega arith),
            ) (under_at law page index.node lowest rise b.high last (suc k) (omega arith)
            (λ z. let no = z.0 in absurd (omega arith))));
      }

  -- they rise behind the first
  pub rises : (l : ℕ) (root : Bool) (b : Bounded) → IsNode index (suc l) root b
      → PairsBehind (λ p q. IsBelow (key_kinds index.leaf) (key_in index p) (key_in index q)) (rows_on index b.page)
  unfolding key_in
  rises l root b node =
      let page = page_in index b.page in
      let lowest : Bool = is_lowest_first (is_leaf_level (suc l)) b.leftmost in
      let rise : KeysRise page index.node lowest (records_of page) =
      subst (λ f. KeysRise page f lowest (records_of page)) (node_fields l) node.page.rise in
      let count = length-records page in
      let row : ℕ → Row = λ origin. record { page = b.page; origin = origin } in
      let same : length (rows_on index b.page) ≡ length (records_of page) = length-map (records_of page) row in
      pairs_behind (λ p q. IsBelow (key_kinds index.leaf) (key_in index p) (key_in index q)) (rows_on index b.page)
      (λ i j d less m. rw (
        ← one,
        get_or-map row (records_of page) (suc i) 0 d (omega arith),
        get_or-map row (records_of page) (suc j) 0 d (omega arith),
      ) (later law page index.node lowest rise (suc i) (suc j) (omega arith) (omega arith)
      (λ z. let no = z.0 in absurd (omega arith))))

  -- the keys of a leaf rise
  pub leaf_rises : (root : Bool) (b : Bounded) → IsNode index 0 root b
      → AllPairs (λ p q. IsBelow (key_kinds index.leaf) (row_key index p) (row_key index q)) (rows_on index b.page)
  unfolding row_key
  leaf_rises root b node i j d less m =
      let page = page_in index b.page in
      let lowest : Bool = b.leftmost && false in
      let rise : KeysRise page index.leaf lowest (records_of page) = node.page.rise in
      let count = length-records page in
      let row : ℕ → Row = λ origin. record { page = b.page; origin = origin } in
      let same : length (rows_on index b.page) ≡ length (records_of page) = length-map (records_of page) row in
      rw (get_or-map row (records_of page) i 0 d (omega arith), get_or-map row (records_of page) j 0 d (omega arith))
      (later law page index.leaf lowest rise i j less (omega arith)
      (λ z. false≢true (and_parts b.leftmost false z.1).1))

  -- the rows of a leaf lie between its separators
  leaf_between : (root : Bool) (b : Bounded) → IsNode index 0 root b
      → All (IsBetween index b.low b.high) (rows_on index b.page)
  unfolding row_key
  leaf_between root b node =
      let page = page_in index b.page in
      let lowest : Bool = b.leftmost && false in
      let rise : KeysRise page index.leaf lowest (records_of page) = node.page.rise in
      rows_all index b.page (IsBetween index b.low b.high)
      (λ i m. record {
        from = from_at law page index.leaf lowest rise 0 b.low node.keys.low
            (λ e. absurd (false≢true (and_parts b.leftmost false e).1)) i m;
        under = under_at law page index.leaf lowest rise b.high node.keys.high i m
            (λ z. false≢true (and_parts b.leftmost false z.1).1);
      })

  -- the rows below each page lie between its separators
  pub between : (level : ℕ) (root : Bool) (b : Bounded) → IsTree index level root b → Fits b
      → All (IsBetween index b.low b.high) (rows_below index level b.page)
  unfolding rows_below
  between zero root b tree fit = leaf_between root b tree
  between (suc l) root b tree fit =
      kids_between index l b.leftmost (rows_on index b.page) b.low b.high (spans l root b tree.0 fit)
      (λ k d m. between l false (get_or (kids index b) k d) (tree.1 k d m)
      (kids_fit index b.leftmost (rows_on index b.page) b.high k d m))
