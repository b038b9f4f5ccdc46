-- where the checks of a tree hold it is a tree by descent
use Rattle.std.proofs.Common.{◌≡◌, ◌==◌, ◌-◌, ℕ, suc, zero, ◌+◌, ◌<◌, List, [], ◌∷◌, ◌++◌, length, get_or, map, take}
use Rattle.std.proofs.Common.{◌↔◌, Bool, true, false, Option, None, Some, cond, arith, refl, sym, ap, ◌∙◌, add-one}
use Rattle.std.proofs.Common.{subst}
use Rattle.std.specs.List.{All}
use Rattle.std.proofs.lemmas.Bool.{ne_eqb}
use Rattle.std.proofs.Math.Seq.{take-append_seam}
use Rattle.std.proofs.lemmas.List.{append-nil, length-map, length-take-le}
use Rattle.std.proofs.lemmas.List.Elements.{All-head, All-tail, All-nil, All-cons}
use Rattle.column_values.specs.Order.{Key, IsBelow, AreEqualKeys}
use Rattle.column_values.specs.Types.{Fields, AreOfOneIndex, child_field}
use Rattle.compact_record.specs.Reading.{key_of}
use Rattle.index_page.specs.Header.{records_of}
use Rattle.compact_record.specs.Reading.{key_kinds}
use Rattle.tree_walk.specs.Index.{Index, Row, page_in, fields_on, root_level, rows_at, rows_on, rows_of, children}
use Rattle.tree_walk.specs.Index.{child_of, key_in, row_at, no_row, places, pages_at}
use Rattle.tree_walk.specs.Place.{HasLow}
use Rattle.tree_walk.specs.TreeChecks.{TreeChecks, low_of, high_of}
use Rattle.column_values.specs.declared.field.Field.{Field}
use Rattle.column_values.proofs.KeyOrder.{agrees}
use Rattle.index_page.specs.Page.{IsIndexPage}
use Rattle.index_page.specs.PageChecks.{PageChecks}
use Rattle.index_page.specs.Laws.{ChecksAreIndexPage, HasOneChain}
use Rattle.tree_walk.specs.Place.{NodeAt}
use Rattle.tree_walk.specs.Descent.{Bounded, bounded_root, key_after, bounds, kids, spot_on, IsNode, IsTree}
use Rattle.tree_walk.specs.Laws.{ChecksGiveTree}
use Rattle.tree_walk.proofs.Records.{some_record, length-records, all_left}

-- the checks of a node, and of the tree under it
abbrev pub IsCheckedNode : Index → ℕ → Bool → Bounded → Type 0
IsCheckedNode index level root b = NodeAt (page_in index b.page) (fields_on index level) (spot_on level root b) None

abbrev pub IsCheckedTree : Index → ℕ → Bool → Bounded → Type 0
IsCheckedTree index zero root b = IsCheckedNode index zero root b
IsCheckedTree index (suc level) root b = IsCheckedNode index (suc level) root b × All
    (IsCheckedTree index level false) (kids index b)

-- a key below a separator is below each equal one
abbrev pub Agrees : Index → Type 0
Agrees index =
    (level : ℕ) (a s t : Key) → AreEqualKeys (key_kinds index.node) s t → IsBelow
    (key_kinds (fields_on index level)) a s
    → IsBelow (key_kinds (fields_on index level)) a t

all_right : {X : Type 0} (P : X → Type 0) (xs ys : List X) → All P (xs ++ ys) → All P ys
all_right P [] ys a = a
all_right P (x ∷ xs) ys a = all_right P xs ys (All-tail P x (xs ++ ys) a)

pub bounds-append : (index : Index) (leftmost : Bool) (xs ys : List Row) (high : Option Key) → 0 < length xs
    → bounds index leftmost (xs ++ ys) high ≡ bounds index leftmost xs (key_after index ys high) ++ bounds index
    false ys high
bounds-append index leftmost [] ys high h = absurd (omega arith)
bounds-append index leftmost (x ∷ []) ys high h = refl
bounds-append index leftmost (x ∷ y ∷ xs) ys high h =
    ap (λ bs. record {
      page = child_of index x;
      low = cond leftmost None (Some (key_in index x));
      high = Some
          (key_in index y);
      leftmost = leftmost;
    } ∷ bs) (bounds-append index false (y ∷ xs) ys high (omega arith))

module _ (index : Index) (agrees : Agrees index) where
  -- an equal high separator does as well
  node_same : (level : ℕ) (root : Bool) (n : ℕ) (low : Option Key) (leftmost : Bool) (s t : Key) → AreEqualKeys
      (key_kinds index.node) s t
      → IsCheckedNode index level root (record { page = n; low = low; high = Some s; leftmost = leftmost }) →
      IsCheckedNode index level root (record { page = n; low = low; high = Some t; leftmost = leftmost })
  node_same level root n low leftmost s t e x =
      (x.0, (x.1.0, (record { low = x.1.1.0.low; high = λ f. agrees level _ s t e (x.1.1.0.high f) }, x.1.1.1)))

  pub bounds_same : (P : Bounded → Type 0) → ((n : ℕ) (low : Option Key) (leftmost : Bool) (s t : Key) →
      AreEqualKeys (key_kinds index.node) s t
      → P (record { page = n; low = low; high = Some s; leftmost = leftmost }) → P
      (record { page = n; low = low; high = Some t; leftmost = leftmost }))
      → (leftmost : Bool) (ps : List Row) (s t : Key) → AreEqualKeys (key_kinds index.node) s t → All P
      (bounds index leftmost ps (Some s)) → All P (bounds index leftmost ps (Some t))
  bounds_same P f leftmost [] s t e a = All-nil P
  bounds_same P f leftmost (p ∷ []) s t e a =
      All-cons P (record {
        page = child_of index p;
        low = cond leftmost None (Some (key_in index p));
        high = Some t;
        leftmost = leftmost;
      }) []
      (f (child_of index p) _ leftmost s t e (All-head P (record {
        page = child_of index p;
        low = cond leftmost None (Some (key_in index p));
        high = Some s;
        leftmost =
            leftmost;
      }) [] a)) (All-nil P)
  bounds_same P f leftmost (p ∷ q ∷ qs) s t e a =
      All-cons P (record {
        page = child_of index p;
        low = cond leftmost None (Some (key_in index p));
        high = Some
            (key_in index q);
        leftmost = leftmost;
      }) (bounds index false (q ∷ qs) (Some t))
      (All-head P (record {
        page = child_of index p;
        low = cond leftmost None (Some (key_in index p));
        high = Some
            (key_in index q);
        leftmost = leftmost;
      }) (bounds index false (q ∷ qs) (Some s)) a)
      (bounds_same P f false (q ∷ qs) s t e (All-tail P (record {
        page = child_of index p;
        low = cond leftmost None (Some (key_in index p));
        high = Some (key_in index q);
        leftmost = leftmost;
      }) (bounds index false (q ∷ qs) (Some s)) a))

  pub tree_same : (level : ℕ) (root : Bool) (n : ℕ) (low : Option Key) (leftmost : Bool) (s t : Key) → AreEqualKeys
      (key_kinds index.node) s t
      → IsCheckedTree index level root (record { page = n; low = low; high = Some s; leftmost = leftmost }) →
      IsCheckedTree index level root (record { page = n; low = low; high = Some t; leftmost = leftmost })
  tree_same zero root n low leftmost s t e x = node_same zero root n low leftmost s t e x
  tree_same (suc level) root n low leftmost s t e x = (
    node_same (suc level) root n low leftmost s t e x.0,
    bounds_same (IsCheckedTree index level false) (tree_same level false) leftmost (rows_on index n) s t e x.1,
  )

  -- a page above the leaves has a first key, and that is its low separator
  pub record Fits (b : Bounded) : Type 0 where
    pub some : 0 < length (rows_on index b.page)
    pub first : HasLow (page_in index b.page) index.node 1 b.low

  pub key_first : (n : ℕ) (os : List ℕ) (more : List Row) (high : Option Key) → 0 < length os → key_after index
      (rows_at n os ++ more) high ≡ Some (key_of (page_in index n) (get_or os 0 0) index.node)
  unfolding key_in
  key_first n [] more high h = absurd (omega arith)
  key_first n (o ∷ os) more high h = refl

  -- the tree of each page from those of the level below
  pieces : (P : Bounded → Type 0) → ((n : ℕ) (low : Option Key) (leftmost : Bool) (s t : Key) → AreEqualKeys
      (key_kinds index.node) s t
      → P (record { page = n; low = low; high = Some s; leftmost = leftmost }) → P
      (record { page = n; low = low; high = Some t; leftmost = leftmost }))
      → (leftmost : Bool) (ps : List Row) (high : Option Key) → All P
      (bounds index leftmost (rows_of index (children index ps)) high) → All Fits (bounds index leftmost ps high)
      → All (λ b. All P (kids index b)) (bounds index leftmost ps high)
  pieces P f leftmost [] high a fits = All-nil (λ b. All P (kids index b))
  pieces P f leftmost (p ∷ []) high a fits =
      let here : All P (bounds index leftmost (rows_on index (child_of index p)) high) = rw append-nil at a in
      All-cons (λ b. All P (kids index b)) (record {
        page = child_of index p;
        low = cond leftmost None
            (Some (key_in index p));
        high = high;
        leftmost = leftmost;
      }) [] here (All-nil (λ b. All P (kids index b)))
  pieces P f leftmost (p ∷ q ∷ qs) high a fits =
      let rest = rows_of index (children index (q ∷ qs)) in
      let b : Bounded = record {
        page = child_of index p;
        low = cond leftmost None (Some (key_in index p));
        high =
            Some (key_in index q);
        leftmost = leftmost;
      } in
      let b' : Bounded = record {
        page = child_of index q;
        low = Some (key_in index q);
        high = key_after index qs
            high;
        leftmost = false;
      } in
      let behind = All-tail Fits b (bounds index false (q ∷ qs) high) fits in
      let here = All-head Fits b (bounds index false (q ∷ qs) high) fits in
      let next = All-head Fits b' (bounds index false qs high) behind in
      let cut = bounds-append index leftmost (rows_on index (child_of index p)) rest high here.some in
      let both = subst (All P) cut a in
      let left = all_left P (bounds index leftmost (rows_on index (child_of index p)) (key_after index rest high))
      (bounds index false rest high) both in
      let right = all_right P (bounds index leftmost (rows_on index (child_of index p)) (key_after index rest high))
      (bounds index false rest high) both in
      let m : length (rows_on index (child_of index q)) ≡ length (records_of (page_in index (child_of index q))) =
      length-map _ _ in
      let s = next.some in
      let e = key_first (child_of index q) (records_of (page_in index (child_of index q)))
      (rows_of index (children index qs)) high (omega arith) in
      let left' = subst (λ x. All P (bounds index leftmost (rows_on index (child_of index p)) x)) e left in
      All-cons (λ b. All P (kids index b)) b (bounds index false (q ∷ qs) high)
      (bounds_same P f leftmost (rows_on index (child_of index p)) _ (key_in index q) (next.first.1 (omega arith))
      left')
      (pieces P f false (q ∷ qs) high right behind)

-- from places by number

unfoldable pub left_at : Bool → ℕ → Bool
left_at leftmost zero = leftmost
left_at leftmost (suc j) = false

pub left_none : (j : ℕ) → left_at false j ≡ false
unfolding left_at
left_none zero = refl
left_none (suc j) = refl

pub left_first : (j : ℕ) → left_at true j ≡ (j == 0)
unfolding left_at
left_first zero = refl
left_first (suc j) = sym (ne_eqb (suc j) 0 (λ e. omega arith))

pub first_high : (index : Index) (p : Row) (ps : List Row) → key_after index ps None ≡ high_of index (p ∷ ps) 0
first_high index p [] = refl
first_high index p (q ∷ qs) = refl

pub high_more : (index : Index) (p : Row) (ps : List Row) (j : ℕ) → high_of index ps j ≡ high_of index (p ∷ ps) (suc j)
high_more index p ps j = rw (add-one (suc j), add-one j) refl

pub same_bounds : (P : Bounded → Type 0) (n : ℕ) (key : Key) (high high' : Option Key) (l l' : Bool) → high' ≡ high
    → l' ≡ l
    → P (record { page = n; low = cond l None (Some key); high = high; leftmost = l }) → P
    (record { page = n; low = cond l' None (Some key); high = high'; leftmost = l' })
same_bounds P n key high high' l l' a b x = rw (a, b) x

from_places : (P : Bounded → Type 0) (index : Index) (leftmost : Bool) (ps : List Row)
    → ((j : ℕ) → j < length ps → P (record {
      page = child_of index (row_at ps j);
      low = cond (left_at leftmost j)
          None (Some (key_in index (row_at ps j)));
      high = high_of index ps j;
      leftmost = left_at leftmost j;
    }))
    → All P (bounds index leftmost ps None)
unfolding row_at left_at
from_places P index leftmost [] h = All-nil P
from_places P index leftmost (p ∷ ps) h =
    All-cons P (record {
      page = child_of index p;
      low = cond leftmost None (Some (key_in index p));
      high = key_after
          index ps None;
      leftmost = leftmost;
    }) (bounds index false ps None)
    (same_bounds P (child_of index p) (key_in index p) _ _ leftmost leftmost (first_high index p ps) refl
    (h 0 (omega arith)))
    (from_places P index false ps (λ j m. same_bounds P (child_of index (get_or ps j no_row))
    (key_in index (get_or ps j no_row)) _ _ false (left_at false j) (high_more index p ps j) (left_none j)
    (h (suc j) (omega arith))))

low_up : (page : List ℕ) (fields node : Fields) (l : ℕ) (low : Option Key) → fields ≡ node → HasLow page fields
    (suc l) low → HasLow page node 1 low
low_up page fields node l None e x = tt
low_up page fields node l (Some k) e x =
    let y : HasLow page node (suc l) (Some k) = subst (λ f. HasLow page f (suc l) (Some k)) e x in
    (y.0, (λ h. y.1 (omega arith)))

fields_up : (index : Index) (l : ℕ) → fields_on index (suc l) ≡ index.node
fields_up index l = rw (ne_eqb (suc l) 0 (λ e. omega arith)) refl

module _ (index : Index) (agrees : Agrees index) where
  pub fits_of : (l : ℕ) (b : Bounded) → IsCheckedNode index (suc l) false b → Fits index agrees b
  fits_of l b x = record {
    some =
        let c = some_record (page_in index b.page) (fields_on index (suc l)) _ false b.leftmost x.1.0 refl in
        let e = length-records (page_in index b.page) in
        let m : length (rows_on index b.page) ≡ length (records_of (page_in index b.page)) = length-map _ _ in
        omega arith;
    first = low_up (page_in index b.page) (fields_on index (suc l)) index.node l b.low (fields_up index l) x.1.1.0.low;
  }

module _ (index : Index) (agrees : Agrees index) (taken named : ℕ → Bool) (c : TreeChecks index taken named None) where
  nodes : (d l : ℕ) → l + suc d ≡ root_level index → All (IsCheckedNode index l false)
      (bounds index true (places index d) None)
  nodes d l e =
      let q : root_level index - suc d ≡ l = omega arith in
      from_places (IsCheckedNode index l false) index true (places index d)
      (λ j h.
      let x = c.1 d (omega arith) j h in
      let y : IsCheckedNode index (root_level index - suc d) false
      (record {
        page = child_of index (row_at (places index d) j);
        low = low_of index (places index d) j;
        high =
            high_of index (places index d) j;
        leftmost = j == 0;
      }) = x.1.1.1 in
      let z = subst (λ k. IsCheckedNode index k false (record {
        page = child_of index (row_at (places index d) j);
        low = low_of index (places index d) j;
        high = high_of
            index (places index d) j;
        leftmost = j == 0;
      })) q y in
      same_bounds (IsCheckedNode index l false) (child_of index (row_at (places index d) j))
      (key_in index (row_at (places index d) j)) _ _ (j == 0) (left_at true j) refl (left_first j) z)

  trees : (l d : ℕ) → l + suc d ≡ root_level index → All (IsCheckedTree index l false)
      (bounds index true (places index d) None)
  unfolding pages_at
  trees zero d e = nodes d zero e
  trees (suc l) d e =
      let n = nodes d (suc l) e in
      let f : All (Fits index agrees) (bounds index true (places index d) None) = λ k b h. fits_of index agrees l
      (get_or (bounds index true (places index d) None) k b) (n k b h) in
      let down : All (IsCheckedTree index l false) (bounds index true (places index (suc d)) None) = trees l (suc d)
      (omega arith) in
      let t = pieces index agrees (IsCheckedTree index l false) (tree_same index agrees l false) true
      (places index d) None down f in
      λ k b h. (n k b h, t k b h)

  root_node : IsCheckedNode index (root_level index) true (record
      { page = index.root; low = None; high = None; leftmost = true })
  root_node = c.0.1.1.1.1

  pub whole : (l : ℕ) → root_level index ≡ l → IsCheckedTree index l true
      (record { page = index.root; low = None; high = None; leftmost = true })
  unfolding pages_at
  whole zero e = subst (λ k. IsCheckedNode index k true (record
      { page = index.root; low = None; high = None; leftmost = true })) e root_node
  whole (suc l) e =
      let t : All (IsCheckedTree index l false) (bounds index true (places index 0) None) = trees l 0 (omega arith) in (
        subst (λ k. IsCheckedNode index k true (record {
          page = index.root;
          low = None;
          high = None;
          leftmost = true;
        })) e root_node,
        rw append-nil at t,
      )

-- a page passes the checks exactly where it is an index page
pub page_iff : ChecksAreIndexPage → HasOneChain → (page : List ℕ) (fields : Fields) (leaf root leftmost : Bool)
    → PageChecks page fields leaf root leftmost None ↔ IsIndexPage page fields leaf root leftmost (records_of page)
page_iff law one page fields leaf root leftmost =
    let i = law page fields leaf root leftmost in (
      (λ c. let (chain, x) = i.0 c in subst (IsIndexPage page fields leaf root leftmost) (one page chain x.is_chain) x),
      (λ x. i.1 (records_of page, x)),
    )

module _ (law : ChecksAreIndexPage) (one : HasOneChain) (index : Index) where
  node_is : (level : ℕ) (root : Bool) (b : Bounded) → IsCheckedNode index level root b → IsNode index level root b
  node_is level root b x = record {
    at_level = x.0;
    page = (page_iff law one _ _ _ _ _).0 x.1.0;
    keys = x.1.1.0;
    marks = x.1.1.1;
  }

  node_checked : (level : ℕ) (root : Bool) (b : Bounded) → IsNode index level root b → IsCheckedNode index level root b
  node_checked level root b x = (x.at_level, ((page_iff law one _ _ _ _ _).1 x.page, (x.keys, x.marks)))

  pub tree_is : (level : ℕ) (root : Bool) (b : Bounded) → IsCheckedTree index level root b → IsTree index level root b
  tree_is zero root b x = node_is zero root b x
  tree_is (suc level) root b x = (
    node_is (suc level) root b x.0,
    λ k d h. tree_is level false
        (get_or (kids index b) k d) (x.1 k d h),
  )

  pub tree_checked : (level : ℕ) (root : Bool) (b : Bounded) → IsTree index level root b → IsCheckedTree index level
      root b
  tree_checked zero root b x = node_checked zero root b x
  tree_checked (suc level) root b x = (
    node_checked (suc level) root b x.0,
    λ k d h. tree_checked level false
        (get_or (kids index b) k d) (x.1 k d h),
  )

-- the lists of one index have keys of the same kinds
pub same_kinds : (leaf node : Fields) → AreOfOneIndex leaf node → key_kinds node ≡ key_kinds leaf
same_kinds leaf node o =
    let l : length (take leaf.keys leaf.fields) ≡ leaf.keys = length-take-le leaf.keys leaf.fields o.few in
    rw (o.keys, o.pointers)
    (ap (λ xs. map (λ (f : Field). f.kind) xs) (ap (λ k. take k (take leaf.keys leaf.fields ++ child_field ∷ []))
    (sym l) ∙ take-append_seam (take leaf.keys leaf.fields) (child_field ∷ [])))

kinds_on : (index : Index) → AreOfOneIndex index.leaf index.node → (level : ℕ) → key_kinds (fields_on index level) ≡
    key_kinds index.node
kinds_on index o zero = sym (same_kinds index.leaf index.node o)
kinds_on index o (suc level) = rw (fields_up index level) refl

pub agrees_on : (index : Index) → AreOfOneIndex index.leaf index.node → Agrees index
agrees_on index o level a s t e b =
    let k = kinds_on index o level in
    rw k ((agrees (key_kinds index.node)).before a s t e (rw k at b))

pub descent_law : ChecksAreIndexPage → HasOneChain → ChecksGiveTree
descent_law law one index o w =
    tree_is law one index (root_level index) true (bounded_root index)
    (whole index (agrees_on index o) w.taken w.named w.holds (root_level index) refl)

-- the head of a tree is a node
pub node_of : (index : Index) (level : ℕ) (root : Bool) (b : Bounded) → IsTree index level root b
    → IsNode index level root b
node_of index zero root b tree = tree
node_of index (suc level) root b tree = tree.0
