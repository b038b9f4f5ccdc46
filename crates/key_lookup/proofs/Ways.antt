-- The way to a key leads to the rows with the key.
use Rattle.std.proofs.Common.{◌≡◌, ◌⊎◌, ℕ, zero, suc, ◌+◌, ◌-◌, ◌==◌, ◌<◌, Bool, true, false, cond, Option, None}
use Rattle.std.proofs.Common.{Some, List, [], ◌∷◌, length, get_or, All, Contains, flat_map, refl, sym}
use Rattle.std.proofs.Common.{ap, ◌∙◌, inl, inr, arith}
use Rattle.std.specs.declared.cmp.Ordering.{Ordering}
use Rattle.std.specs.declared.cmp.Ordering.TheVariants.{Less, Equal, Greater}
use Rattle.std.specs.Ordering.{ordering_reverse}
use Rattle.std.proofs.lemmas.Bool.{false≢true, true≢false, cases_lt, ne_eqb}
use Rattle.std.proofs.lemmas.List.{append-nil, length-map}
use Rattle.std.proofs.lemmas.List.Elements.{All-head, All-tail, All-contains, Contains-append_cases, Contains-get_or}
use Rattle.std.proofs.lemmas.List.Elements.{All-cons, All-nil}
use Rattle.column_values.specs.Order.{Key, key_cmp, IsBelow, AreEqualKeys}
use Rattle.column_values.proofs.KeyOrder.{key_total, agrees, symmetric, is_strict, is_transitive}
use Rattle.compact_record.specs.Reading.{key_kinds}
use Rattle.index_page.specs.Header.{records_of}
use Rattle.index_page.specs.Laws.{KeysRiseThroughout}
use Rattle.page_source.proofs.Members.{contains_none, contains_here, contains_there, filter_contains}
use Rattle.page_source.proofs.Lists.{flat_map_has}
use Rattle.tree_walk.specs.Index.{Index, Row, page_in, rows_on, child_of, children, key_in, pages_at, root_level}
use Rattle.tree_walk.specs.Descent.{children_at, rows_below, tree_rows, Bounded, key_after, bounds, kids}
use Rattle.tree_walk.specs.Descent.{IsNode, IsTree, IsTreeByDescent}
use Rattle.tree_walk.specs.Laws.{row_key}
use Rattle.tree_walk.proofs.Descents.{children_down}
use Rattle.key_lookup.specs.Path.{is_up_to, pages_up_to, page_for, next_down, way}
use Rattle.key_lookup.proofs.Lists.{filter_none, last_or, last_cons}
use Rattle.key_lookup.proofs.Between.{IsFrom, IsUnder, IsBetween, Fits, kids_fit, AreBetween, Spans, kids_between}
use Rattle.key_lookup.proofs.Between.{PairsBehind, HasOneKind}
use Rattle.key_lookup.proofs.Between.{spans, between, rises}
use Rattle.key_lookup.proofs.Kids.{bounds_count}

-- one of the pages is chosen, if there is one
pub page_for_holds : (P : Bounded → Type 0) (index : Index) (key : Key) (none : Bounded) (bs : List Bounded)
    → 0 < length bs → All P bs → P (page_for index key none bs)
page_for_holds P index key none [] some a = absurd (omega arith)
page_for_holds P index key none (b ∷ bs) some a =
    by_list (pages_up_to index key bs)
    (λ c m. All-contains P bs c (All-tail P b bs a)
    (filter_contains (λ (b : Bounded). is_up_to index key b.low) bs c m).0)
  where
    by_list : (cs : List Bounded) → ((c : Bounded) → Contains cs c → P c) → P (last_or cs b)
    by_list [] h = All-head P b bs a
    by_list (c ∷ cs) h = h (last_or (c ∷ cs) b) (Contains-get_or (c ∷ cs) (length (c ∷ cs) - 1) b (omega arith))

-- the choice by the second page: it is one of those from there on, or else the first
up_step : (index : Index) (key : Key) (none b c : Bounded) (bs : List Bounded) → is_up_to index key c.low ≡ true
    → page_for index key none (b ∷ c ∷ bs) ≡ page_for index key none (c ∷ bs)
up_step index key none b c bs e = rw e (last_cons c (pages_up_to index key bs) b)

stop_step : (index : Index) (key : Key) (none b : Bounded) (bs : List Bounded)
    → All (λ (c : Bounded). is_up_to index key c.low ≡ false) bs → page_for index key none (b ∷ bs) ≡ b
stop_step index key none b bs a = rw (filter_none (λ (c : Bounded). is_up_to index key c.low) bs a) refl

-- the low separators of pages behind the first
lows : (index : Index) (P : Option Key → Type 0) (ps : List Row) (high : Option Key)
    → All (λ p. P (Some (key_in index p))) ps → All (λ (c : Bounded). P c.low) (bounds index false ps high)
lows index P [] high a = All-nil (λ (c : Bounded). P c.low)
lows index P (p ∷ ps) high a =
    All-cons (λ (c : Bounded). P c.low) (record {
      page = child_of index p;
      low = Some (key_in index p);
      high = key_after index ps high;
      leftmost = false;
    }) (bounds index false ps high) (All-head (λ p. P (Some (key_in index p))) p ps a)
    (lows index P ps high (All-tail (λ p. P (Some (key_in index p))) p ps a))

-- the pages of the children
kids_are : (index : Index) (leftmost : Bool) (ps : List Row) (high : Option Key)
    → All (λ (c : Bounded). Contains (children index ps) c.page) (bounds index leftmost ps high)
kids_are index leftmost [] high = All-nil (λ (c : Bounded). Contains [] c.page)
kids_are index leftmost (p ∷ ps) high =
    All-cons (λ (c : Bounded). Contains (children index (p ∷ ps)) c.page) (record {
      page = child_of index p;
      low = cond leftmost None (Some (key_in index p));
      high = key_after index ps high;
      leftmost = leftmost;
    }) (bounds index false ps high) (contains_here (child_of index p) (children index ps))
    (λ k d m. contains_there (child_of index p) (children index ps) (get_or (bounds index false ps high) k d).page
    (kids_are index false ps high k d m))

module _ (index : Index) (one : HasOneKind index) (key : Key) where
  turned : (k : Key) (o : Ordering) → key_cmp (key_kinds index.node) k key ≡ o
      → key_cmp (key_kinds index.node) key k ≡ ordering_reverse o
  turned k o e = (key_total (key_kinds index.node)).antisymm key k ∙ ap ordering_reverse e

  by_order : (k : Key) (o : Ordering) → key_cmp (key_kinds index.node) k key ≡ o
      → ((is_up_to index key (Some k) ≡ true) × (IsBelow (key_kinds index.node) key k → ⊥))
      ⊎ ((is_up_to index key (Some k) ≡ false) × IsBelow (key_kinds index.node) key k)
  by_order k Less e = let t = turned k Less e in inl (rw e refl, λ b. cc)
  by_order k Equal e = let t = turned k Equal e in inl (rw e refl, λ b. cc)
  by_order k Greater e = inr (rw e refl, turned k Greater e)

  -- the way goes on past a separator, or the key is below it
  up_or_below : (k : Key) → ((is_up_to index key (Some k) ≡ true) × (IsBelow (key_kinds index.leaf) key k → ⊥))
      ⊎ ((is_up_to index key (Some k) ≡ false) × IsBelow (key_kinds index.leaf) key k)
  up_or_below k = rw (← one) (by_order k (key_cmp (key_kinds index.node) k key) refl)

  not_up : (k : Key) → IsBelow (key_kinds index.leaf) key k → is_up_to index key (Some k) ≡ false
  not_up k b = elim (up_or_below k) [ inl u ↦ absurd (u.1 b) | inr n ↦ n.0 ]

  module _ (level : ℕ) (row : Row) (equal : AreEqualKeys (key_kinds index.leaf) (row_key index row) key) where
    -- the row isn't below a page whose high separator isn't above the key
    not_under : (low : Option Key) (k : Key) (rows : List Row) → All (IsBetween index low (Some k)) rows
        → (IsBelow (key_kinds index.leaf) key k → ⊥) → Contains rows row → ⊥
    not_under low k rows a off c =
        off ((agrees (key_kinds index.leaf)).after (row_key index row) key k equal
        (All-contains (IsBetween index low (Some k)) rows row a c).under)

    -- nor below one whose low separator is above the key
    not_from : (k : Key) (high : Option Key) (rows : List Row) → All (IsBetween index (Some k) high) rows
        → IsBelow (key_kinds index.leaf) key k → Contains rows row → ⊥
    not_from k high rows a b c =
        (All-contains (IsBetween index (Some k) high) rows row a c).from
        ((agrees (key_kinds index.leaf)).after key (row_key index row) k
        (symmetric (key_kinds index.leaf) (row_key index row) key equal) b)

    -- the row is below the page that is chosen
    finds : (none : Bounded) (leftmost : Bool) (ps : List Row) (low high : Option Key)
        → Spans index leftmost ps low high → AreBetween index level (bounds index leftmost ps high)
        → PairsBehind (λ p q. IsBelow (key_kinds index.leaf) (key_in index p) (key_in index q)) ps
        → Contains (flat_map (rows_below index level) (children index ps)) row
        → Contains (rows_below index level (page_for index key none (bounds index leftmost ps high)).page) row
    finds none leftmost [] low high s a r c = absurd (contains_none row c)
    finds none leftmost (p ∷ []) low high s a r c = rw append-nil at c
    finds none leftmost (p ∷ q ∷ qs) low high s a r c =
        let kinds = key_kinds index.leaf in
        let first : Bounded = record {
          page = child_of index p;
          low = cond leftmost None (Some (key_in index p));
          high = Some (key_in index q);
          leftmost = leftmost;
        } in
        let second : Bounded = record {
          page = child_of index q;
          low = Some (key_in index q);
          high = key_after index qs high;
          leftmost = false;
        } in
        let rest = bounds index false qs high in
        let here = All-head (λ (b : Bounded). All (IsBetween index b.low b.high) (rows_below index level b.page)) first
        (second ∷ rest) a in
        let behind = All-tail
        (λ (b : Bounded). All (IsBetween index b.low b.high) (rows_below index level b.page)) first
        (second ∷ rest) a in
        let more : Spans index false (q ∷ qs) low high = record {
          fit = λ e. absurd (false≢true e);
          from = All-tail (λ p. IsFrom kinds low (key_in index p)) p (q ∷ qs) s.from;
          under = All-tail (λ p. IsUnder kinds high (key_in index p)) q qs s.under;
        } in
        let cases = Contains-append_cases (rows_below index level (child_of index p))
        (flat_map (rows_below index level) (children index (q ∷ qs))) row c in
        elim (up_or_below (key_in index q)) [
          | inl u ↦
              rw (up_step index key none first second rest u.0)
              (elim cases [
                | inl h ↦ absurd (not_under first.low (key_in index q) (rows_below index level (child_of index p)) here
                    u.1 h)
                | inr h ↦ finds none false (q ∷ qs) low high more behind
                    (λ i j d l m. r (suc i) (suc j) d (omega arith) (omega arith)) h
              ])
          | inr n ↦
              let from_q : Spans index false (q ∷ qs) (Some (key_in index q)) high = record {
                fit = λ e. absurd (false≢true e);
                from = All-cons (λ p. IsFrom kinds (Some (key_in index q)) (key_in index p)) q qs
                    (is_strict kinds (key_in index q))
                    (λ k d m b. is_strict kinds (key_in index q)
                    (is_transitive kinds (key_in index q) (key_in index (get_or qs k d)) (key_in index q)
                    (r 0 (suc k) d (omega arith) (omega arith)) b));
                under = more.under;
              } in
              let closed : All (λ p. is_up_to index key (Some (key_in index p)) ≡ false) (q ∷ qs) =
              All-cons (λ p. is_up_to index key (Some (key_in index p)) ≡ false) q qs n.0
              (λ k d m. not_up (key_in index (get_or qs k d))
              (is_transitive kinds key (key_in index q) (key_in index (get_or qs k d)) n.1
              (r 0 (suc k) d (omega arith) (omega arith)))) in
              rw (stop_step index key none first (second ∷ rest)
              (lows index (λ low. is_up_to index key low ≡ false) (q ∷ qs) high closed))
              (elim cases [
                | inl h ↦ h
                | inr h ↦ absurd (not_from (key_in index q) high
                    (flat_map (rows_below index level) (children index (q ∷ qs)))
                    (kids_between index level false (q ∷ qs) (Some (key_in index q)) high from_q behind) n.1 h)
              ])
        ]

module _ (law : KeysRiseThroughout) (index : Index) (one : HasOneKind index) (tree : IsTreeByDescent index) (key : Key)
  where
    -- above the leaves a page has a node pointer
    some_pointer : (l : ℕ) (root : Bool) (b : Bounded) → IsNode index (suc l) root b → 0 < length (kids index b)
    some_pointer l root b node =
        let page = page_in index b.page in
        let same : length (rows_on index b.page) ≡ length (records_of page) =
        length-map (records_of page) (λ origin. record { page = b.page; origin = origin }) in
        let count = bounds_count index b.leftmost (rows_on index b.page) b.high in
        elim (cases_lt 0 (length (records_of page))) [
          | inl m ↦ omega arith
          | inr m ↦ absurd (true≢false
              (sym (node.page.some_record (omega arith)).0 ∙ ne_eqb (suc l) 0 (λ e. omega arith)))
        ]

    -- the page at a depth of the way has a tree below it
    pub tree_at : (d l : ℕ) → l + d ≡ root_level index
        → IsTree index l (d == 0) (way index key d) × Fits (way index key d)
    unfolding next_down
    tree_at zero l e = let same : l ≡ root_level index = omega arith in rw same (tree, λ e. refl)
    tree_at (suc d) l e =
        let b = way index key d in
        let up = tree_at d (suc l) (omega arith) in
        rw (ne_eqb (suc d) 0 (λ e. omega arith))
        (page_for_holds (λ (c : Bounded). IsTree index l false c × Fits c) index key b (kids index b)
        (some_pointer l (d == 0) b up.0.0)
        (λ k h m. (up.0.1 k h m, kids_fit index b.leftmost (rows_on index b.page) b.high k h m)))

    -- the next page is a child of the one before it
    child_at : (d l : ℕ) → suc l + d ≡ root_level index
        → Contains (children_at index (way index key d).page) (way index key (suc d)).page
    unfolding next_down
    child_at d l e =
        let b = way index key d in
        let up = tree_at d (suc l) e in
        page_for_holds (λ (c : Bounded). Contains (children_at index b.page) c.page) index key b (kids index b)
        (some_pointer l (d == 0) b up.0.0) (kids_are index b.leftmost (rows_on index b.page) b.high)

    -- the page of the way lies on its level
    pub page_at : (d l : ℕ) → l + d ≡ root_level index → Contains (pages_at index d) (way index key d).page
    unfolding pages_at
    page_at zero l e = contains_here index.root []
    page_at (suc d) l e =
        rw (children_down index (pages_at index d))
        (flat_map_has (children_at index) (pages_at index d) (way index key d).page (way index key (suc d)).page
        (page_at d (suc l) (omega arith)) (child_at d l (omega arith)))

    -- the rows of the leaf are rows of the tree
    pub rows_in : (row : Row) (d l : ℕ) → l + d ≡ root_level index
        → Contains (rows_below index l (way index key d).page) row → Contains (tree_rows index) row
    unfolding rows_below
    rows_in row zero l e c = let same : root_level index ≡ l = omega arith in rw same c
    rows_in row (suc d) l e c =
        rows_in row d (suc l) (omega arith)
        (flat_map_has (rows_below index l) (children_at index (way index key d).page) (way index key (suc d)).page
        row (child_at d l (omega arith)) c)

    -- the rows of the tree with the key are among those of the leaf
    pub rows_on_way : (row : Row) → AreEqualKeys (key_kinds index.leaf) (row_key index row) key
        → Contains (tree_rows index) row → (d l : ℕ) → l + d ≡ root_level index
        → Contains (rows_below index l (way index key d).page) row
    unfolding rows_below next_down
    rows_on_way row equal c zero l e = let same : l ≡ root_level index = omega arith in rw same c
    rows_on_way row equal c (suc d) l e =
        let b = way index key d in
        let up = tree_at d (suc l) (omega arith) in
        let above = rows_on_way row equal c d (suc l) (omega arith) in
        let fits = kids_fit index b.leftmost (rows_on index b.page) b.high in
        finds index one key l row equal b b.leftmost (rows_on index b.page) b.low b.high
        (spans law index one l (d == 0) b up.0.0 up.1)
        (λ k h m. between law index one l false (get_or (kids index b) k h) (up.0.1 k h m) (fits k h m))
        (rises law index one l (d == 0) b up.0.0) above
