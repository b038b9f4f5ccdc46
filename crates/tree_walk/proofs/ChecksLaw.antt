-- no check of a tree is broken exactly where it is a whole tree by descent
use Rattle.std.proofs.Common.{◌≡◌, ◌==◌, ◌-◌, ℕ, suc, zero, ◌+◌, ◌<◌, ◌≤◌, List, [], ◌∷◌, length, get_or, Bool, true}
use Rattle.std.proofs.Common.{false, Option, None, Some, cond, arith, refl, sym, subst}
use Rattle.std.specs.List.{All}
use Rattle.std.proofs.lemmas.List.{append-nil, length-map, get_or-map}
use Rattle.std.proofs.lemmas.List.Elements.{All-head, All-tail, All-nil, All-append}
use Rattle.column_values.specs.Order.{Key, AreEqualKeys}
use Rattle.index_page.specs.Header.{records_of}
use Rattle.compact_record.specs.Reading.{key_kinds}
use Rattle.tree_walk.specs.Index.{Index, Row, page_in, root_level, rows_on, rows_of, children, child_of, key_in}
use Rattle.tree_walk.specs.Index.{row_at, no_row, places, pages_at}
use Rattle.tree_walk.specs.Place.{IsBeside}
use Rattle.tree_walk.specs.TreeChecks.{TreeChecks, DepthCheck, before, after, low_of, high_of}
use Rattle.column_values.specs.Laws.{Symmetric}
use Rattle.column_values.proofs.KeyOrder.{symmetric}
use Rattle.index_page.specs.Laws.{ChecksAreIndexPage, HasOneChain}
use Rattle.tree_walk.specs.Descent.{Bounded, bounded_root, key_after, bounds, kids}
use Rattle.tree_walk.specs.Laws.{IsOwnPage, IsWhole, ChecksAreWholeness}
use Rattle.tree_walk.proofs.Levels.{children_hold}
use Rattle.tree_walk.proofs.Fresh.{distinct_tree, unmarked_tree, fresh_is}
use Rattle.tree_walk.proofs.DescentLaw.{Agrees, IsCheckedNode, IsCheckedTree, agrees_on, tree_is, tree_checked}
use Rattle.tree_walk.proofs.DescentLaw.{bounds-append, Fits, key_first, bounds_same, tree_same, left_at, left_none}
use Rattle.tree_walk.proofs.DescentLaw.{left_first, first_high, high_more, same_bounds, fits_of, whole}

module _ (index : Index) (agrees : Agrees index) (symmetric : Symmetric (key_kinds index.node)) where
  -- the level below from the tree of each page
  joined : (P : Bounded → Type 0) → ((n : ℕ) (low : Option Key) (leftmost : Bool) (s t : Key) → AreEqualKeys
      (key_kinds index.node) s t
      → P (record { page = n; low = low; high = Some s; leftmost = leftmost }) → P
      (record { page = n; low = low; high = Some t; leftmost = leftmost }))
      → (leftmost : Bool) (ps : List Row) (high : Option Key) → All (λ b. All P (kids index b))
      (bounds index leftmost ps high) → All (Fits index agrees) (bounds index leftmost ps high)
      → All P (bounds index leftmost (rows_of index (children index ps)) high)
  joined P f leftmost [] high a fits = All-nil P
  joined P f leftmost (p ∷ []) high a fits =
      rw append-nil (All-head (λ b. All P (kids index b)) (record {
        page = child_of index p;
        low = cond leftmost None (Some (key_in index p));
        high = high;
        leftmost =
            leftmost;
      }) [] a)
  joined P f leftmost (p ∷ q ∷ qs) high a fits =
      let rest = rows_of index (children index (q ∷ qs)) in
      let b : Bounded = record {
        page = child_of index p;
        low = cond leftmost None (Some (key_in index p));
        high =
            Some (key_in index q);
        leftmost = leftmost;
      } in
      let b' : Bounded = record {
        page = child_of index q;
        low = Some (key_in index q);
        high = key_after index qs
            high;
        leftmost = false;
      } in
      let behind = All-tail (Fits index agrees) b (bounds index false (q ∷ qs) high) fits in
      let here = All-head (Fits index agrees) b (bounds index false (q ∷ qs) high) fits in
      let next = All-head (Fits index agrees) b' (bounds index false qs high) behind in
      let cut = bounds-append index leftmost (rows_on index (child_of index p)) rest high here.some in
      let m : length (rows_on index (child_of index q)) ≡ length (records_of (page_in index (child_of index q))) =
      length-map _ _ in
      let s = next.some in
      let e = key_first index agrees (child_of index q) (records_of (page_in index (child_of index q)))
      (rows_of index (children index qs)) high (omega arith) in
      let own = All-head (λ b. All P (kids index b)) b (bounds index false (q ∷ qs) high) a in
      let left = bounds_same index agrees P f leftmost (rows_on index (child_of index p)) (key_in index q) _
      (symmetric _ _ (next.first.1 (omega arith))) own in
      let left' = subst (λ x. All P (bounds index leftmost (rows_on index (child_of index p)) x)) (sym e) left in
      let right = joined P f false (q ∷ qs) high (All-tail (λ b. All P (kids index b)) b
      (bounds index false (q ∷ qs) high) a) behind in
      subst (All P) (sym cut) (All-append P (bounds index leftmost (rows_on index (child_of index p))
      (key_after index rest high)) (bounds index false rest high) left' right)

-- the place with number j
to_places : (P : Bounded → Type 0) (index : Index) (leftmost : Bool) (ps : List Row) (j : ℕ) → All P
    (bounds index leftmost ps None) → j < length ps
    → P (record {
      page = child_of index (row_at ps j);
      low = cond (left_at leftmost j) None
          (Some (key_in index (row_at ps j)));
      high = high_of index ps j;
      leftmost = left_at leftmost j;
    })
unfolding row_at left_at
to_places P index leftmost [] j a h = absurd (omega arith)
to_places P index leftmost (p ∷ ps) zero a h =
    same_bounds P (child_of index p) (key_in index p) _ _ leftmost leftmost (sym (first_high index p ps)) refl
    (All-head P (record {
      page = child_of index p;
      low = cond leftmost None (Some (key_in index p));
      high =
          key_after index ps None;
      leftmost = leftmost;
    }) (bounds index false ps None) a)
to_places P index leftmost (p ∷ ps) (suc j) a h =
    let rest = All-tail P (record {
      page = child_of index p;
      low = cond leftmost None (Some (key_in index p));
      high
          = key_after index ps None;
      leftmost = leftmost;
    }) (bounds index false ps None) a in
    same_bounds P (child_of index (get_or ps j no_row)) (key_in index (get_or ps j no_row)) _ _ (left_at false j)
    false (sym (high_more index p ps j)) (sym (left_none j))
    (to_places P index false ps j rest (omega arith))

tree_node : (index : Index) (level : ℕ) (root : Bool) (b : Bounded) → IsCheckedTree index level root b →
    IsCheckedNode index level root b
tree_node index zero root b t = t
tree_node index (suc level) root b t = t.0

module _ (index : Index) (taken named : ℕ → Bool) (agrees : Agrees index)
    (symmetric : Symmetric (key_kinds index.node)) (law : ChecksAreIndexPage) (one : HasOneChain) where
  -- from the tree to the checks
  module _ (w : IsWhole index taken named) where
    checked_tree : IsCheckedTree index (root_level index) true (bounded_root index)
    checked_tree = tree_checked law one index (root_level index) true (bounded_root index) w.tree

    under_root : (l k : ℕ) → k ≡ suc l → IsCheckedTree index k true
        (record { page = index.root; low = None; high = None; leftmost = true }) → All (IsCheckedTree index l false)
        (bounds index true (places index 0) None)
    unfolding pages_at
    under_root l k e t =
        let x : IsCheckedTree index (suc l) true (record {
          page = index.root;
          low = None;
          high = None;
          leftmost =
              true;
        }) = subst (λ k. IsCheckedTree index k true
        (record { page = index.root; low = None; high = None; leftmost = true })) e t in
        rw append-nil (x.1)

    trees : (d l : ℕ) → l + suc d ≡ root_level index → All (IsCheckedTree index l false)
        (bounds index true (places index d) None)
    unfolding pages_at
    trees zero l e = under_root l (root_level index) (omega arith) checked_tree
    trees (suc d) l e =
        let up : All (IsCheckedTree index (suc l) false) (bounds index true (places index d) None) = trees d (suc l)
        (omega arith) in
        let f : All (Fits index agrees) (bounds index true (places index d) None) = λ k b h. fits_of index agrees l
        (get_or (bounds index true (places index d) None) k b) ((up k b h).0) in
        joined index agrees symmetric (IsCheckedTree index l false) (tree_same index agrees l false) true
        (places index d) None (λ k b h. (up k b h).1) f

    place : (d j : ℕ) → d < root_level index → j < length (places index d) → IsCheckedNode index
        (root_level index - suc d) false (record {
          page = child_of index (row_at (places index d) j);
          low = low_of
              index (places index d) j;
          high = high_of index (places index d) j;
          leftmost = j == 0;
        })
    place d j h m =
        let l = root_level index - suc d in
        let x = to_places (IsCheckedTree index l false) index true (places index d) j (trees d l (omega arith)) m in
        same_bounds (IsCheckedNode index l false) (child_of index (row_at (places index d) j))
        (key_in index (row_at (places index d) j)) _ _ (left_at true j) (j == 0) refl (sym (left_first j))
        (tree_node index l false _ x)

    checks_at : (d : ℕ) → d < root_level index → DepthCheck index taken d None
    unfolding pages_at row_at
    checks_at d h j m =
        let ps = places index d in
        let i : j < length (children index ps) = rw length-map m in
        let g = get_or-map (child_of index) ps j no_row 0 m in
        let o = rw g at (w.own d h j 0 i) in
        let s = rw g at (w.siblings (suc d) j (omega arith) i) in (
          record { page = o.page; new = fresh_is index taken (root_level index) w.once w.fresh d j h m },
          (o.id, (s, place d j h m)),
        )

    pub checks : TreeChecks index taken named None
    unfolding pages_at
    checks = (
      (
        w.root,
        (
          w.segments,
          (
            refl,
            (
              w.siblings 0 0 (omega arith) (omega arith),
              tree_node index
                  (root_level index) true _ checked_tree,
            ),
          ),
        ),
      ),
      checks_at,
    )

  -- and back
  module _ (c : TreeChecks index taken named None) where
    own : (d : ℕ) → d < root_level index → All (IsOwnPage index (root_level index - suc d)) (pages_at index (suc d))
    unfolding pages_at
    own d h =
        children_hold (IsOwnPage index (root_level index - suc d)) index (places index d)
        (λ j m. let x = c.1 d h j m in record { page = x.0.page; id = x.1.0 })

    siblings : (d i : ℕ) → d ≤ root_level index → i < length (pages_at index d) → IsBeside
        (page_in index (get_or (pages_at index d) i 0)) (before (pages_at index d) i) (after (pages_at index d) i)
    unfolding pages_at row_at
    siblings zero i h l = let e : i ≡ 0 = omega arith in rw e c.0.1.1.1.0
    siblings (suc d) i h l =
        let m : i < length (places index d) = rw (← length-map (places index d) (child_of index)) l in
        rw (get_or-map (child_of index) (places index d) i no_row 0 m) (c.1 d (omega arith) i m).1.1.0

    pub is_whole : IsWhole index taken named
    is_whole = record {
      root = c.0.0;
      segments = c.0.1.0;
      tree = tree_is law one index (root_level index) true (bounded_root index)
          (whole index agrees taken named c (root_level index) refl);
      own = own;
      siblings = siblings;
      once = distinct_tree index taken (root_level index) c.0.0.new (λ d j h m. (c.1 d h j m).0.new);
      fresh = unmarked_tree index taken (root_level index) c.0.0.new (λ d j h m. (c.1 d h j m).0.new);
    }

pub checks_law : ChecksAreIndexPage → HasOneChain → ChecksAreWholeness
checks_law law one index taken named o =
    let a = agrees_on index o in
    let s = symmetric (key_kinds index.node) in
    (is_whole index taken named a s law one, checks index taken named a s law one)
