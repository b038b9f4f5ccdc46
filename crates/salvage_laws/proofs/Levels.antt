-- The pages of a whole tree, level by level.
use Rattle.std.proofs.Common.{◌≡◌, ℕ, zero, suc, ◌-◌, ◌≤◌, Bool, true, false, List, [], ◌∷◌}
use Rattle.std.proofs.Common.{flat_map, All, Contains, inl, inr, refl, subst, arith}
use Rattle.std.proofs.lemmas.List.Elements.{All-nil, All-cons, All-head, All-tail, All-append, All-contains}
use Rattle.std.proofs.lemmas.List.Elements.{Contains-append_cases}
use Rattle.fil_frame.specs.Kinds.{index_kind}
use Rattle.index_page.specs.Header.{level_of, index_id_of, records_of}
use Rattle.index_page.specs.Page.{IsIndexPage}
use Rattle.space_audit.specs.Space.{IsPageOf}
use Rattle.tree_walk.specs.Index.{Index, Row, page_in, fields_on, root_level, index_id, rows_on, child_of, children}
use Rattle.tree_walk.specs.Index.{pages_at, reached}
use Rattle.tree_walk.specs.Place.{is_leaf_level}
use Rattle.tree_walk.specs.Descent.{below, Bounded, bounds, IsNode, IsTree, bounded_root}
use Rattle.tree_walk.specs.Laws.{IsWhole}
use Rattle.tree_walk.proofs.Descents.{below_is}
use Rattle.tree_walk.proofs.DescentLaw.{node_of}

-- a page of this level: an index page
pub record IsAt (index : Index) (level n : ℕ) : Type 0 where
  pub at_level : level_of (page_in index n) ≡ level
  pub root : Bool
  pub leftmost : Bool
  pub page : IsIndexPage (page_in index n) (fields_on index level) (is_leaf_level level) root leftmost
      (records_of (page_in index n))

-- a page of the index, used by some segment
pub record IsOwn (index : Index) (n : ℕ) : Type 0 where
  pub segment : ℕ
  pub page : IsPageOf index.file segment index_kind n
  pub id : index_id_of (page_in index n) ≡ index_id index

at_node : (index : Index) (level : ℕ) (root : Bool) (b : Bounded) → IsNode index level root b
    → IsAt index level b.page
at_node index level root b node = record {
  at_level = node.at_level.0;
  root = root;
  leftmost = b.leftmost;
  page = node.page;
}

all_children : (Q : ℕ → Type 0) (f : ℕ → List ℕ) (T : Bounded → Type 0) → ((b : Bounded) → T b → All Q (f b.page))
    → (index : Index) (leftmost : Bool) (rows : List Row) (high : _)
    → All T (bounds index leftmost rows high) → All Q (flat_map f (children index rows))
all_children Q f T step index leftmost [] high all = All-nil Q
all_children Q f T step index leftmost (p ∷ ps) high all =
    All-append Q (f (child_of index p)) (flat_map f (children index ps))
    (step _ (All-head T _ (bounds index false ps high) all))
    (all_children Q f T step index false ps high (All-tail T _ (bounds index false ps high) all))

nodes_below : (index : Index) (level depth : ℕ) → depth ≤ level → (root : Bool) (b : Bounded)
    → IsTree index level root b → All (IsAt index (level - depth)) (below index depth b.page)
unfolding below
nodes_below index level zero within root b tree =
    let e : level ≡ level - 0 = omega arith in
    All-cons (IsAt index (level - 0)) b.page []
    (subst (λ (l : ℕ). IsAt index l b.page) e (at_node index level root b (node_of index level root b tree)))
    (All-nil (IsAt index (level - 0)))
nodes_below index zero (suc depth) within root b tree = absurd (omega (arith, within))
nodes_below index (suc level) (suc depth) within root b tree =
    let e : level - depth ≡ suc level - suc depth = omega arith in
    subst (λ (l : ℕ). All (IsAt index l) (flat_map (below index depth) (children index (rows_on index b.page)))) e
    (all_children (IsAt index (level - depth)) (below index depth) (IsTree index level false)
    (λ kid is. nodes_below index level depth (omega (arith, within)) false kid is) index b.leftmost
    (rows_on index b.page) b.high tree.1)

module _ (index : Index) (taken named : ℕ → Bool) (whole : IsWhole index taken named) where
  -- the pages of a level
  pub nodes_at : (d : ℕ) → d ≤ root_level index → All (IsAt index (root_level index - d)) (pages_at index d)
  nodes_at d within =
      subst (λ (pages : List ℕ). All (IsAt index (root_level index - d)) pages) (below_is index d)
      (nodes_below index (root_level index) d within true (bounded_root index) whole.tree)

  pub own_at : (d : ℕ) → d ≤ root_level index → All (IsOwn index) (pages_at index d)
  unfolding pages_at
  own_at zero within =
      All-cons (IsOwn index) index.root []
      (record { segment = whole.root.page.0; page = whole.root.page.1; id = refl }) (All-nil (IsOwn index))
  own_at (suc d) within =
      λ k e under.
      let is = whole.own d (omega (arith, within)) k e under in
      record { segment = _; page = is.page; id = is.id }

  -- a page of the tree is one of a level
  pub record OnLevel (n : ℕ) : Type 0 where
    pub depth : ℕ
    pub within : depth ≤ root_level index
    pub among : Contains (pages_at index depth) n

  on_level : (l n : ℕ) → l ≤ root_level index → Contains (reached index l) n → OnLevel n
  unfolding reached pages_at
  on_level zero n within c = record { depth = 0; within = within; among = c }
  on_level (suc l) n within c =
      elim (Contains-append_cases (reached index l) (pages_at index (suc l)) n c) [
        | inl before ↦ on_level l n (omega (arith, within)) before
        | inr here ↦ record { depth = suc l; within = within; among = here }
      ]

  pub level_is : (n : ℕ) → Contains (reached index (root_level index)) n → OnLevel n
  level_is n c = on_level (root_level index) n (omega arith) c

  -- one of level 0 is a leaf
  pub leaf_is : (n : ℕ) → Contains (reached index (root_level index)) n → level_of (page_in index n) ≡ 0
      → Contains (pages_at index (root_level index)) n
  leaf_is n c lowest =
      let on = level_is n c in
      let at = All-contains (IsAt index (root_level index - on.depth)) (pages_at index on.depth) n
      (nodes_at on.depth on.within) on.among in
      let e : on.depth ≡ root_level index = omega (arith, lowest, at.at_level, on.within) in
      subst (λ (d : ℕ). Contains (pages_at index d) n) e on.among

  pub own_is : (n : ℕ) → Contains (reached index (root_level index)) n → IsOwn index n
  own_is n c =
      let on = level_is n c in
      All-contains (IsOwn index) (pages_at index on.depth) n (own_at on.depth on.within) on.among
