-- the root's checks, and the tree from its start to its end
use Rattle.std.proofs.Common.{◌≡◌, ◌==◌, ◌-◌, ℕ, suc, ◌+◌, ◌<◌, ◌≤◌, List, [], ◌∷◌, length, get_or, count_by, Bool}
use Rattle.std.proofs.Common.{true, cond, All, sym, ◌∙◌, ap, arith, Option, None, Some, below_more, refl, inl, inr}
use Rattle.std.proofs.Common.{subst}
use Rattle.std.proofs.lemmas.Bool.{eq-eqb}
use Rattle.page_source.specs.Pages.{page_of, num, fil_null}
use Rattle.page_source.specs.Checks.{HaltsAt}
use Rattle.page_source.specs.declared.rule.Fault.{Fault}
use Rattle.page_source.specs.declared.checks.Halt.{Halt}
use Rattle.page_source.specs.declared.checks.Halt.TheVariants.{Broken, Source}
use Rattle.space_audit.specs.Space.{SpaceView, IsAuditOf}
use Rattle.column_values.specs.Types.{Fields}
use Rattle.tree_walk.specs.declared.index.Tree.{Tree}
use Rattle.tree_walk.specs.declared.tree.root.Top.{Top}
use Rattle.tree_walk.specs.declared.ends.TreeEnds.{TreeEnds}
use Rattle.tree_walk.specs.declared.level.Level.{Level}
use Rattle.tree_walk.specs.declared.level.Aim.{Aim}
use Rattle.tree_walk.specs.declared.place.tally.Tally.{Tally}
use Rattle.tree_walk.specs.Index.{Index, page_in, fields_on, root_level, index_id, pages_at, places}
use Rattle.tree_walk.specs.Index.{children, reached, tree_pages, is_live_row, is_deleted_row}
use Rattle.tree_walk.specs.Segments.{leaf_segment, top_segment, named_segments}
use Rattle.space_audit.specs.Marks.{is_set, Marked}
use Rattle.space_audit.proofs.Audited.{head_size}
use Rattle.tree_walk.specs.Facts.{LevelFacts}
use Rattle.tree_walk.specs.Tree.{index_in}
use Rattle.tree_walk.specs.Ends.{lies_whole}
use Rattle.tree_walk.specs.Walk.{IsTop, IsAtLevel, IsLevel, IsTally, IsEndsOf, RowLiesWhole}
use Rattle.tree_walk.proofs.States.{TreeState}
use Rattle.tree_walk.proofs.Tallies.{tally_root}
use Rattle.tree_walk.specs.Place.{SpotAt}
use Rattle.tree_walk.specs.TreeChecks.{RootCheck, DepthCheck, LevelCheck, TreeChecks, root_spot}
use Rattle.tree_walk.proofs.Levels.{level_facts, fields_above, level_from, marked_join, pages_at_root, reached_root}
use Rattle.tree_walk.proofs.Levels.{reached_more}

same_spot : (verdict : Option Fault) (page page' : List ℕ) (fields fields' : Fields) (id id' root level level' : ℕ)
    → page' ≡ page → fields' ≡ fields → id' ≡ id → level' ≡ level
    → SpotAt page fields id (record {
      page = root;
      level = level;
      low = None;
      high = None;
      root = true;
      leftmost =
          true;
    }) fil_null fil_null verdict
    → SpotAt page' fields' id' (record {
      page = root;
      level = level';
      low = None;
      high = None;
      root = true;
      leftmost
          = true;
    }) fil_null fil_null verdict
same_spot verdict page page' fields fields' id id' root level level' a b c d x = rw (a, b, c, d) x

module _ (file : List ℕ) (tree : Tree) (fields : Fields) (page : List ℕ) (level id : ℕ)
    (p : page ≡ page_of file tree.root) (el : level ≡ num page 64 2) (ei : id ≡ num page 66 8)
    (ef : fields ≡ cond (level == 0) tree.leaf.now tree.node.now) where
  level_is : root_level (index_in file tree) ≡ level
  level_is = sym (el ∙ ap (λ pg. num pg 64 2) p)

  id_is : index_id (index_in file tree) ≡ id
  id_is = sym (ei ∙ ap (λ pg. num pg 66 8) p)

  pub spot_root : (verdict : Option Fault)
      → SpotAt page fields id (record {
        page = tree.root;
        level = level;
        low = None;
        high = None;
        root = true;
        leftmost =
            true;
      }) fil_null fil_null verdict
      → SpotAt (page_in (index_in file tree) tree.root)
      (fields_on (index_in file tree) (root_level (index_in file tree)))
      (index_id (index_in file tree))
      (root_spot (index_in file tree)) fil_null fil_null verdict
  spot_root verdict x =
      same_spot verdict page (page_of file tree.root) fields (fields_on (index_in file tree)
      (root_level (index_in file tree))) id (index_id (index_in file tree)) tree.root level
      (root_level (index_in file tree)) (sym p) (ap (λ l. cond (l == 0) tree.leaf.now tree.node.now) level_is ∙ sym ef)
      id_is level_is x

  pub top_of : (l t : ℕ) → l ≡ leaf_segment (index_in file tree) → t ≡ top_segment
      (index_in file tree)
      → (tally : Tally) → (level ≡ 0 → IsTally page fields tally) → IsTop (index_in file tree)
      (record { level = level; index_id = id; leaf = l; upper = t; tally = tally })
  top_of l t a b tally y = record {
    level = sym level_is;
    id = sym id_is;
    leaf = a;
    upper = b;
    tallied = λ z. subst (λ pg. IsTally pg tree.leaf.now tally) p
        (subst (λ fs. IsTally page fs tally)
        (ef ∙ ap (λ (b : Bool). cond b tree.leaf.now tree.node.now) (eq-eqb level 0 z))
        (y z));
  }

-- the tree's start
pub tree_first : (index : Index) (top : Top) (start names marks : List Bool) → IsTop index top → RootCheck index
    (is_set start) (is_set names) None
    → Marked (is_set start) marks (index.root ∷ []) → TreeState index top 0 start names marks
    (record { first = index.root; pages = 1; tally = top.tally })
tree_first index top start names marks t c m = record {
  is_top = t;
  checked = c;
  first = rw pages_at_root refl;
  pages = rw pages_at_root refl;
  tallied = λ z. let l = t.level in rw pages_at_root (tally_root index top.tally (t.tallied (omega arith)));
  marked = rw reached_root m;
  held = λ d h. absurd (omega arith);
}

-- the first fault of a tree's checks, once the root's hold
tree_halts : (index : Index) (taken named : ℕ → Bool) (marks : List Bool) (level depth : ℕ) (halt : Halt)
    → level ≡ root_level index - suc depth → depth < root_level index → RootCheck index taken named None → Marked
    taken marks (reached index depth)
    → ((d : ℕ) → d < depth → DepthCheck index taken d None)
    → HaltsAt halt (LevelCheck index level (is_set marks) [] (places index depth)) → HaltsAt halt
    (TreeChecks index taken named)
tree_halts index taken named marks level depth (Broken fault) e h r m held x =
    inr (
      r,
      (
        depth,
        h,
        held,
        rw (← e) (level_from index level taken marks (reached index depth) (places index depth)
            (Some fault) m x),
      ),
    )
tree_halts index taken named marks level depth Source e h r m held x = tt

module _ (index : Index) (top : Top) (depth : ℕ) (start names marks : List Bool) (row : Level)
    (t : TreeState index top depth start names marks row) where
  tree_facts : (space : SpaceView) → IsAuditOf index.file space → depth < top.level → LevelFacts index index.node depth
  tree_facts space a h =
      let l = t.is_top.level in
      let f = level_facts index (is_set start) (is_set names) (head_size index.file space a) depth (omega arith)
      t.checked t.held in
      let h : depth < root_level index = omega arith in
      subst (λ fs. LevelFacts index fs depth) (fields_above index depth h) f

  pub tree_at : (space : SpaceView) → IsAuditOf index.file space → depth < top.level → (tree : Tree)
      (level segment : ℕ) → segment ≡ cond (level == 0) top.leaf top.upper
      → IsAtLevel index (record {
        tree = tree;
        index_id = top.index_id;
        segment = segment;
        level = level;
        depth =
            depth;
      }) row
  tree_at space a h tree level segment e = record {
    facts = tree_facts space a h;
    is_aim = record {
      above = let l = t.is_top.level in omega arith;
      id = t.is_top.id;
      segment = rw
          (← t.is_top.leaf, ← t.is_top.upper) e;
    };
    leftmost = t.first;
    width = t.pages;
  }

  level_of : (level : ℕ) → level + depth + 1 ≡ top.level → level ≡ root_level index - suc depth
  level_of level e = let l = t.is_top.level in omega arith

  pub tree_more : (aim : Aim) (row' : Level) → IsLevel index aim row' → aim.depth ≡ depth
      → aim.level + depth + 1 ≡ top.level → (marks' : List Bool)
      → LevelCheck index aim.level (is_set marks) [] (places index aim.depth) None
      → Marked (is_set marks) marks' (children index (places index aim.depth))
      → TreeState index top (depth + 1) start names marks' row'
  tree_more aim row' x d e marks' c m = record {
    is_top = t.is_top;
    checked = t.checked;
    first = rw (← d) x.first;
    pages = rw (← d) x.pages;
    tallied = λ z. rw (← d) (x.tallied (let l = t.is_top.level in omega arith));
    marked = rw reached_more (marked_join (is_set start) marks marks' (reached index depth)
        (children index (places index depth)) t.marked (rw (← d) m));
    held = below_more (λ d. DepthCheck index (is_set start) d None) depth t.held
        (rw (← level_of aim.level e) (level_from index aim.level (is_set start) marks (reached index depth)
        (places index depth) None t.marked (rw (← d) c)));
  }

  pub tree_halts_at : (level : ℕ) → level + depth + 1 ≡ top.level → (halt : Halt)
      → HaltsAt halt (LevelCheck index level (is_set marks) [] (places index depth))
      → HaltsAt halt (TreeChecks index (is_set start) (is_set names))
  tree_halts_at level e halt x =
      let l = t.is_top.level in
      tree_halts index (is_set start) (is_set names) marks level depth halt (level_of level e) (omega arith)
      t.checked t.marked t.held x

  module _ (end : top.level ≤ depth) (near : depth ≤ top.level) where
    at_top : depth ≡ root_level index
    at_top = let l = t.is_top.level in omega arith

    pub tree_holds : TreeChecks index (is_set start) (is_set names) None
    tree_holds = (t.checked, λ d h. t.held d (let l = t.is_top.level in omega arith))

    pub tree_ends : (ends : TreeEnds) → ends.index_id ≡ top.index_id → ends.root_level ≡ top.level → ends.first_leaf
        ≡ row.first → ends.leaves ≡ row.pages → ends.leaf_segment ≡ top.leaf → ends.top_segment ≡ top.upper
        → ends.live ≡ row.tally.live → ends.deleted ≡ row.tally.deleted → lies_whole ends ≡ row.tally.whole
        → IsEndsOf index ends
    tree_ends ends a b c d e f l m w =
        let y = t.tallied at_top in
        record {
          id = a ∙ t.is_top.id;
          level = b ∙ t.is_top.level;
          first = c ∙ t.first ∙ ap (λ d. get_or (pages_at index d) 0 0) at_top;
          count = d ∙ t.pages ∙ ap (λ d. length (pages_at index d)) at_top;
          leaf = e ∙ t.is_top.leaf;
          top = f ∙ t.is_top.upper;
          live = l ∙ y.live ∙ ap (λ d. count_by (is_live_row index) (places index d)) at_top;
          deleted = m ∙ y.deleted ∙ ap (λ d. count_by (is_deleted_row index) (places index d)) at_top;
          whole = λ t. subst (λ d. All (RowLiesWhole index) (places index d)) at_top (y.whole (sym w ∙ t));
        }

    pub tree_marked : Marked (is_set start) marks (tree_pages index)
    tree_marked = rw (← at_top) t.marked

pub root_halts : (index : Index) (taken named : ℕ → Bool) (halt : Halt) → HaltsAt halt (RootCheck index taken named)
    → HaltsAt halt (TreeChecks index taken named)
root_halts index taken named (Broken fault) x = inl x
root_halts index taken named Source x = tt
