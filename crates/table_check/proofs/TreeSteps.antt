-- The trees of a table, one after another.
use Rattle.std.proofs.Common.{◌≡◌, ℕ, zero, suc, ◌+◌, ◌<◌, Bool, true, false, cond, List, [], ◌∷◌, ◌++◌, length}
use Rattle.std.proofs.Common.{get_or, replicate, map, Option, Some, None, refl, sym, ap}
use Rattle.std.proofs.Common.{◌∙◌, subst, inl, inr, arith}
use Rattle.std.specs.List.{range_with_len}
use Rattle.std.proofs.Math.Path.{fun_ext}
use Rattle.std.proofs.lemmas.Bool.{cases_lt}
use Rattle.std.proofs.lemmas.List.{get_or_default, get_or_append_left, get_or_at, length-append}
use Rattle.std.proofs.lemmas.List.Sums.{sum_by-append}
use Rattle.page_source.specs.declared.rule.Fault.{Fault}
use Rattle.page_source.specs.declared.checks.Halt.{Halt}
use Rattle.page_source.specs.declared.checks.Halt.TheVariants.{Broken, Source}
use Rattle.std.proofs.lemmas.List.{map-append}
use Rattle.page_source.specs.declared.checks.Stop.{Stop}
use Rattle.page_source.specs.declared.checks.Stop.TheVariants as stops
use Rattle.page_source.specs.Verdict.{AllBelow, Each, EachOf}
use Rattle.space_header.specs.declared.address.Address.{Address}
use Rattle.inode_segments.specs.Inodes.{segments}
use Rattle.tree_walk.specs.declared.ends.TreeEnds.{TreeEnds}
use Rattle.tree_walk.specs.Leaf.{IsWalked}
use Rattle.tree_walk.specs.Walk.{IsEndsOf}
use Rattle.page_source.specs.Checks.{HaltsAt, Stops, stop_of}
use Rattle.page_source.proofs.Lists.{range_next}
use Rattle.column_values.specs.Types.{Fields}
use Rattle.schema_text.specs.declared.table.IndexDef.{IndexDef}
use Rattle.schema_text.specs.TableDef.{TableDef, index_at}
use Rattle.schema_text.specs.IndexFields.{leaf_fields, node_fields}
use Rattle.space_audit.specs.Marks.{is_in, is_set, Marked}
use Rattle.tree_walk.specs.Index.{Index, index_of, tree_pages}
use Rattle.tree_walk.specs.Segments.{named_segments, leaf_segment}
use Rattle.tree_walk.specs.TreeChecks.{TreeChecks}
use Rattle.tree_walk.proofs.Levels.{is_in-append}
use Rattle.table_check.specs.First.{ValueChecksOf}
use Rattle.table_check.specs.Values.{RowChecks}
use Rattle.table_check.specs.Trees.{clustered_tree, all_tree_pages, index_in, index_count, IndexCheck, NamedCheck}
use Rattle.table_check.specs.Trees.{NamedChecks, pages_of_trees, segments_of_trees, leaf_segments_of}
use Rattle.table_check.specs.declared.trees.Taken.{Taken}
use Rattle.table_check.specs.Taken.{AreExactly, AreTaken, AreWalked, AreEnds, leaves_of}
use Rattle.table_check.proofs.RecordSteps.{flat_map_more, below_more}

-- more numbers were marked
pub exactly_more : (old new : List Bool) (list more : List ℕ) → AreExactly old list → Marked (is_set old) new more
    → AreExactly new (list ++ more)
exactly_more old new list more a b n =
    b n ∙ ap (λ (s : Bool). cond s true (is_in more n)) (a n) ∙ sym (is_in-append list more n)

module _ (file : List ℕ) (table : TableDef) (j : ℕ) {leaf node : Fields} {indexes : List IndexDef} (d : IndexDef)
    (within : j < length table.indexes) (all : indexes ≡ table.indexes)
    (is_leaf : leaf ≡ leaf_fields table j) (is_node : node ≡ node_fields table j) where
  -- the index that is walked
  root_is : (get_or indexes j d).root ≡ (index_at table j).root
  root_is =
      ap (λ (i : IndexDef). i.root)
      (ap (λ (list : List IndexDef). get_or list j d) all ∙ get_or_default table.indexes j d _ within)

  pub index_is : index_of file (get_or indexes j d).root leaf node ≡ index_in file table j
  unfolding index_in
  index_is =
      ap (λ (r : ℕ). index_of file r leaf node) root_is
      ∙ ap (λ (f : Fields). index_of file (index_at table j).root f node) is_leaf
      ∙ ap (index_of file (index_at table j).root (leaf_fields table j)) is_node

  pub tree_checked : {before : Taken} → AreTaken file table j before → (v : Option Fault)
      → TreeChecks (index_of file (get_or indexes j d).root leaf node) (is_set before.pages) (is_set before.segments) v
      → IndexCheck file table j v
  tree_checked {before = before} are v check =
      subst (λ (t : ℕ → Bool). TreeChecks (index_in file table j) t (is_in (segments_of_trees file table j)) v)
      (fun_ext are.pages)
      (subst (λ (t : ℕ → Bool). TreeChecks (index_in file table j) (is_set before.pages) t v) (fun_ext are.segments)
      (subst (λ (i : Index). TreeChecks i (is_set before.pages) (is_set before.segments) v) index_is check))

  pub tree_halts : {before : Taken} → AreTaken file table j before → (halt : Halt)
      → HaltsAt halt (TreeChecks (index_of file (get_or indexes j d).root leaf node) (is_set before.pages)
      (is_set before.segments))
      → Stops (stop_of halt) (IndexCheck file table j)
  tree_halts are (Broken fault) at = tree_checked are (Some fault) at
  tree_halts are Source at = tt

  -- and what it takes
  pub tree_taken : {before : Taken} (after : Taken) → AreTaken file table j before
      → Marked (is_set before.pages) after.pages (tree_pages (index_of file (get_or indexes j d).root leaf node))
      → Marked (is_set before.segments) after.segments
      (named_segments (index_of file (get_or indexes j d).root leaf node))
      → AreTaken file table (j + 1) after
  unfolding pages_of_trees segments_of_trees
  tree_taken {before = before} after are pages segments =
      let page_list = subst (λ (i : Index). Marked (is_set before.pages) after.pages (tree_pages i)) index_is pages in
      let segment_list = subst (λ (i : Index). Marked (is_set before.segments) after.segments (named_segments i))
      index_is segments in
      record {
        pages = subst (AreExactly after.pages) (sym (flat_map_more (λ i. tree_pages (index_in file table i)) j))
            (exactly_more before.pages after.pages (pages_of_trees file table j) (tree_pages
            (index_in file table j)) are.pages page_list);
        segments = subst (AreExactly after.segments)
            (sym (flat_map_more (λ i. named_segments (index_in file table i)) j))
            (exactly_more before.segments after.segments (segments_of_trees file table j)
            (named_segments (index_in file table j)) are.segments segment_list);
      }

-- a check that stops behind others that hold
pub each_stops : (count i : ℕ) (check : ℕ → Option Fault → Type 0) (stop : Stop) → i < count → AllBelow check i
    → Stops stop (check i) → Stops stop (Each count check)
each_stops count i check (stops.Broken fault) within before here = (i, within, before, here)
each_stops count i check stops.Source within before here = tt
each_stops count i check stops.Memory within before here = tt

module _ (file : List ℕ) (table : TableDef) where
  leaves_more : (j : ℕ) → leaf_segments_of file table (j + 1)
      ≡ leaf_segments_of file table j ++ leaf_segment (index_in file table j) ∷ []
  unfolding leaf_segments_of
  leaves_more j =
      let f = λ (i : ℕ). leaf_segment (index_in file table i) in
      let e : 0 + j ≡ j = omega arith in
      ap (map f) (range_next 0 j ∙ ap (λ (x : ℕ). range_with_len 0 j ++ x ∷ []) e)
      ∙ map-append f (range_with_len 0 j) (j ∷ [])

  pub leaf_added : (j : ℕ) (leaves now : List ℕ) (ends : TreeEnds) → leaves ≡ leaf_segments_of file table j
      → IsEndsOf (index_in file table j) ends → now ≡ leaves ++ ends.leaf_segment ∷ []
      → now ≡ leaf_segments_of file table (j + 1)
  leaf_added j leaves now ends before is added =
      added ∙ ap (λ (list : List ℕ). list ++ ends.leaf_segment ∷ []) before
      ∙ ap (λ (x : ℕ). leaf_segments_of file table j ++ x ∷ []) is.leaf ∙ sym (leaves_more j)

  -- the first tree was walked
  pub walked_first : (after : Taken) (ends : TreeEnds) (leaves now : List ℕ) → leaves ≡ []
      → now ≡ leaves ++ ends.leaf_segment ∷ [] → IndexCheck file table 0 None → AreTaken file table 1 after
      → IsWalked (index_in file table 0) → IsEndsOf (index_in file table 0) ends
      → AreWalked file table 1 after ends now
  unfolding leaf_segments_of
  walked_first after ends leaves now none added check taken walked is = record {
    are_taken = taken;
    held = below_more (IndexCheck file table) 0 (λ j below. absurd (omega (arith, below))) check;
    has_clustered = record { walked = walked; has_ends = is };
    has_leaves = leaf_added 0 leaves now ends none is added;
  }

  -- one more tree was walked
  pub walked_more : (j : ℕ) (before after : Taken) (clustered ends : TreeEnds) (leaves now : List ℕ)
      → AreWalked file table j before clustered leaves → IndexCheck file table j None
      → AreTaken file table (j + 1) after → IsEndsOf (index_in file table j) ends
      → now ≡ leaves ++ ends.leaf_segment ∷ [] → AreWalked file table (j + 1) after clustered now
  walked_more j before after clustered ends leaves now are check taken is added = record {
    are_taken = taken;
    held = below_more (IndexCheck file table) j are.held check;
    has_clustered = are.has_clustered;
    has_leaves = leaf_added j leaves now ends are.has_leaves is added;
  }

-- the ends of one more tree
module _ (file : List ℕ) (table : TableDef) where
  pub ends_none : AreEnds file table 0 []
  ends_none = record {
    count = refl;
    walked = λ i below. absurd (omega (arith, below));
    each = λ i d below. absurd (omega (arith, below));
  }

  pub ends_more : (j : ℕ) (before now : List TreeEnds) (ends : TreeEnds) → AreEnds file table j before
      → now ≡ before ++ ends ∷ [] → IsWalked (index_in file table j) → IsEndsOf (index_in file table j) ends
      → AreEnds file table (j + 1) now
  ends_more j before now ends are grown walked is = record {
    count = ap length grown ∙ length-append before (ends ∷ []) ∙ ap (λ (n : ℕ). n + 1) are.count;
    walked = λ i below. elim (cases_lt i j) [
      | inl less ↦ are.walked i less
      | inr last ↦ let e : j ≡ i = omega arith in subst (λ (k : ℕ). IsWalked (index_in file table k)) e walked
    ];
    each = λ i d below. elim (cases_lt i j) [
      | inl less ↦
          let at : get_or now i d ≡ get_or before i d =
          ap (λ (list : List TreeEnds). get_or list i d) grown
          ∙ get_or_append_left before (ends ∷ []) d i (omega (arith, less, are.count)) in
          subst (IsEndsOf (index_in file table i)) (sym at) (are.each i d less)
      | inr last ↦
          let e : j ≡ i = omega arith in
          let at : get_or now i d ≡ ends =
          ap (λ (list : List TreeEnds). get_or list i d) grown ∙ get_or_at before ends [] d i (are.count ∙ e) in
          subst (IsEndsOf (index_in file table i)) (sym at)
          (subst (λ (k : ℕ). IsEndsOf (index_in file table k) ends) e is)
    ];
  }

-- and its leaves
pub tree_leaves_more : (before now : List TreeEnds) (ends : TreeEnds) → now ≡ before ++ ends ∷ []
    → leaves_of now ≡ leaves_of before + ends.leaves
tree_leaves_more before now ends grown =
    ap leaves_of grown ∙ sum_by-append (λ (e : TreeEnds). e.leaves) before (ends ∷ []) ∙ omega arith

-- no number is marked of so many
none_marked_yet : (size n : ℕ) → is_set (replicate size false) n ≡ false
none_marked_yet zero n = refl
none_marked_yet (suc size) zero = refl
none_marked_yet (suc size) (suc n) = none_marked_yet size n

module _ (file : List ℕ) (table : TableDef) where
  pub none_taken : (taken : Taken) (size count : ℕ) → taken.pages ≡ replicate size false
      → taken.segments ≡ replicate count false → AreTaken file table 0 taken
  unfolding pages_of_trees segments_of_trees
  none_taken taken size count p s = record {
    pages = λ n. ap (λ (list : List Bool). is_set list n) p ∙ none_marked_yet size n;
    segments = λ n. ap (λ (list : List Bool). is_set list n) s ∙ none_marked_yet count n;
  }

  -- the segments that are named, by the marks
  pub named_checked : (named : List Bool) (places : List Address) → places ≡ segments file
      → AreExactly named (segments_of_trees file table (index_count table)) → (v : Option Fault)
      → EachOf places (NamedCheck (λ segment. is_set named segment ≡ true)) v → NamedChecks file table v
  named_checked named places all exactly v check =
      subst (λ (f : ℕ → Bool). EachOf (segments file) (NamedCheck (λ segment. f segment ≡ true)) v) (fun_ext exactly)
      (subst (λ (list : List Address). EachOf list (NamedCheck (λ segment. is_set named segment ≡ true)) v) all check)

  -- the checks of the rows, behind the pages of all trees
  pub values_checked : (marks : List Bool) → AreExactly marks (all_tree_pages file table) → (v : Option Fault)
      → RowChecks (clustered_tree file table) (is_set marks) v → ValueChecksOf file table v
  values_checked marks exactly v check =
      subst (λ (f : ℕ → Bool). RowChecks (clustered_tree file table) f v) (fun_ext exactly) check

  pub values_stop : (marks : List Bool) → AreExactly marks (all_tree_pages file table) → (halt : Halt)
      → HaltsAt halt (RowChecks (clustered_tree file table) (is_set marks)) → Stops (stop_of halt)
      (ValueChecksOf file table)
  values_stop marks exactly (Broken fault) at = values_checked marks exactly (Some fault) at
  values_stop marks exactly Source at = tt
