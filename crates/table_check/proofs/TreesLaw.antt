-- The checks of trees and segments find nothing exactly where the trees are sound.
use Rattle.std.proofs.Common.{◌≡◌, ◌↔◌, ℕ, zero, suc, ◌+◌, ◌<◌, ◌≤◌, Bool, true, false, List, [], ◌∷◌, ◌++◌}
use Rattle.std.proofs.Common.{length, take}
use Rattle.std.proofs.Common.{flat_map, Contains, None, refl, sym, ◌∙◌, subst, inl, inr, arith}
use Rattle.std.proofs.lemmas.List.{length-take-le}
use Rattle.std.specs.List.{range_with_len}
use Rattle.std.proofs.lemmas.Bool.{cases_lt}
use Rattle.page_source.specs.Lists.{times_in}
use Rattle.page_source.proofs.Times.{times_flat_map, sum_by_same, times_none}
use Rattle.page_source.proofs.Members.{contains_none, contains_cases, contains_flat_map, range_contains}
use Rattle.column_values.specs.Types.{AreOfOneIndex}
use Rattle.space_header.specs.declared.address.Address.{Address}
use Rattle.inode_segments.specs.Inodes.{segments, segment_count}
use Rattle.schema_text.specs.TableDef.{TableDef}
use Rattle.schema_text.specs.Laws.{ListsAreOfOneIndex}
use Rattle.space_audit.specs.Marks.{is_in}
use Rattle.tree_walk.specs.Index.{Index, tree_pages, root_level}
use Rattle.tree_walk.specs.Segments.{NamesSegments, named_segments, leaf_segment, top_segment}
use Rattle.tree_walk.specs.Descent.{pages_under, pages_by_descent, children_at}
use Rattle.tree_walk.specs.Laws.{IsWhole, ChecksAreWholeness, LevelsHaveThePages}
use Rattle.table_check.specs.Trees.{index_in, index_count, pages_of_trees, segments_of_trees, AllTreeChecks}
use Rattle.table_check.specs.Trees.{NamedChecks}
use Rattle.table_check.specs.First.{TableTreeChecks}
use Rattle.table_check.specs.Valid.{HasWholeTree, HasTrees, pages_of_descents}
use Rattle.table_check.proofs.RecordSteps.{flat_map_more}
use Rattle.table_check.proofs.NewPages.{AreNew, first_in, two_new, are_two, all_new, each_new, is_in_some, some_in}

-- an address that is never looked at
no_address : Address
no_address = record { page = 0; offset = 0 }

-- the laws of the crates below
pub record HasTreeLaws : Type 0 where
  pub lists : ListsAreOfOneIndex
  pub checks : ChecksAreWholeness
  pub levels : LevelsHaveThePages

-- nothing was taken before the first tree
abbrev pub none_taken : ℕ → Bool
none_taken n = false

-- a tree that is whole by itself, whose pages are new, and whose segments are
pub record IsNewTree (index : Index) (taken named : ℕ → Bool) : Type 0 where
  pub whole : HasWholeTree index
  pub pages : AreNew taken (tree_pages index)
  pub segments : AreNew named (named_segments index)

-- the root is a page of its tree
root_in : (index : Index) (level n : ℕ) → 1 ≤ times_in (pages_under index level n) n
unfolding pages_under
root_in index zero n = first_in n []
root_in index (suc level) n = first_in n (flat_map (pages_under index level) (children_at index n))

-- a tree is whole behind others exactly where it is whole by itself and new
module _ (levels : LevelsHaveThePages) (index : Index) (taken named : ℕ → Bool) where
  -- a tree that is whole behind others is whole by itself, and its pages and segments are new
  new_tree : IsWhole index taken named → IsNewTree index taken named
  new_tree w = record {
    whole = record {
      root = record { page = w.root.page; new = refl };
      segments = record {
        names = w.segments.names;
        leaf_new = refl;
        top_new = refl;
        owner = w.segments.owner;
      };
      tree = w.tree;
      own = w.own;
      siblings = w.siblings;
      once = w.once;
      fresh = λ n s. refl;
    };
    pages = record {
      once = λ n. subst (λ (k : ℕ). k ≤ 1) (sym (levels index n)) (w.once n);
      fresh = λ n s. w.fresh n (subst (λ (k : ℕ). 1 ≤ k) (levels index n) s);
    };
    segments = two_new named (leaf_segment index) (top_segment index) w.segments.names.differ w.segments.leaf_new
        w.segments.top_new;
  }

  -- a page of the descent is one of a level, so that it is new
  fresh_page : IsNewTree index taken named → (n : ℕ) → 1 ≤ times_in (pages_by_descent index) n → taken n ≡ false
  fresh_page t n s = t.pages.fresh n (subst (λ (k : ℕ). 1 ≤ k) (sym (levels index n)) s)

  -- and back
  whole_tree : IsNewTree index taken named → IsWhole index taken named
  whole_tree t =
      let w = t.whole in
      let two = are_two named (leaf_segment index) (top_segment index) t.segments in
      record {
        root = record {
          page = w.root.page;
          new = fresh_page t index.root (root_in index (root_level index) index.root);
        };
        segments = record {
          names = w.segments.names;
          leaf_new = two.first;
          top_new = two.second;
          owner = w.segments.owner;
        };
        tree = w.tree;
        own = w.own;
        siblings = w.siblings;
        once = w.once;
        fresh = fresh_page t;
      }

-- each page comes as often over all levels of all trees as over all descents
pub pages_same : LevelsHaveThePages → (file : List ℕ) (table : TableDef) (n : ℕ)
    → times_in (pages_of_trees file table (index_count table)) n ≡ times_in (pages_of_descents file table) n
unfolding pages_of_trees pages_of_descents
pages_same levels file table n =
    let trees = range_with_len 0 (index_count table) in
    times_flat_map (λ i. tree_pages (index_in file table i)) trees n
    ∙ (sum_by_same _ _ (λ i. levels (index_in file table i) n) trees
    ∙ sym (times_flat_map (λ i. pages_by_descent (index_in file table i)) trees n))

module _ (laws : HasTreeLaws) (file : List ℕ) (table : TableDef) where
  -- the two field lists of an index belong together
  of_one_index : (j : ℕ) → AreOfOneIndex (index_in file table j).leaf (index_in file table j).node
  unfolding index_in
  of_one_index j = laws.lists table j

  -- and its file is this one
  file_is : (j : ℕ) → (index_in file table j).file ≡ file
  unfolding index_in
  file_is j = refl

  -- the pages of one more tree
  more_pages : (k : ℕ) → pages_of_trees file table (k + 1)
      ≡ pages_of_trees file table k ++ tree_pages (index_in file table k)
  unfolding pages_of_trees
  more_pages k = flat_map_more (λ i. tree_pages (index_in file table i)) k

  -- and its segments
  more_segments : (k : ℕ) → segments_of_trees file table (k + 1)
      ≡ segments_of_trees file table k ++ named_segments (index_in file table k)
  unfolding segments_of_trees
  more_segments k = flat_map_more (λ i. named_segments (index_in file table i)) k

  -- no tree has no pages, and names no segments
  no_pages : pages_of_trees file table 0 ≡ []
  unfolding pages_of_trees
  no_pages = refl

  no_segments : segments_of_trees file table 0 ≡ []
  unfolding segments_of_trees
  no_segments = refl

  -- each tree is new behind the ones before it
  abbrev pub IsNewAt : ℕ → Type 0
  IsNewAt j = IsNewTree (index_in file table j) (is_in (pages_of_trees file table j))
      (is_in (segments_of_trees file table j))

  -- so it is where the checks of all trees hold
  new_at : AllTreeChecks file table None → (j : ℕ) → j < index_count table → IsNewAt j
  new_at c j h =
      new_tree laws.levels (index_in file table j) (is_in (pages_of_trees file table j))
      (is_in (segments_of_trees file table j))
      ((laws.checks (index_in file table j) (is_in (pages_of_trees file table j))
      (is_in (segments_of_trees file table j)) (of_one_index j)).0 (c j h))

  -- and where it is, they hold
  checked_at : ((j : ℕ) → j < index_count table → IsNewAt j) → AllTreeChecks file table None
  checked_at each j h =
      (laws.checks (index_in file table j) (is_in (pages_of_trees file table j))
      (is_in (segments_of_trees file table j)) (of_one_index j)).1
      (whole_tree laws.levels (index_in file table j) (is_in (pages_of_trees file table j))
      (is_in (segments_of_trees file table j)) (each j h))

  -- over all trees no page comes twice
  pages_new : ((j : ℕ) → j < index_count table → IsNewAt j)
      → AreNew none_taken (pages_of_trees file table (index_count table))
  pages_new each =
      all_new none_taken (pages_of_trees file table) (λ j. tree_pages (index_in file table j)) (index_count table)
      no_pages (λ k h. more_pages k) (λ k h. (each k h).pages)

  -- and over all trees no segment is named twice
  segments_new : ((j : ℕ) → j < index_count table → IsNewAt j)
      → AreNew none_taken (segments_of_trees file table (index_count table))
  segments_new each =
      all_new none_taken (segments_of_trees file table) (λ j. named_segments (index_in file table j))
      (index_count table) no_segments (λ k h. more_segments k) (λ k h. (each k h).segments)

  -- each segment is named once
  named_once : ((j : ℕ) → j < index_count table → IsNewAt j) → NamedChecks file table None → (segment : ℕ)
      → segment < segment_count file → times_in (segments_of_trees file table (index_count table)) segment ≡ 1
  named_once each checks segment h =
      let all = segments_of_trees file table (index_count table) in
      let e : length (take segment (segments file)) ≡ segment =
      length-take-le segment (segments file) (omega arith) in
      let is : is_in all segment ≡ true =
      subst (λ (s : ℕ). is_in all s ≡ true) e (checks segment no_address h) in
      let some = some_in all segment is in
      let once = (segments_new each).once segment in
      omega arith

  -- where the checks of trees and segments hold, the trees are sound
  pub has_trees : TableTreeChecks file table None → HasTrees file table
  has_trees c =
      let each = new_at c.0 in
      record {
        whole = λ j h. (each j h).whole;
        once = λ n. subst (λ (k : ℕ). k ≤ 1) (pages_same laws.levels file table n) ((pages_new each).once n);
        named = named_once each c.1;
      }

  -- and back
  module _ (trees : HasTrees file table) where
    -- each index has a whole tree, so it names segments of this space
    names : (j : ℕ) → j < index_count table → NamesSegments (index_in file table j)
    names j h = (trees.whole j h).segments.names

    -- a segment that a root names is one of this space
    is_known : (j n : ℕ) → j < index_count table → Contains (named_segments (index_in file table j)) n
        → n < segment_count file
    is_known j n h c =
        let index = index_in file table j in
        let known = names j h in
        let leaf_below = subst (λ (f : List ℕ). leaf_segment index < segment_count f) (file_is j) known.leaf_known in
        let top_below = subst (λ (f : List ℕ). top_segment index < segment_count f) (file_is j) known.top_known in
        elim (contains_cases (leaf_segment index) (top_segment index ∷ []) n c) [
          | inl e ↦ subst (λ (s : ℕ). s < segment_count file) e leaf_below
          | inr k ↦ elim (contains_cases (top_segment index) [] n k) [
            | inl e ↦ subst (λ (s : ℕ). s < segment_count file) e top_below
            | inr m ↦ absurd (contains_none n m)
          ]
        ]

    -- so nothing beyond the segments of this space is named
    none_beyond : (n : ℕ) → segment_count file ≤ n
        → times_in (segments_of_trees file table (index_count table)) n ≡ 0
    unfolding segments_of_trees
    none_beyond n l =
        times_none (segments_of_trees file table (index_count table)) n (λ c.
        let p = contains_flat_map (λ i. named_segments (index_in file table i)) (range_with_len 0 (index_count table)) n
        c in
        let known = is_known p.piece n (range_contains (index_count table) p.piece p.among) p.member in
        absurd (omega arith))

    -- no segment is named twice over all trees
    all_segments : AreNew none_taken (segments_of_trees file table (index_count table))
    all_segments = record {
      once = λ n. elim (cases_lt n (segment_count file)) [
        | inl less ↦ let e = trees.named n less in omega arith
        | inr more ↦ let e = none_beyond n more in omega arith
      ];
      fresh = λ n s. refl;
    }

    -- and no page comes twice
    pub all_pages : AreNew none_taken (pages_of_trees file table (index_count table))
    all_pages = record {
      once = λ n. subst (λ (k : ℕ). k ≤ 1) (sym (pages_same laws.levels file table n)) (trees.once n);
      fresh = λ n s. refl;
    }

    -- so each tree is new behind the ones before it
    is_new : (j : ℕ) → j < index_count table → IsNewAt j
    is_new j h = record {
      whole = trees.whole j h;
      pages = each_new none_taken (pages_of_trees file table) (λ j. tree_pages (index_in file table j))
          (index_count table) no_pages (λ k h. more_pages k) all_pages j h;
      segments = each_new none_taken (segments_of_trees file table) (λ j. named_segments (index_in file table j))
          (index_count table) no_segments (λ k h. more_segments k) all_segments j h;
    }

    -- each segment is named
    all_named : NamedChecks file table None
    all_named j d h =
        let all = segments_of_trees file table (index_count table) in
        let e : length (take j (segments file)) ≡ j = length-take-le j (segments file) (omega arith) in
        let once = trees.named j h in
        let some : 1 ≤ times_in all j = omega arith in
        subst (λ (s : ℕ). is_in all s ≡ true) (sym e) (is_in_some all j some)

    -- where the trees are sound, their checks hold
    pub tree_checks : TableTreeChecks file table None
    tree_checks = (checked_at is_new, all_named)

-- so they find nothing exactly there
pub tree_checks_are_trees : HasTreeLaws → (file : List ℕ) (table : TableDef)
    → TableTreeChecks file table None ↔ HasTrees file table
tree_checks_are_trees laws file table = (has_trees laws file table, tree_checks laws file table)
