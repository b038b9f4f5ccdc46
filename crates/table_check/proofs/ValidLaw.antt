-- A file passes all checks exactly where it is valid, and what is known of a valid file.
use Rattle.std.proofs.Common.{◌≡◌, ◌↔◌, ℕ, ◌<◌, ◌≤◌, List, ◌++◌, length, map}
use Rattle.std.proofs.Common.{get_or, None, refl, sym, ◌∙◌, arith}
use Rattle.std.specs.List.{range_with_len, filter}
use Rattle.std.proofs.lemmas.List.FromFn.{get_or-map-range_with_len}
use Rattle.page_source.specs.Lists.{times_in}
use Rattle.page_source.specs.Pages.{page_of}
use Rattle.fil_frame.specs.Frame.{kind_of, space_of}
use Rattle.space_header.specs.Header.{size_of, limit_of}
use Rattle.extent_map.specs.Extents.{is_used, IsUsed}
use Rattle.extent_map.proofs.Used.{used_below}
use Rattle.inode_segments.specs.Inodes.{segments}
use Rattle.space_audit.specs.Owners.{owner_of}
use Rattle.space_audit.specs.Audit.{AuditChecks}
use Rattle.space_audit.specs.Laws.{AuditIsSoundness}
use Rattle.space_audit.specs.Marks.{is_in}
use Rattle.space_audit.specs.Space.{SpaceView, IsAuditOf}
use Rattle.schema_text.specs.Formats.{flags_of}
use Rattle.schema_text.specs.TableDef.{TableDef}
use Rattle.tree_walk.specs.Leaf.{IsWalked}
use Rattle.tree_walk.specs.Laws.{LevelsHaveThePages}
use Rattle.table_check.specs.Trees.{index_in, index_count, clustered_tree, all_tree_pages, pages_of_trees}
use Rattle.table_check.specs.Trees.{segments_of_trees}
use Rattle.table_check.specs.Values.{all_chain_pages}
use Rattle.table_check.specs.First.{TableValueChecks, ValueChecksOf, First}
use Rattle.table_check.specs.Valid.{HasTrees, HasValues, HasOnlyLeftOvers, IsValid, pages_of_descents}
use Rattle.table_check.specs.Laws.{TreeChecksAreTrees, ValueChecksAreValues}
use Rattle.table_check.proofs.NewPages.{AreNew, joined, parted, is_in_none, none_in}
use Rattle.table_check.proofs.TreesLaw.{none_taken, pages_same}
use Rattle.table_check.proofs.ValuesLaw.{HasChainLaws, rows_sound, rows_new, rows_checks}

-- lists in which each number comes as often have the same new numbers behind them
behind_same : (before after list : List ℕ) → ((n : ℕ) → times_in before n ≡ times_in after n)
    → AreNew (is_in before) list → AreNew (is_in after) list
behind_same before after list same h = record {
  once = h.once;
  fresh = λ n s. is_in_none after n (sym (same n) ∙ none_in before n (h.fresh n s));
}

module _ (laws : HasChainLaws) (levels : LevelsHaveThePages) (file : List ℕ) (table : TableDef)
    (size : size_of file ≤ 4194304) (trees : HasTrees file table) where
  -- the pages of all trees by descent
  abbrev tree_list : List ℕ
  tree_list = pages_of_descents file table

  -- and those of all values
  abbrev value_list : List ℕ
  value_list = all_chain_pages (clustered_tree file table)

  -- the size of the file of the clustered tree
  size_is : size_of (clustered_tree file table).file ≤ 4194304
  unfolding index_in
  size_is = size

  -- where the checks of values hold, each value is sound, and no page comes twice
  sound_values : ValueChecksOf file table None → HasValues file table
  sound_values c =
      let index = clustered_tree file table in
      let new = behind_same (all_tree_pages file table) tree_list value_list (pages_same levels file table)
      (rows_new laws index size_is (is_in (all_tree_pages file table)) c) in
      record {
        rows = rows_sound laws index size_is (is_in (all_tree_pages file table)) c;
        once = (joined none_taken tree_list value_list (record { once = trees.once; fresh = λ n s. refl }) new).once;
      }

  -- and back
  checked_values : HasValues file table → ValueChecksOf file table None
  checked_values v =
      let index = clustered_tree file table in
      let all : AreNew none_taken (tree_list ++ value_list) = record { once = v.once; fresh = λ n s. refl } in
      rows_checks laws index size_is (is_in (all_tree_pages file table)) v.rows
      (behind_same tree_list (all_tree_pages file table) value_list (λ n. sym (pages_same levels file table n))
      (parted none_taken tree_list value_list all).second)

  -- the checks of values and of other pages find nothing exactly where those are sound
  pub value_checks_are_values : TableValueChecks file table None
      ↔ (HasValues file table × HasOnlyLeftOvers file table)
  value_checks_are_values = (λ c. (sound_values c.0, c.1), λ v. (checked_values v.0, v.1))

-- the laws of the parts of all checks
module _ (audit : AuditIsSoundness) (trees : TreeChecksAreTrees) (values : ValueChecksAreValues) (file : List ℕ)
    (table : TableDef) where
  -- a file in which all checks find nothing is valid
  pub valid : First file table None → IsValid file table
  unfolding First
  valid c =
      let space = (audit file (flags_of table.format)).0 c.0 in
      let sound = (trees file table).0 c.1.0 in
      let rest = (values file table space sound).0 c.1.1 in
      record { space = space; trees = sound; values = rest.0; rest = rest.1 }

  -- and in a valid file they find nothing
  pub checked : IsValid file table → First file table None
  unfolding First
  checked v = (
    (audit file (flags_of table.format)).1 v.space,
    (
      (trees file table).1 v.trees,
      (values file table v.space v.trees).1 (v.values, v.rest),
    ),
  )

-- what an audit knows of a sound space
space_in : List ℕ → SpaceView
space_in file = record {
  size = size_of file;
  id = space_of (page_of file 0);
  owners = map (owner_of file) (range_with_len 0 (size_of file));
  kinds = map (λ n. kind_of (page_of file n)) (range_with_len 0 (limit_of file));
  used = length (filter (is_used file) (range_with_len 0 (size_of file)));
  segments = segments file;
}

-- the type of a used page is known by its number
kind_known : (file : List ℕ) (n : ℕ) → IsUsed file n
    → get_or (map (λ m. kind_of (page_of file m)) (range_with_len 0 (limit_of file))) n 0 ≡ kind_of (page_of file n)
kind_known file n used =
    get_or-map-range_with_len (λ m. kind_of (page_of file m)) 0 (limit_of file) n n 0 (used_below file n used)
    (omega arith)

-- where the audit finds nothing, this is what it knows
audit_of : (file : List ℕ) (flags : ℕ) → AuditChecks file flags None → IsAuditOf file (space_in file)
unfolding space_in
audit_of file flags sound = record {
  flags = flags;
  sound = sound;
  has_size = refl;
  has_id = refl;
  has_owners = refl;
  has_kinds = kind_known file;
  has_used = refl;
  has_segments = refl;
}

-- each tree of a valid file is a walked one
module _ (audit : AuditIsSoundness) (trees : TreeChecksAreTrees) (file : List ℕ) (table : TableDef)
    (v : IsValid file table) (j : ℕ) (below : j < index_count table) where
  -- a valid file is audited
  audited : IsAuditOf (index_in file table j).file (space_in file)
  unfolding index_in
  audited = audit_of file (flags_of table.format) ((audit file (flags_of table.format)).1 v.space)

  -- and its trees are walked
  pub is_walked : IsWalked (index_in file table j)
  is_walked = record {
    space = space_in file;
    audit = audited;
    taken = is_in (pages_of_trees file table j);
    named = is_in (segments_of_trees file table j);
    holds = ((trees file table).1 v.trees).0 j below;
  }
