-- The trees of a table, and the segments that no root names.
use Rattle.std.specs.Prelude.{◌≡◌, ℕ, List, length, flat_map, map, true, Option}
use Rattle.std.specs.List.{range_with_len}
use Rattle.page_source.specs.declared.rule.Rule.TheVariants.{SegmentUnnamed}
use Rattle.page_source.specs.declared.rule.Fault.{Fault}
use Rattle.page_source.specs.Verdict.{Each, EachOf}
use Rattle.page_source.specs.Answers.{Holds}
use Rattle.space_header.specs.declared.address.Address.{Address}
use Rattle.inode_segments.specs.Inodes.{segments}
use Rattle.schema_text.specs.TableDef.{TableDef, index_at}
use Rattle.schema_text.specs.IndexFields.{leaf_fields, node_fields}
use Rattle.space_audit.specs.Marks.{is_in}
use Rattle.tree_walk.specs.Index.{Index, index_of, tree_pages}
use Rattle.tree_walk.specs.Segments.{named_segments, leaf_segment}
use Rattle.tree_walk.specs.TreeChecks.{TreeChecks}

-- index j of the table in a file
unfoldable pub index_in : List ℕ → TableDef → ℕ → Index
index_in file table j = index_of file (index_at table j).root (leaf_fields table j) (node_fields table j)

-- the clustered index
abbrev pub clustered_tree : List ℕ → TableDef → Index
clustered_tree file table = index_in file table 0

abbrev pub index_count : TableDef → ℕ
index_count table = length table.indexes

-- the pages of the first j trees, the segments that they name, and those of their leaves
unfoldable pub pages_of_trees : List ℕ → TableDef → ℕ → List ℕ
pages_of_trees file table j = flat_map (λ i. tree_pages (index_in file table i)) (range_with_len 0 j)

unfoldable pub segments_of_trees : List ℕ → TableDef → ℕ → List ℕ
segments_of_trees file table j = flat_map (λ i. named_segments (index_in file table i)) (range_with_len 0 j)

unfoldable pub leaf_segments_of : List ℕ → TableDef → ℕ → List ℕ
leaf_segments_of file table j = map (λ i. leaf_segment (index_in file table i)) (range_with_len 0 j)

abbrev pub all_tree_pages : List ℕ → TableDef → List ℕ
all_tree_pages file table = pages_of_trees file table (index_count table)

abbrev pub leaf_segments : List ℕ → TableDef → List ℕ
leaf_segments file table = leaf_segments_of file table (index_count table)

-- the checks of the tree of index j, behind the trees before it
abbrev pub IndexCheck : List ℕ → TableDef → ℕ → Option Fault → Type 0
IndexCheck file table j =
    TreeChecks (index_in file table j) (is_in (pages_of_trees file table j)) (is_in (segments_of_trees file table j))

-- the checks of all trees, in the order of the indexes
abbrev pub AllTreeChecks : List ℕ → TableDef → Option Fault → Type 0
AllTreeChecks file table = Each (index_count table) (IndexCheck file table)

-- the check that a segment is named by a root, and of all segments
abbrev pub NamedCheck : (ℕ → Type 0) → List Address → Address → Option Fault → Type 0
NamedCheck IsNamed before place = Holds SegmentUnnamed place.page (IsNamed (length before))

abbrev pub IsNamedIn : List ℕ → TableDef → ℕ → Type 0
IsNamedIn file table segment = is_in (segments_of_trees file table (index_count table)) segment ≡ true

abbrev pub NamedChecks : List ℕ → TableDef → Option Fault → Type 0
NamedChecks file table = EachOf (segments file) (NamedCheck (IsNamedIn file table))
