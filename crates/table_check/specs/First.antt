-- All checks of a file against a schema, in order: the answer is the first broken one.
use Rattle.std.specs.Prelude.{◌≡◌, ℕ, ◌+◌, ◌*◌, ◌≤◌, ◌⊎◌, Bool, true, false, ◌&&◌, not, List, length, filter, sum_by}
use Rattle.std.specs.Prelude.{Contains, Option}
use Rattle.std.specs.List.{range_with_len}
use Rattle.page_source.specs.declared.objects.PageSource.{Ghosts as FileOf}
use Rattle.page_source.specs.declared.rule.Rule.TheVariants.{UnreachedKind}
use Rattle.page_source.specs.declared.rule.Fault.{Fault}
use Rattle.page_source.specs.Pages.{page_of, page_count}
use Rattle.page_source.specs.Verdict.{Then, Where, Each}
use Rattle.page_source.specs.Answers.{Holds}
use Rattle.page_source.specs.Calls.{OfFile}
use Rattle.fil_frame.specs.Kinds.{allocated_kind, blob_kind}
use Rattle.fil_frame.specs.Frame.{kind_of, space_of}
use Rattle.space_header.specs.Header.{size_of}
use Rattle.extent_map.specs.Extents.{is_used}
use Rattle.space_audit.specs.declared.owner.Owner.{Owner}
use Rattle.space_audit.specs.declared.owner.Owner.TheVariants as owners
use Rattle.space_audit.specs.Owners.{owner_of, IsUsedBy}
use Rattle.space_audit.specs.Audit.{AuditChecks}
use Rattle.space_audit.specs.Marks.{is_in, seen}
use Rattle.schema_text.specs.Formats.{flags_of}
use Rattle.schema_text.specs.TableDef.{TableDef}
use Rattle.tree_walk.specs.Leaf.{IsWalked}
use Rattle.tree_walk.specs.Walk.{IsEndsOf}
use Rattle.table_check.specs.declared.table.Checked.{Checked}
use Rattle.table_check.specs.declared.table.Table.{Table}
use Rattle.table_check.specs.declared.table.Whole.{Whole}
use Rattle.tree_walk.specs.declared.ends.TreeEnds.{TreeEnds}
use Rattle.table_check.specs.Trees.{clustered_tree, all_tree_pages, leaf_segments, AllTreeChecks, NamedChecks}
use Rattle.table_check.specs.Values.{live_rows, deleted_rows, all_chain_pages, RowChecks}

-- a page that a segment uses
abbrev pub is_segment_owner : Owner → Bool
is_segment_owner (owners.Used segment) = true
is_segment_owner _ = false

-- a page of a tree or of a chain
abbrev pub is_reached : List ℕ → TableDef → ℕ → Bool
is_reached file table n = seen (is_in (all_tree_pages file table)) (all_chain_pages (clustered_tree file table)) n

-- a page that a segment uses, and that is neither of a tree nor of a chain
unfoldable pub is_unreached : List ℕ → TableDef → ℕ → Bool
is_unreached file table n = is_segment_owner (owner_of file n) && not (is_reached file table n)

-- the page is freed, or holds an old version, in the leaf segment of some index
pub record IsLeftOver (file : List ℕ) (table : TableDef) (n : ℕ) : Type 0 where
  pub kind : (kind_of (page_of file n) ≡ allocated_kind) ⊎ (kind_of (page_of file n) ≡ blob_kind)
  pub segment : ℕ
  pub owner : IsUsedBy file segment n
  pub leaves : Contains (leaf_segments file table) segment

-- the check of a page that nothing reaches
abbrev pub UnreachedCheck : List ℕ → TableDef → ℕ → Option Fault → Type 0
UnreachedCheck file table n =
    Where (is_unreached file table n ≡ true) (Holds UnreachedKind n (IsLeftOver file table n))

-- the checks of all pages that nothing reaches
abbrev pub UnreachedChecks : List ℕ → TableDef → Option Fault → Type 0
UnreachedChecks file table = Each (size_of file) (UnreachedCheck file table)

-- the checks of the values of all rows
abbrev pub ValueChecksOf : List ℕ → TableDef → Option Fault → Type 0
ValueChecksOf file table = RowChecks (clustered_tree file table) (is_in (all_tree_pages file table))

-- the checks of trees and segments, and those of values and of unreached pages
abbrev pub TableTreeChecks : List ℕ → TableDef → Option Fault → Type 0
TableTreeChecks file table = Then (AllTreeChecks file table) (NamedChecks file table)

abbrev pub TableValueChecks : List ℕ → TableDef → Option Fault → Type 0
TableValueChecks file table = Then (ValueChecksOf file table) (UnreachedChecks file table)

-- all checks behind the audit
abbrev pub TableChecks : List ℕ → TableDef → Option Fault → Type 0
TableChecks file table = Then (TableTreeChecks file table) (TableValueChecks file table)

-- all checks
unfoldable pub First : List ℕ → TableDef → Option Fault → Type 0
First file table = Then (AuditChecks file (flags_of table.format)) (TableChecks file table)

-- the numbers of a checked file
pub record IsChecked (file : List ℕ) (table : TableDef) (checked : Checked) : Type 0 where
  pub has_pages : checked.pages ≡ size_of file
  pub has_used : checked.used ≡ length (filter (is_used file) (range_with_len 0 (size_of file)))
  pub has_rows : checked.rows ≡ length (live_rows (clustered_tree file table))
  pub has_deleted : checked.deleted ≡ length (deleted_rows (clustered_tree file table))
  pub has_unreached : checked.unreached ≡ length (filter (is_unreached file table) (range_with_len 0 (size_of file)))

-- the numbers of rows are those of the clustered tree
pub record HasCounts (found : Table) : Type 0 where
  pub rows : found.checked.rows ≡ found.clustered.live
  pub deleted : found.checked.deleted ≡ found.clustered.deleted

-- the numbers of a checked file, and what a dump needs besides
pub record IsCheckedTable (file : List ℕ) (table : TableDef) (found : Table) : Type 0 where
  pub is_checked : IsChecked file table found.checked
  pub has_space : found.space ≡ space_of (page_of file 0)
  pub within : found.checked.pages ≤ page_count file
  pub walked : IsWalked (clustered_tree file table)
  pub ends : IsEndsOf (clustered_tree file table) found.clustered
  pub has_chain_pages : found.chain_pages ≡ length (all_chain_pages (clustered_tree file table))

-- the most steps of a check, and of a dump, of so many pages
abbrev pub check_steps : ℕ → ℕ
check_steps pages = 4 * pages + 64

abbrev pub dump_steps : ℕ → ℕ
dump_steps pages = 5 * pages + 64

-- the steps of a call over a file that is told, and over any
pub record TakesSteps {S : Type 0} (g : FileOf S) (source : S) (most : ℕ → ℕ) (steps spent : ℕ) : Type 0 where
  pub told : OfFile g source (λ file. spent ≤ steps + most (page_count file))
  pub always : spent ≤ steps + most 4194304

-- a call that may take so many steps asked the file for no more pages than that
abbrev pub AsksAtMost : {S : Type 0} → FileOf S → S → S → (ℕ → ℕ) → Type 0
AsksAtMost g old new most = TakesSteps g old most (g.fetches old) (g.fetches new)

-- a table was checked in as many steps as its pages let, and leaves enough of them to read its rows once more
pub record LeavesSteps (steps spent : ℕ) (table : Table) : Type 0 where
  pub pages : table.checked.pages ≤ 4194304
  pub checked : spent ≤ steps + check_steps table.checked.pages
  pub rows : spent + table.clustered.leaves + table.chain_pages ≤ steps + dump_steps table.checked.pages

-- a table was checked in as many steps as its pages let, and leaves enough of them to read the leaves of all trees
-- once more, those of the clustered one among them
pub record LeavesAllSteps (steps spent : ℕ) (whole : Whole) : Type 0 where
  pub pages : whole.table.checked.pages ≤ 4194304
  pub checked : spent ≤ steps + check_steps whole.table.checked.pages
  pub least : whole.table.clustered.leaves ≤ sum_by (λ (e : TreeEnds). e.leaves) whole.ends
  pub rows : spent + sum_by (λ (e : TreeEnds). e.leaves) whole.ends + whole.table.chain_pages
      ≤ steps + dump_steps whole.table.checked.pages
