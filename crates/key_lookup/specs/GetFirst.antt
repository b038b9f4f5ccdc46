-- The checks on the way to a row and of its values, in order: the answer is the first broken one.
use Rattle.std.specs.Prelude.{◌≡◌, ℕ, zero, suc, ◌+◌, ◌-◌, ◌<◌, ◌==◌, Bool, false, List, Option, Some, None}
use Rattle.page_source.specs.declared.rule.Rule.TheVariants.{RootPlace, ChildPlace, IndexId}
use Rattle.page_source.specs.declared.rule.Fault.{Fault}
use Rattle.page_source.specs.Verdict.{Clear, Then, Each}
use Rattle.page_source.specs.Answers.{Holds}
use Rattle.fil_frame.specs.Kinds.{index_kind}
use Rattle.space_header.specs.Header.{size_of}
use Rattle.extent_map.specs.Head.{HeadChecks}
use Rattle.column_values.specs.Types.{Fields}
use Rattle.column_values.specs.Order.{Key}
use Rattle.index_page.specs.Header.{index_id_of}
use Rattle.schema_text.specs.Formats.{flags_of}
use Rattle.schema_text.specs.TableDef.{TableDef}
use Rattle.offpage_chain.specs.Fetched.{FetchedChecks}
use Rattle.offpage_chain.specs.ChainChecks.{UnauditedPlace}
use Rattle.tree_walk.specs.Index.{Index, Row, page_in, fields_on, root_level, index_id}
use Rattle.tree_walk.specs.Place.{NodeAt}
use Rattle.tree_walk.specs.Descent.{spot_on}
use Rattle.table_check.specs.Trees.{clustered_tree}
use Rattle.table_check.specs.Values.{RecordChecksBy}
use Rattle.key_lookup.specs.Path.{way}
use Rattle.key_lookup.specs.Record.{found_row}

-- what is broken if a page of the way can't be one: the root names itself, and the page above the others
abbrev pub way_fault : Index → Key → ℕ → Fault
way_fault index key zero = record { rule = RootPlace; page = index.root }
way_fault index key (suc depth) = record { rule = ChildPlace; page = (way index key depth).page }

-- the checks of the page at a depth of the way, which stands so many levels above the leaves
abbrev pub WayChecksAt : Index → Key → ℕ → ℕ → Option Fault → Type 0
WayChecksAt index key depth level =
    let b = way index key depth in
    Then (FetchedChecks index.file (way_fault index key depth) (b.page < size_of index.file) index_kind b.page)
    (Then (Holds IndexId b.page (index_id_of (page_in index b.page) ≡ index_id index))
    (NodeAt (page_in index b.page) (fields_on index level) (spot_on level (depth == 0) b)))

unfoldable pub WayChecks : Index → Key → ℕ → Option Fault → Type 0
WayChecks index key depth = WayChecksAt index key depth (root_level index - depth)

-- the checks of the whole way
abbrev pub AllWayChecks : Index → Key → Option Fault → Type 0
AllWayChecks index key = Each (root_level index + 1) (WayChecks index key)

-- the checks of the values of a record. The space wasn't audited, so the pages that they go on in are framed here
abbrev pub FoundRecordChecks : List ℕ → ℕ → List ℕ → ℕ → Fields → (ℕ → Bool) → Option Fault → Type 0
FoundRecordChecks file = RecordChecksBy file (UnauditedPlace file)

-- the checks of the values of the row, if there is one
abbrev pub FoundRowChecks : Index → Option Row → Option Fault → Type 0
FoundRowChecks index None = Clear
FoundRowChecks index (Some row) =
    FoundRecordChecks index.file row.page (page_in index row.page) row.origin index.leaf (λ page. false)

-- the checks after those of the head
abbrev pub LookUpChecks : Index → Key → Option Fault → Type 0
LookUpChecks index key = Then (AllWayChecks index key) (FoundRowChecks index (found_row index key))

-- all checks
unfoldable pub GetFirst : List ℕ → TableDef → Key → Option Fault → Type 0
GetFirst file table key =
    Then (HeadChecks file (flags_of table.format)) (LookUpChecks (clustered_tree file table) key)
