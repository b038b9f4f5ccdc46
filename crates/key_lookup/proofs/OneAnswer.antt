-- The checks of a look-up have one answer: each way to put them together keeps that.
use Rattle.std.proofs.Common.{ℕ, Bool, List, Option, Some, None}
use Rattle.page_source.specs.declared.rule.Fault.{Fault}
use Rattle.page_source.proofs.Unique.{IsUnique, Clear-unique, Check-unique, Then-unique, Each-unique}
use Rattle.column_values.specs.Order.{Key}
use Rattle.offpage_chain.specs.Fetched.{FramedChecks}
use Rattle.offpage_chain.specs.ChainChecks.{UnauditedPlace}
use Rattle.tree_walk.specs.Index.{Index, Row}
use Rattle.schema_text.specs.Formats.{flags_of}
use Rattle.schema_text.specs.TableDef.{TableDef}
use Rattle.table_check.specs.Trees.{clustered_tree}
use Rattle.table_check.proofs.OneAnswer.{before, head_unique, node_unique, record_unique}
use Rattle.key_lookup.specs.Record.{found_row}
use Rattle.key_lookup.specs.GetFirst.{WayChecks, FoundRowChecks, LookUpChecks, GetFirst}

-- the way
framed_unique : (file : List ℕ) (fault : Fault) (kind n : ℕ) → IsUnique (FramedChecks file fault kind n)
framed_unique file fault kind n = before _ _ _ (Check-unique fault _)

way_unique : (index : Index) (key : Key) (depth : ℕ) → IsUnique (WayChecks index key depth)
unfolding WayChecks
way_unique index key depth =
    Then-unique _ _ (before _ _ _ (framed_unique _ _ _ _)) (before _ _ _ (node_unique _ _ _))

-- a page of a chain, and the values of a row
place_unique : (file : List ℕ) (holder : ℕ) (taken : Bool) (n : ℕ) → IsUnique (UnauditedPlace file holder taken n)
place_unique file holder taken n = before _ _ _ (framed_unique _ _ _ _)

row_unique : (index : Index) (found : Option Row) → IsUnique (FoundRowChecks index found)
row_unique index None = Clear-unique
row_unique index (Some row) =
    record_unique index.file (UnauditedPlace index.file) (place_unique index.file) _ _ _ _ _

look_up_unique : (index : Index) (key : Key) → IsUnique (LookUpChecks index key)
look_up_unique index key =
    Then-unique _ _ (Each-unique _ (WayChecks index key) (way_unique index key))
    (row_unique index (found_row index key))

-- all of them
pub get_first_unique : (file : List ℕ) (table : TableDef) (key : Key) → IsUnique (GetFirst file table key)
unfolding GetFirst
get_first_unique file table key =
    Then-unique _ _ (head_unique file (flags_of table.format)) (look_up_unique (clustered_tree file table) key)
