-- The checks of a file against a schema have an answer.
use Rattle.std.proofs.Common.{◌≡◌, ◌-◌, ℕ, ◌+◌, ◌<◌, Bool, true, false, List, ◌++◌, length, get_or, sym, ap}
use Rattle.std.proofs.Common.{subst}
use Rattle.page_source.specs.Pages.{page_of, fil_null}
use Rattle.page_source.proofs.Decided.{IsDecided, same_decided, both_decided, three_decided, either_decided}
use Rattle.page_source.proofs.Decided.{given_decided}
use Rattle.page_source.proofs.Decided.{number_decided, most_decided, truth_decided, contains_decided}
use Rattle.page_source.proofs.Answered.{HasAnswer, Clear-answered, All-answered, EachOf-answered}
use Rattle.fil_frame.specs.Kinds.{allocated_kind, blob_kind}
use Rattle.fil_frame.specs.Frame.{kind_of, space_of}
use Rattle.column_values.specs.declared.kind.ColumnType.{ColumnType}
use Rattle.column_values.specs.declared.field.FieldType.{FieldType}
use Rattle.column_values.specs.declared.field.FieldType.TheVariants as kinds
use Rattle.column_values.specs.Types.{Fields, greatest_length}
use Rattle.compact_record.specs.declared.places.Place.{Place}
use Rattle.space_header.specs.Header.{size_of}
use Rattle.space_audit.specs.Owners.{owner_of, IsUsedBy}
use Rattle.offpage_chain.specs.declared.reference.Reference.{Reference}
use Rattle.offpage_chain.specs.Reference.{reference_of}
use Rattle.offpage_chain.specs.Chain.{chain_pages, part_length, next_part, bytes_on, total_on}
use Rattle.offpage_chain.specs.ChainChecks.{AuditedPlace, IsChainPlace, IsChainPart, PartCheck, ChainChecksBy}
use Rattle.offpage_chain.specs.ChainChecks.{ChainChecks}
use Rattle.tree_walk.specs.Index.{Index, Row}
use Rattle.schema_text.specs.Formats.{flags_of}
use Rattle.schema_text.specs.TableDef.{TableDef}
use Rattle.table_check.specs.Trees.{leaf_segments}
use Rattle.table_check.specs.Values.{front_of, IsTextBehind, ValueChecks, FieldChecks, RecordChecks, RecordChecksBy}
use Rattle.table_check.specs.Values.{RowCheck}
use Rattle.table_check.specs.Values.{RowChecks, live_rows}
use Rattle.table_check.specs.First.{is_unreached, IsLeftOver, TableTreeChecks, ValueChecksOf, UnreachedCheck}
use Rattle.table_check.specs.First.{UnreachedChecks, TableValueChecks, TableChecks, First}
use Rattle.table_check.proofs.Checks.{holds, before, both, only}
use Rattle.table_check.proofs.ValueDecisions.{text_of_kind, spelling_decided}
use Rattle.table_check.proofs.AuditAnswer.{audit_answered}
use Rattle.table_check.proofs.TreeAnswer.{segment_of, owner_decided, page_of_decided, trees_answered}

-- a chain
chain_place : (file : List ℕ) (segment : ℕ) (taken : Bool) (n : ℕ) → IsDecided (IsChainPlace file segment taken n)
chain_place file segment taken n =
    same_decided (λ h. record { blob = h.0; new = h.1 }) (λ h. (h.blob, h.new))
    (both_decided (page_of_decided file segment blob_kind n) (truth_decided taken false))

chain_part : (page : List ℕ) (left : ℕ) → IsDecided (IsChainPart page left)
chain_part page left =
    let end = number_decided (next_part page) fil_null in
    let all = number_decided (part_length page) left in
    same_decided (λ h. record { part = h.0; within = h.1; ended = h.2 }) (λ h. (h.part, h.within, h.ended))
    (three_decided (both_decided (most_decided 1 (part_length page)) (most_decided (part_length page) 16330))
    (most_decided (part_length page) left) (both_decided (given_decided end all) (given_decided all end)))

part_answered : (file : List ℕ) (segment holder : ℕ) (reference : Reference) (taken : ℕ → Bool)
    → (earlier : List ℕ) (n : ℕ)
    → HasAnswer (PartCheck file (AuditedPlace file segment) holder reference taken earlier n)
part_answered file segment holder reference taken earlier n =
    before _ _ _ (chain_place file segment _ n)
    (holds _ _ _ (chain_part (page_of file n) (reference.length - total_on file earlier)))

chain_answered : (file : List ℕ) (segment holder : ℕ) (reference : Reference) (taken : ℕ → Bool)
    (IsText : List ℕ → Type 0) → IsDecided (IsText (bytes_on file (chain_pages file reference)))
    → HasAnswer (ChainChecks file segment holder reference taken IsText)
unfolding ChainChecksBy
chain_answered file segment holder reference taken IsText text =
    before _ _ _ (most_decided 1 reference.length)
    (before _ _ _
    (both_decided (number_decided reference.space (space_of (page_of file 0))) (number_decided reference.offset 38))
    (both _ _
    (EachOf-answered (chain_pages file reference) (PartCheck file (AuditedPlace file segment) holder reference taken)
    (part_answered file segment holder reference taken))
    (holds _ _ _ text)))

-- the values of all rows
value_answered : (file : List ℕ) (segment leaf : ℕ) (kind : ColumnType) (local : List ℕ) (external : Bool)
    (taken : ℕ → Bool) → HasAnswer (ValueChecks file segment leaf kind local external taken)
value_answered file segment leaf kind local false taken = holds _ _ _ (spelling_decided kind local)
value_answered file segment leaf kind local true taken =
    let reference = reference_of local in
    before _ _ _ (most_decided (length local - 20 + reference.length) (greatest_length kind))
    (chain_answered file segment leaf reference taken (IsTextBehind kind local)
    (text_of_kind kind (front_of local ++ bytes_on file (chain_pages file reference))))

field_answered : (file : List ℕ) (segment leaf : ℕ) (kind : FieldType) (page : List ℕ) (place : Place)
    (taken : ℕ → Bool) → HasAnswer (FieldChecks file segment leaf kind page place taken)
field_answered file segment leaf (kinds.Column kind) page place taken =
    only _ _ (truth_decided place.null false) (value_answered file segment leaf kind _ place.external taken)
field_answered file segment leaf kinds.RowId page place taken = Clear-answered
field_answered file segment leaf kinds.TrxId page place taken = Clear-answered
field_answered file segment leaf kinds.RollPointer page place taken = Clear-answered
field_answered file segment leaf kinds.Child page place taken = Clear-answered

record_answered : (file : List ℕ) (segment leaf : ℕ) (page : List ℕ) (origin : ℕ) (fields : Fields) (taken : ℕ → Bool)
    → HasAnswer (RecordChecks file segment leaf page origin fields taken)
unfolding RecordChecksBy
record_answered file segment leaf page origin fields taken =
    All-answered _ _ (λ i. field_answered file segment leaf _ page _ _)

row_answered : (index : Index) (taken : ℕ → Bool) (earlier : List Row) (row : Row)
    → HasAnswer (RowCheck index taken earlier row)
row_answered index taken earlier row = record_answered _ _ _ _ _ _ _

rows_answered : (index : Index) (taken : ℕ → Bool) → HasAnswer (RowChecks index taken)
rows_answered index taken = EachOf-answered (live_rows index) (RowCheck index taken) (row_answered index taken)

-- the pages that nothing reaches
left_over : (file : List ℕ) (table : TableDef) (n : ℕ) → IsDecided (IsLeftOver file table n)
left_over file table n =
    let segment = segment_of (owner_of file n) in
    same_decided (λ h. record { kind = h.0; segment = segment; owner = h.1; leaves = h.2 })
    (λ h.
    let same = sym (ap segment_of h.owner) in (
      h.kind,
      subst (λ (s : ℕ). IsUsedBy file s n) same h.owner,
      subst (λ (s : ℕ). (k : ℕ) × (k < length (leaf_segments file table)) × (get_or (leaf_segments file table) k s ≡ s))
          same h.leaves,
    ))
    (three_decided
    (either_decided (number_decided (kind_of (page_of file n)) allocated_kind)
    (number_decided (kind_of (page_of file n)) blob_kind))
    (owner_decided (owner_of file n) segment) (contains_decided (leaf_segments file table) segment))

unreached_answered : (file : List ℕ) (table : TableDef) (n : ℕ) → HasAnswer (UnreachedCheck file table n)
unreached_answered file table n =
    only _ _ (truth_decided (is_unreached file table n) true) (holds _ _ _ (left_over file table n))

table_answered : (file : List ℕ) (table : TableDef) → HasAnswer (TableChecks file table)
table_answered file table =
    both (TableTreeChecks file table) (TableValueChecks file table) (trees_answered file table)
    (both (ValueChecksOf file table) (UnreachedChecks file table) (rows_answered _ _)
    (All-answered (size_of file) (UnreachedCheck file table) (unreached_answered file table)))

pub first_answered : (file : List ℕ) (table : TableDef) → HasAnswer (First file table)
unfolding First
first_answered file table = both _ _ (audit_answered file (flags_of table.format)) (table_answered file table)
