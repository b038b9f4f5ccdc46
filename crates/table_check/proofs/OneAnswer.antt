-- The checks of a file against a schema have one answer: each way to put them together keeps that.
use Rattle.std.proofs.Common.{◌≡◌, ℕ, Bool, true, false, List, [], Option, Some, None, refl, sym, ap, ◌∙◌}
use Rattle.page_source.specs.declared.rule.Rule.{Rule}
use Rattle.page_source.specs.declared.rule.Fault.{Fault}
use Rattle.page_source.specs.Checks.{AtPage}
use Rattle.page_source.specs.Verdict.{Check, Then}
use Rattle.page_source.specs.Answers.{Holds}
use Rattle.page_source.proofs.Unique.{IsUnique, Clear-unique, Check-unique, Then-unique, Where-unique, Each-unique}
use Rattle.page_source.proofs.Unique.{EachOf-unique, Along-unique, some_is_not_none}
use Rattle.column_values.specs.declared.kind.ColumnType.{ColumnType}
use Rattle.column_values.specs.declared.field.FieldType.{FieldType}
use Rattle.column_values.specs.declared.field.FieldType.TheVariants as kinds
use Rattle.column_values.specs.Types.{Fields}
use Rattle.compact_record.specs.declared.places.Place.{Place}
use Rattle.index_page.proofs.ChecksLaw.{checks_unique}
use Rattle.space_header.specs.declared.address.Address.{Address}
use Rattle.space_header.specs.declared.address.Base.{Base}
use Rattle.space_header.specs.declared.address.Node.{Node}
use Rattle.space_header.specs.Header.{head_of, size_of, limit_of}
use Rattle.extent_map.specs.Extents.{extent_count}
use Rattle.extent_map.specs.Head.{HeaderChecks, HeadChecks}
use Rattle.extent_map.specs.Descriptors.{ExtentChecks, DescriptorChecks}
use Rattle.inode_segments.specs.InodeChecks.{InodePageChecks, StepAt, InodeListChecks, InodeListsChecks}
use Rattle.inode_segments.specs.Inodes.{segments, inode_of, full_pages}
use Rattle.inode_segments.specs.InodeChecks.{SegmentCheck, SegmentChecks, AllInodeChecks}
use Rattle.space_audit.specs.Marks.{is_in}
use Rattle.space_audit.specs.Lists.{HomeList, HomeListChecks, ThreeChecks, SegmentListsCheck, HomeCheck, ListChecks}
use Rattle.space_audit.specs.Audit.{HasFragmentCount, SlotCheck, SlotsCheck, CountCheck, CountChecks, ClaimCheck}
use Rattle.space_audit.specs.Audit.{UseChecks, FrameCheck, FrameChecks, OwnerChecks, AuditChecks}
use Rattle.offpage_chain.specs.declared.reference.Reference.{Reference}
use Rattle.offpage_chain.specs.Chain.{chain_pages}
use Rattle.offpage_chain.specs.ChainChecks.{PlaceChecks, AuditedPlace, PartCheck, ChainChecksBy}
use Rattle.tree_walk.specs.Index.{Index, Row}
use Rattle.tree_walk.specs.Segments.{leaf_segment}
use Rattle.tree_walk.specs.Place.{Spot, NodeAt, SpotAt}
use Rattle.tree_walk.specs.TreeChecks.{TreeChecks}
use Rattle.schema_text.specs.Formats.{flags_of}
use Rattle.schema_text.specs.TableDef.{TableDef}
use Rattle.table_check.specs.Trees.{index_in, index_count, pages_of_trees, segments_of_trees}
use Rattle.table_check.specs.Trees.{IndexCheck, AllTreeChecks, NamedCheck, IsNamedIn, NamedChecks}
use Rattle.table_check.specs.Values.{ValueChecksBy, FieldChecksBy, RecordChecksBy, RowCheck, RowChecks, live_rows}
use Rattle.table_check.specs.First.{TableTreeChecks, ValueChecksOf, UnreachedCheck, UnreachedChecks}
use Rattle.table_check.specs.First.{TableValueChecks, TableChecks, First}

-- one check, and one before others
pub holds : (rule : Rule) (page : ℕ) (condition : Type 0) → IsUnique (Holds rule page condition)
holds rule page condition = Check-unique _ condition

pub before : {F : Type 0} (fault : F) (condition : Type 0) (rest : Option F → Type 0) → IsUnique rest
    → IsUnique (Then (Check fault condition) rest)
before fault condition rest u = Then-unique _ rest (Check-unique fault condition) u

-- a rule's fault is named at one page
rule_of_some : (a b : Rule) → Some a ≡ Some b → a ≡ b
rule_of_some a b e = cc

fault_is : (f g : Fault) → f.rule ≡ g.rule → f.page ≡ g.page → f ≡ g
fault_is f g same_rule same_page = λ i. record { rule = same_rule i; page = same_page i }

at_page : (n : ℕ) (checks : Option Rule → Type 0) → IsUnique checks → IsUnique (AtPage n checks)
at_page n checks u None None p q = refl
at_page n checks u None (Some g) p q = some_is_not_none g.rule (sym (u None (Some g.rule) p q.1))
at_page n checks u (Some f) None p q = some_is_not_none f.rule (u (Some f.rule) None p.1 q)
at_page n checks u (Some f) (Some g) p q =
    ap Some (fault_is f g (rule_of_some f.rule g.rule (u (Some f.rule) (Some g.rule) p.1 q.1)) (p.0 ∙ sym q.0))

-- the space: its head, its descriptors and its inodes
pub head_unique : (file : List ℕ) (flags : ℕ) → IsUnique (HeadChecks file flags)
unfolding HeaderChecks
head_unique file flags =
    before _ _ _ (before _ _ _ (before _ _ _ (before _ _ _ (before _ _ _ (before _ _ _ (holds _ _ _))))))

extent_unique : (file : List ℕ) (extent : ℕ) → IsUnique (ExtentChecks file extent)
unfolding ExtentChecks
extent_unique file extent = before _ _ _ (before _ _ _ (before _ _ _ (holds _ _ _)))

descriptors_unique : (file : List ℕ) (k : ℕ) → IsUnique (DescriptorChecks file k)
unfolding DescriptorChecks
descriptors_unique file k =
    Then-unique _ _ (Where-unique _ _ (before _ _ _ (holds _ _ _)))
    (Each-unique _ _ (λ i. extent_unique file _))

step_unique : (file : List ℕ) (is_fragment : ℕ → Bool) (full : Bool) (reached : List ℕ) (address : Address)
    (holder : ℕ) (last : Option Address) → IsUnique (StepAt file is_fragment full reached address holder last)
unfolding StepAt InodePageChecks
step_unique file is_fragment full reached address holder last =
    before _ _ _ (before _ _ _ (before _ _ _ (before _ _ _ (holds _ _ _))))

inode_list_unique : (file : List ℕ) (is_fragment : ℕ → Bool) (full : Bool) (earlier : List ℕ) (base : Base)
    → IsUnique (InodeListChecks file is_fragment full earlier base)
inode_list_unique file is_fragment full earlier base =
    Along-unique _ _ _ (λ k. step_unique file is_fragment full _ _ _ _) (λ k. holds _ _ _)

inode_lists_unique : (file : List ℕ) (is_fragment : ℕ → Bool) → IsUnique (InodeListsChecks file is_fragment)
unfolding InodeListsChecks
inode_lists_unique file is_fragment =
    Then-unique _ _ (inode_list_unique file is_fragment true [] (head_of file).inodes_full)
    (inode_list_unique file is_fragment false (full_pages file) (head_of file).inodes_free)

segment_unique : (file : List ℕ) (earlier : List Address) (place : Address)
    → IsUnique (SegmentCheck file earlier place)
segment_unique file earlier place = before _ _ _ (holds _ _ _)

inodes_unique : (file : List ℕ) (is_fragment : ℕ → Bool) → IsUnique (AllInodeChecks file is_fragment)
inodes_unique file is_fragment =
    Then-unique (InodeListsChecks file is_fragment) (SegmentChecks file) (inode_lists_unique file is_fragment)
    (EachOf-unique (segments file) (SegmentCheck file) (segment_unique file))

-- its lists, the use of its pages, and their frames
home_unique : (nodes : List Node) (list : HomeList) → IsUnique (HomeListChecks nodes list)
unfolding HomeListChecks
home_unique nodes list = before _ _ _ (holds _ _ _)

three_unique : (nodes : List Node) (a b c : HomeList) → IsUnique (ThreeChecks nodes a b c)
three_unique nodes a b c =
    Then-unique _ _ (home_unique nodes a) (Then-unique _ _ (home_unique nodes b) (home_unique nodes c))

home_checks_unique : (file : List ℕ) (extent : ℕ) → IsUnique (HomeCheck file extent)
home_checks_unique file extent = holds _ _ _

segment_lists_unique : (file : List ℕ) (earlier : List Address) (place : Address)
    → IsUnique (SegmentListsCheck file earlier place)
segment_lists_unique file earlier place = three_unique _ _ _ _

lists_unique : (file : List ℕ) → IsUnique (ListChecks file)
unfolding ListChecks
lists_unique file =
    Then-unique _ _ (three_unique _ _ _ _)
    (Then-unique _ _ (EachOf-unique (segments file) (SegmentListsCheck file) (segment_lists_unique file))
    (Each-unique (extent_count file) (HomeCheck file) (home_checks_unique file)))

slots_unique : (file : List ℕ) (earlier : List Address) (place : Address) → IsUnique (SlotsCheck file earlier place)
slots_unique file earlier place =
    EachOf-unique (inode_of file place).slots (SlotCheck file place) (λ slots slot. holds _ _ _)

counts_unique : (file : List ℕ) → IsUnique (CountChecks file)
counts_unique file =
    before _ (HasFragmentCount file) _
    (EachOf-unique (segments file) (CountCheck file) (λ earlier place. holds _ _ _))

claim_unique : (file : List ℕ) (n : ℕ) → IsUnique (ClaimCheck file n)
claim_unique file n = Where-unique _ _ (holds _ _ _)

use_unique : (file : List ℕ) → IsUnique (UseChecks file)
unfolding UseChecks
use_unique file =
    Then-unique _ _ (EachOf-unique (segments file) (SlotsCheck file) (slots_unique file))
    (Then-unique _ _ (counts_unique file) (Each-unique (limit_of file) (ClaimCheck file) (claim_unique file)))

frame_unique : (file : List ℕ) (n : ℕ) → IsUnique (FrameCheck file n)
frame_unique file n = Where-unique _ _ (before _ _ _ (holds _ _ _))

frames_unique : (file : List ℕ) → IsUnique (FrameChecks file)
frames_unique file = Each-unique (limit_of file) (FrameCheck file) (frame_unique file)

audit_unique : (file : List ℕ) (flags : ℕ) → IsUnique (AuditChecks file flags)
unfolding OwnerChecks
audit_unique file flags =
    Then-unique _ _
    (Then-unique _ _ (head_unique file flags)
    (Then-unique _ _ (Each-unique _ _ (descriptors_unique file))
    (Then-unique _ _ (inodes_unique file _)
    (Then-unique _ _ (lists_unique file) (use_unique file)))))
    (frames_unique file)

-- a tree: a page at its spot, and all levels
pub node_unique : (page : List ℕ) (fields : Fields) (spot : Spot) → IsUnique (NodeAt page fields spot)
node_unique page fields spot =
    before _ _ _
    (Then-unique _ _ (at_page spot.page _ (checks_unique page fields _ _ _)) (before _ _ _ (holds _ _ _)))

spot_unique : (page : List ℕ) (fields : Fields) (id : ℕ) (spot : Spot) (previous next : ℕ)
    → IsUnique (SpotAt page fields id spot previous next)
spot_unique page fields id spot previous next = before _ _ _ (before _ _ _ (node_unique page fields spot))

tree_unique : (index : Index) (taken named : ℕ → Bool) → IsUnique (TreeChecks index taken named)
tree_unique index taken named =
    Then-unique _ _ (before _ _ _ (before _ _ _ (spot_unique _ _ _ _ _ _)))
    (Each-unique _ _ (λ depth. Each-unique _ _ (λ j. before _ _ _ (spot_unique _ _ _ _ _ _))))

-- the values of a row, where the checks of each page that they may go on at have one answer
module _ (file : List ℕ) (Ask : PlaceChecks)
    (ask_unique : (holder : ℕ) (taken : Bool) (n : ℕ) → IsUnique (Ask holder taken n)) where
  part_unique : (holder : ℕ) (reference : Reference) (taken : ℕ → Bool) (earlier : List ℕ) (n : ℕ)
      → IsUnique (PartCheck file Ask holder reference taken earlier n)
  part_unique holder reference taken earlier n = Then-unique _ _ (ask_unique _ _ n) (holds _ _ _)

  chain_unique : (holder : ℕ) (reference : Reference) (taken : ℕ → Bool) (IsText : List ℕ → Type 0)
      → IsUnique (ChainChecksBy file Ask holder reference taken IsText)
  unfolding ChainChecksBy
  chain_unique holder reference taken IsText =
      Then-unique _ _ (holds _ _ _) (Then-unique _ _ (holds _ _ _)
      (Then-unique _ _
      (EachOf-unique (chain_pages file reference) (PartCheck file Ask holder reference taken)
      (part_unique holder reference taken)) (holds _ _ _)))

  value_unique : (leaf : ℕ) (kind : ColumnType) (local : List ℕ) (external : Bool) (taken : ℕ → Bool)
      → IsUnique (ValueChecksBy file Ask leaf kind local external taken)
  value_unique leaf kind local false taken = holds _ _ _
  value_unique leaf kind local true taken = before _ _ _ (chain_unique leaf _ taken _)

  field_unique : (leaf : ℕ) (kind : FieldType) (page : List ℕ) (place : Place) (taken : ℕ → Bool)
      → IsUnique (FieldChecksBy file Ask leaf kind page place taken)
  field_unique leaf (kinds.Column kind) page place taken =
      Where-unique _ _ (value_unique leaf kind _ place.external taken)
  field_unique leaf kinds.RowId page place taken = Clear-unique
  field_unique leaf kinds.TrxId page place taken = Clear-unique
  field_unique leaf kinds.RollPointer page place taken = Clear-unique
  field_unique leaf kinds.Child page place taken = Clear-unique

  pub record_unique : (leaf : ℕ) (page : List ℕ) (origin : ℕ) (fields : Fields) (taken : ℕ → Bool)
      → IsUnique (RecordChecksBy file Ask leaf page origin fields taken)
  unfolding RecordChecksBy
  record_unique leaf page origin fields taken = Each-unique _ _ (λ i. field_unique leaf _ page _ _)

-- the values of all rows
audited_unique : (file : List ℕ) (segment holder : ℕ) (taken : Bool) (n : ℕ)
    → IsUnique (AuditedPlace file segment holder taken n)
audited_unique file segment holder taken n = holds _ _ _

row_unique : (index : Index) (taken : ℕ → Bool) (earlier : List Row) (row : Row)
    → IsUnique (RowCheck index taken earlier row)
row_unique index taken earlier row =
    record_unique index.file (AuditedPlace index.file (leaf_segment index)) (audited_unique _ _) _ _ _ _ _

rows_unique : (index : Index) (taken : ℕ → Bool) → IsUnique (RowChecks index taken)
rows_unique index taken = EachOf-unique (live_rows index) (RowCheck index taken) (row_unique index taken)

-- all of them
trees_unique : (file : List ℕ) (table : TableDef) → IsUnique (AllTreeChecks file table)
trees_unique file table =
    Each-unique (index_count table) (IndexCheck file table)
    (λ j.
    tree_unique (index_in file table j) (is_in (pages_of_trees file table j)) (is_in (segments_of_trees file table j)))

named_unique : (file : List ℕ) (table : TableDef) → IsUnique (NamedChecks file table)
named_unique file table =
    EachOf-unique (segments file) (NamedCheck (IsNamedIn file table)) (λ earlier place. holds _ _ _)

unreached_unique : (file : List ℕ) (table : TableDef) (n : ℕ) → IsUnique (UnreachedCheck file table n)
unreached_unique file table n = Where-unique _ _ (holds _ _ _)

table_unique : (file : List ℕ) (table : TableDef) → IsUnique (TableChecks file table)
table_unique file table =
    Then-unique (TableTreeChecks file table) (TableValueChecks file table)
    (Then-unique _ _ (trees_unique file table) (named_unique file table))
    (Then-unique (ValueChecksOf file table) (UnreachedChecks file table) (rows_unique _ _)
    (Each-unique (size_of file) (UnreachedCheck file table) (unreached_unique file table)))

pub first_unique : (file : List ℕ) (table : TableDef) → IsUnique (First file table)
unfolding First
first_unique file table = Then-unique _ _ (audit_unique file (flags_of table.format)) (table_unique file table)
