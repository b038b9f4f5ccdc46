-- The values of a record's columns, and the pages that they go on in. `Ask` is what is asked of such a page.
use Rattle.std.specs.Prelude.{◌≡◌, ℕ, ◌+◌, ◌-◌, ◌≤◌, Bool, true, false, ◌&&◌, not, if◌then◌else◌}
use Rattle.std.specs.Prelude.{List, [], ◌++◌, length, take, filter, flat_map, slice_range, Option}
use Rattle.std.specs.List.{range_with_len}
use Rattle.page_source.specs.declared.rule.Rule.TheVariants.{Value}
use Rattle.page_source.specs.declared.rule.Fault.{Fault}
use Rattle.page_source.specs.Verdict.{Clear, Then, Where, Each, EachOf}
use Rattle.page_source.specs.Answers.{Holds}
use Rattle.column_values.specs.declared.kind.ColumnType.{ColumnType}
use Rattle.column_values.specs.declared.field.FieldType.{FieldType}
use Rattle.column_values.specs.declared.field.FieldType.TheVariants.{Column}
use Rattle.column_values.specs.Types.{Fields, field_at, greatest_length}
use Rattle.column_values.specs.Characters.{IsTextOfKind}
use Rattle.column_values.specs.Spell.{IsSpelling}
use Rattle.compact_record.specs.declared.places.Place.{Place}
use Rattle.compact_record.specs.Reading.{place_of, field_count}
use Rattle.space_audit.specs.Marks.{seen}
use Rattle.offpage_chain.specs.Reference.{reference_of}
use Rattle.offpage_chain.specs.Chain.{chain_pages}
use Rattle.offpage_chain.specs.ChainChecks.{PlaceChecks, AuditedPlace, ChainChecksBy}
use Rattle.tree_walk.specs.Index.{Index, Row, page_in, is_live_row, is_deleted_row, leaf_rows}
use Rattle.tree_walk.specs.Segments.{leaf_segment}

-- the local bytes of a field, by its place on a page
abbrev pub bytes_at : List ℕ → Place → List ℕ
bytes_at page place = slice_range page place.from place.until

-- the local bytes before the reference, which begin the value
abbrev pub front_of : List ℕ → List ℕ
front_of local = take (length local - 20) local

-- the value is at most as long as its type takes
abbrev pub FitsKind : ColumnType → List ℕ → Type 0
FitsKind kind local = length local - 20 + (reference_of local).length ≤ greatest_length kind

-- the local bytes of a value with these bytes behind them are a text, if its type is one of utf8mb4
abbrev pub IsTextBehind : ColumnType → List ℕ → List ℕ → Type 0
IsTextBehind kind local bytes = IsTextOfKind kind (front_of local ++ bytes)

-- the checks of a value that isn't null: of one that is whole on its leaf, and of one that goes on elsewhere
abbrev pub ValueChecksBy : List ℕ → PlaceChecks → ℕ → ColumnType → List ℕ → Bool → (ℕ → Bool) → Option Fault → Type 0
ValueChecksBy file Ask leaf kind local false taken = Holds Value leaf (IsSpelling kind local)
ValueChecksBy file Ask leaf kind local true taken =
    Then (Holds Value leaf (FitsKind kind local))
    (ChainChecksBy file Ask leaf (reference_of local) taken (IsTextBehind kind local))

-- the pages of a value
abbrev pub pages_of_value : List ℕ → List ℕ → Bool → List ℕ
pages_of_value file local external = if external then chain_pages file (reference_of local) else []

-- the checks and the pages of a field by its place: a field that is no column, or null, has none
abbrev pub FieldChecksBy : List ℕ → PlaceChecks → ℕ → FieldType → List ℕ → Place → (ℕ → Bool) → Option Fault → Type 0
FieldChecksBy file Ask leaf (Column kind) page place taken =
    Where (place.null ≡ false) (ValueChecksBy file Ask leaf kind (bytes_at page place) place.external taken)
FieldChecksBy file Ask leaf _ page place taken = Clear

abbrev pub pages_of_field : List ℕ → FieldType → List ℕ → Place → List ℕ
pages_of_field file (Column kind) page place = pages_of_value file (bytes_at page place)
    (not place.null && place.external)
pages_of_field file _ page place = []

-- the pages of the first fields of a record
abbrev pub pages_of_part : List ℕ → List ℕ → ℕ → Fields → ℕ → List ℕ
pages_of_part file page origin fields count =
    flat_map (λ i. pages_of_field file (field_at fields i).kind page (place_of page origin fields i))
    (range_with_len 0 count)

unfoldable pub pages_of_record : List ℕ → List ℕ → ℕ → Fields → List ℕ
pages_of_record file page origin fields = pages_of_part file page origin fields (field_count fields)

-- the check of field i of a record, behind the fields before it
abbrev pub FieldCheckBy : List ℕ → PlaceChecks → ℕ → List ℕ → ℕ → Fields → (ℕ → Bool) → ℕ → Option Fault → Type 0
FieldCheckBy file Ask leaf page origin fields taken i =
    FieldChecksBy file Ask leaf (field_at fields i).kind page (place_of page origin fields i)
    (seen taken (pages_of_part file page origin fields i))

-- the checks of all fields of a record
unfoldable pub RecordChecksBy : List ℕ → PlaceChecks → ℕ → List ℕ → ℕ → Fields → (ℕ → Bool) → Option Fault → Type 0
RecordChecksBy file Ask leaf page origin fields taken =
    Each (field_count fields) (FieldCheckBy file Ask leaf page origin fields taken)

-- the checks of a value, of a field and of a record in an audited space, where this segment has the leaves
abbrev pub ValueChecks : List ℕ → ℕ → ℕ → ColumnType → List ℕ → Bool → (ℕ → Bool) → Option Fault → Type 0
ValueChecks file segment = ValueChecksBy file (AuditedPlace file segment)

abbrev pub FieldChecks : List ℕ → ℕ → ℕ → FieldType → List ℕ → Place → (ℕ → Bool) → Option Fault → Type 0
FieldChecks file segment = FieldChecksBy file (AuditedPlace file segment)

abbrev pub RecordChecks : List ℕ → ℕ → ℕ → List ℕ → ℕ → Fields → (ℕ → Bool) → Option Fault → Type 0
RecordChecks file segment = RecordChecksBy file (AuditedPlace file segment)

-- the rows without the delete mark, and those with it
unfoldable pub live_rows : Index → List Row
live_rows index = filter (is_live_row index) (leaf_rows index)

unfoldable pub deleted_rows : Index → List Row
deleted_rows index = filter (is_deleted_row index) (leaf_rows index)

-- the pages of the values of a row, and of these rows
abbrev pub pages_of_row : Index → Row → List ℕ
pages_of_row index row = pages_of_record index.file (page_in index row.page) row.origin index.leaf

unfoldable pub pages_of_rows : Index → List Row → List ℕ
pages_of_rows index rows = flat_map (pages_of_row index) rows

abbrev pub all_chain_pages : Index → List ℕ
all_chain_pages index = pages_of_rows index (live_rows index)

-- the checks of the values of a row, behind the rows before it
abbrev pub RowCheck : Index → (ℕ → Bool) → List Row → Row → Option Fault → Type 0
RowCheck index taken before row =
    RecordChecks index.file (leaf_segment index) row.page (page_in index row.page) row.origin index.leaf
    (seen taken (pages_of_rows index before))

-- the checks of all rows without the delete mark
abbrev pub RowChecks : Index → (ℕ → Bool) → Option Fault → Type 0
RowChecks index taken = EachOf (live_rows index) (RowCheck index taken)
