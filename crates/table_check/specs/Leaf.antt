-- What is asked of the values on a leaf of the clustered tree, and the pages that they go on in.
use Rattle.std.specs.Prelude.{ℕ, Bool, List, Option}
use Rattle.page_source.specs.declared.rule.Fault.{Fault}
use Rattle.column_values.specs.declared.kind.ColumnType.{ColumnType}
use Rattle.column_values.specs.declared.field.FieldType.{FieldType}
use Rattle.compact_record.specs.declared.places.Place.{Place}
use Rattle.offpage_chain.specs.ChainChecks.{PlaceChecks}
use Rattle.offpage_chain.specs.Places.{PlaceIn}
use Rattle.table_check.specs.declared.leaf.RowLeaf.{RowLeaf}
use Rattle.table_check.specs.Values.{bytes_at, ValueChecksBy, FieldChecksBy, RecordChecksBy}
use Rattle.table_check.specs.Values.{pages_of_value, pages_of_field, pages_of_record}

-- what is asked of a page for a value on the leaf to go on there
abbrev pub place_on : List ℕ → RowLeaf → PlaceChecks
place_on file leaf = PlaceIn file leaf.pages

-- the checks of the value at this place, of a column that isn't null
abbrev pub ValueChecksOn : List ℕ → RowLeaf → ColumnType → Place → (ℕ → Bool) → Option Fault → Type 0
ValueChecksOn file leaf kind place =
    ValueChecksBy file (place_on file leaf) leaf.number kind (bytes_at leaf.page.now place) place.external

abbrev pub pages_of_value_on : List ℕ → RowLeaf → Place → List ℕ
pages_of_value_on file leaf place = pages_of_value file (bytes_at leaf.page.now place) place.external

-- the checks of the field at this place
abbrev pub FieldChecksOn : List ℕ → RowLeaf → FieldType → Place → (ℕ → Bool) → Option Fault → Type 0
FieldChecksOn file leaf kind place = FieldChecksBy file (place_on file leaf) leaf.number kind leaf.page.now place

abbrev pub pages_of_field_on : List ℕ → RowLeaf → FieldType → Place → List ℕ
pages_of_field_on file leaf kind place = pages_of_field file kind leaf.page.now place

-- the checks of the row at this origin
abbrev pub RowChecksOn : List ℕ → RowLeaf → ℕ → (ℕ → Bool) → Option Fault → Type 0
RowChecksOn file leaf origin =
    RecordChecksBy file (place_on file leaf) leaf.number leaf.page.now origin leaf.fields.now

abbrev pub pages_of_row_on : List ℕ → RowLeaf → ℕ → List ℕ
pages_of_row_on file leaf origin = pages_of_record file leaf.page.now origin leaf.fields.now
