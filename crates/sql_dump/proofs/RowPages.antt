-- The pages that the columns of a record go on in are among those of all its fields.
use Rattle.std.proofs.Common.{◌≡◌, ℕ, ◌<◌, ◌≤◌, List, length, sym, ap, ◌∙◌, arith}
use Rattle.std.proofs.lemmas.List.FromFn.{get_or-map-range_with_len}
use Rattle.column_values.specs.declared.field.FieldType.{FieldType}
use Rattle.column_values.specs.declared.field.FieldType.TheVariants.{Column}
use Rattle.column_values.specs.Types.{Fields, field_at}
use Rattle.compact_record.specs.Reading.{place_of, places_of, field_count}
use Rattle.schema_text.specs.TableDef.{TableDef, column_at}
use Rattle.schema_text.specs.Grammar.{IsTable}
use Rattle.schema_text.specs.IndexFields.{field_of_column, leaf_fields}
use Rattle.table_check.specs.Values.{pages_of_field, pages_of_record}
use Rattle.sql_dump.specs.Cells.{row_on, place_in, cell_of_column, pages_of_cell, pages_of_columns, pages_of_all}
use Rattle.schema_text.proofs.ColumnFields.{holds_column, one_column}
use Rattle.sql_dump.proofs.Totals.{length_is_total, total_same, total_part}

-- the place of a column is that of its field
pub place_is : (table : TableDef) (page : List ℕ) (origin c : ℕ) → IsTable table → c < length table.columns
    → place_in table (places_of page origin (leaf_fields table 0)) c
    ≡ place_of page origin (leaf_fields table 0) (field_of_column table c)
unfolding place_in places_of
place_is table page origin c is within =
    get_or-map-range_with_len (place_of page origin (leaf_fields table 0)) 0 (field_count (leaf_fields table 0))
    (field_of_column table c) (field_of_column table c) _ (holds_column table c is within).inside (omega arith)

field_pages : List ℕ → List ℕ → ℕ → Fields → ℕ → List ℕ
field_pages file page origin fields i = pages_of_field file (field_at fields i).kind page (place_of page origin
    fields i)

column_pages : (file : List ℕ) (table : TableDef) (page : List ℕ) (origin c : ℕ) → IsTable table
    → c < length table.columns
    → pages_of_cell file (cell_of_column (row_on table page origin) c)
    ≡ field_pages file page origin (leaf_fields table 0) (field_of_column table c)
unfolding field_pages
column_pages file table page origin c is within =
    let fields = leaf_fields table 0 in
    let place = place_of page origin fields (field_of_column table c) in
    ap (pages_of_field file (Column (column_at table c).kind) page) (place_is table page origin c is within)
    ∙ ap (λ (kind : FieldType). pages_of_field file kind page place) (sym (holds_column table c is within).kind)

pub columns_within : (file : List ℕ) (table : TableDef) (page : List ℕ) (origin : ℕ) → IsTable table
    → length (pages_of_all file (row_on table page origin))
    ≤ length (pages_of_record file page origin (leaf_fields table 0))
unfolding pages_of_columns pages_of_record field_pages
columns_within file table page origin is =
    let fields = leaf_fields table 0 in
    let n = length table.columns in
    let row = row_on table page origin in
    let g : ℕ → ℕ = λ i. length (field_pages file page origin fields i) in
    let columns = length_is_total (λ c. pages_of_cell file (cell_of_column row c)) n in
    let all = length_is_total (field_pages file page origin fields) (field_count fields) in
    let same = total_same (λ c. length (pages_of_cell file (cell_of_column row c)))
    (λ c. g (field_of_column table c)) n
    (λ c within. ap length (column_pages file table page origin c is within)) in
    let part = total_part g (field_of_column table) n (field_count fields)
    (λ c within. (holds_column table c is within).inside)
    (λ c d below last one. let e = one_column table c d is (omega arith) last one in absurd (omega arith)) in
    omega (arith, columns, all, same, part)
