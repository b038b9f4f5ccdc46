-- The row that was found can be read, along the chains that were checked.
use Rattle.std.proofs.Common.{◌≡◌, ℕ, ◌-◌, ◌<◌, ◌≤◌, Bool, true, false, List, ◌++◌}
use Rattle.std.proofs.Common.{length, get_or, None, refl, sym, ◌∙◌, subst, arith, length-append}
use Rattle.std.proofs.lemmas.Bool.{false≢true}
use Rattle.std.proofs.lemmas.List.{length-take-le}
use Rattle.page_source.specs.Pages.{page_count}
use Rattle.page_source.specs.Verdict.{AllBefore}
use Rattle.column_values.specs.declared.kind.ColumnType.{ColumnType}
use Rattle.column_values.specs.declared.field.FieldType.{FieldType}
use Rattle.column_values.specs.declared.field.FieldType.TheVariants.{Column}
use Rattle.column_values.specs.declared.value.Value.{Value}
use Rattle.column_values.specs.declared.value.Value.TheVariants.{Null}
use Rattle.column_values.specs.Types.{Fields}
use Rattle.column_values.specs.Spell.{Spell, IsSpelling}
use Rattle.compact_record.specs.declared.places.Place.{Place}
use Rattle.compact_record.specs.Reading.{place_of}
use Rattle.space_header.specs.Header.{size_of}
use Rattle.space_audit.specs.Marks.{seen}
use Rattle.offpage_chain.specs.declared.reference.Reference.{Reference}
use Rattle.offpage_chain.specs.Reference.{reference_of}
use Rattle.offpage_chain.specs.Chain.{chain_pages, bytes_on}
use Rattle.offpage_chain.specs.ChainChecks.{UnauditedPlace, PartCheck, ChainChecksBy}
use Rattle.offpage_chain.specs.Reader.{GoesOn}
use Rattle.offpage_chain.proofs.Links.{links_go_on}
use Rattle.offpage_chain.proofs.Whole.{links_all}
use Rattle.row_text.specs.Writer.{is_long}
use Rattle.schema_text.specs.TableDef.{TableDef, column_at}
use Rattle.schema_text.specs.Grammar.{IsTable}
use Rattle.schema_text.specs.IndexFields.{field_of_column, leaf_fields}
use Rattle.table_check.specs.Values.{bytes_at, front_of, IsTextBehind, pages_of_part, pages_of_record}
use Rattle.table_check.specs.Values.{ValueChecksBy, FieldChecksBy, RecordChecksBy}
use Rattle.sql_dump.specs.Long.{chain_bytes, stated_length}
use Rattle.sql_dump.specs.Cells.{IsWholeLong, ReadsValue, ReadsRow, CanReadRow, row_on}
use Rattle.schema_text.proofs.ColumnFields.{holds_column}
use Rattle.sql_dump.proofs.RowPages.{place_is, columns_within}
use Rattle.sql_dump.proofs.Soundness.{bytes_due, long_spells, external_is_long, values_up_to}
use Rattle.key_lookup.specs.Record.{HasFoundValue}
use Rattle.key_lookup.specs.GetFirst.{FoundRecordChecks}

module _ (file : List ℕ) (size : size_of file ≤ page_count file) (holder : ℕ) (reference : Reference) (taken : ℕ → Bool)
    (checks : AllBefore (chain_pages file reference) (PartCheck file (UnauditedPlace file) holder reference taken)
    (length (chain_pages file reference))) where
  -- the value goes on along the pages whose checks hold
  goes : GoesOn file reference.page reference.length (chain_pages file reference)
  goes =
      links_go_on file reference.page reference.length (chain_pages file reference)
      (links_all file reference (λ j d h. (checks j d h).1))
      (λ j d h. let below = (checks j d h).0.0.below in omega (arith, below, size))

module _ (file : List ℕ) (size : size_of file ≤ page_count file) (leaf : ℕ) (kind : ColumnType) where
  -- a value that goes on elsewhere and whose checks hold
  module _ (local : List ℕ) (taken : ℕ → Bool) (long : is_long kind ≡ true)
      (checks : ValueChecksBy file (UnauditedPlace file) leaf kind local true taken None) where
    abbrev reference : Reference
    reference = reference_of local

    along : GoesOn file reference.page reference.length (chain_pages file reference)
    unfolding ChainChecksBy
    along = goes file size leaf reference taken checks.1.1.1.0

    text : IsTextBehind kind local (bytes_on file (chain_pages file reference))
    unfolding ChainChecksBy
    text = checks.1.1.1.1

    stated : length (front_of local ++ bytes_on file (chain_pages file reference)) ≡ stated_length local
    stated =
        let due = bytes_due file (chain_pages file reference) reference.page reference.length along in
        let front : length (front_of local) ≡ length local - 20 = length-take-le (length local - 20) local (omega arith)
        in
        omega (arith, length-append (front_of local) (bytes_on file (chain_pages file reference)), due, front)

    whole : (value : Value) → Spell kind value (front_of local ++ bytes_on file (chain_pages file reference))
        → IsWholeLong file kind local value
    unfolding chain_bytes
    whole value spelled = record {
      fits = record { long = long; fits = checks.0 };
      follow = record { goes_on = along };
      size = stated;
      spelled = spelled;
    }

    spelling : IsSpelling kind (front_of local ++ bytes_on file (chain_pages file reference))
    spelling = long_spells kind (front_of local ++ bytes_on file (chain_pages file reference)) long
        (let fits = checks.0 in omega (arith, stated, fits)) text

  -- the value of a place whose checks hold
  module _ (page : List ℕ) (place : Place) (taken : ℕ → Bool) (long : place.external ≡ true → is_long kind ≡ true)
      (checks : place.null ≡ false
      → ValueChecksBy file (UnauditedPlace file) leaf kind (bytes_at page place) place.external taken None) where
    away : (e : place.external ≡ true) → place.null ≡ false
        → ValueChecksBy file (UnauditedPlace file) leaf kind (bytes_at page place) true taken None
    away e some = subst (λ (x : Bool). ValueChecksBy file (UnauditedPlace file) leaf kind
        (bytes_at page place) x taken None) e (checks some)

    here : (e : place.external ≡ false) → place.null ≡ false → IsSpelling kind (bytes_at page place)
    here e some = subst (λ (x : Bool). ValueChecksBy file (UnauditedPlace file) leaf kind
        (bytes_at page place) x taken None) e (checks some)

    -- what is found there can be read
    pub reads : (value : Value) → HasFoundValue file kind page place value
        → ReadsValue file (record { kind = kind; page = page; place = place }) value
    reads value has = record {
      null = has.null;
      local = has.local;
      long = λ some e. whole (bytes_at page place) taken (long e) (away e some) value (has.external some e);
    }

    -- there is a value
    pub some_value : (value : Value) × HasFoundValue file kind page place value
    some_value = by_tests place.null place.external refl refl
      where
        by_tests : (n e : Bool) → place.null ≡ n → place.external ≡ e
            → (value : Value) × HasFoundValue file kind page place value
        by_tests true e null external = (
          Null,
          record {
            null = λ _. refl;
            local = λ some. absurd (false≢true (sym some ∙ null));
            external = λ some. absurd (false≢true (sym some ∙ null));
          },
        )
        by_tests false false null external =
            let s = here external null in (
              s.0,
              record {
                null = λ none. absurd (false≢true (sym null ∙ none));
                local = λ _ _. s.1;
                external = λ _ e. absurd (false≢true (sym external ∙ e));
              },
            )
        by_tests false true null external =
            let s = spelling (bytes_at page place) taken (long external) (away external null) in (
              s.0,
              record {
                null = λ none. absurd (false≢true (sym null ∙ none));
                local = λ _ e. absurd (false≢true (sym e ∙ external));
                external = λ _ _. s.1;
              },
            )

-- the values that are found of a record, by its place on a page
pub record AreFound (file : List ℕ) (table : TableDef) (page : List ℕ) (origin : ℕ) (row_values : List Value)
    : Type 0 where
  pub count : length row_values ≡ length table.columns
  pub each : (c : ℕ) → c < length table.columns
      → HasFoundValue file (column_at table c).kind page (place_of page origin (leaf_fields table 0)
      (field_of_column table c)) (get_or row_values c Null)

module _ (file : List ℕ) (size : size_of file ≤ page_count file) (table : TableDef) (is : IsTable table) (leaf : ℕ)
    (page : List ℕ) (origin : ℕ) (taken : ℕ → Bool)
    (checks : FoundRecordChecks file leaf page origin (leaf_fields table 0) taken None) where
  abbrev fields : Fields
  fields = leaf_fields table 0

  abbrev place : ℕ → Place
  place c = place_of page origin fields (field_of_column table c)

  abbrev before : ℕ → ℕ → Bool
  before c = seen taken (pages_of_part file page origin fields (field_of_column table c))

  column_checks : (c : ℕ) → c < length table.columns
      → FieldChecksBy file (UnauditedPlace file) leaf (Column (column_at table c).kind) page (place c) (before c) None
  unfolding RecordChecksBy
  column_checks c within =
      let holds = holds_column table c is within in
      subst (λ (k : FieldType). FieldChecksBy file (UnauditedPlace file) leaf k page (place c)
      (before c) None) holds.kind
      (checks (field_of_column table c) holds.inside)

  column_long : (c : ℕ) → c < length table.columns → (place c).external ≡ true
      → is_long (column_at table c).kind ≡ true
  column_long c within =
      external_is_long page origin (field_of_column table c) fields (column_at table c).kind
      (holds_column table c is within).kind

  -- they can be read
  pub found_reads : (row_values : List Value) → AreFound file table page origin row_values
      → ReadsRow file (row_on table page origin) row_values
  found_reads row_values are = record {
    count = are.count;
    each = λ c within.
        rw (place_is table page origin c is within)
        (reads file size leaf (column_at table c).kind page (place c) (before c) (column_long c within)
        (column_checks c within) (get_or row_values c Null) (are.each c within));
  }

  -- there are some values
  pub some_found : (row_values : List Value) × AreFound file table page origin row_values
  some_found =
      let found = values_up_to (λ c value. HasFoundValue file (column_at table c).kind page (place c) value)
      (length table.columns)
      (λ c within. some_value file size leaf (column_at table c).kind page (place c) (before c) (column_long c within)
      (column_checks c within)) in
      (found.row, record { count = found.count; each = found.each })

  pub can_read : (left : ℕ) → length (pages_of_record file page origin fields) ≤ left
      → CanReadRow file (row_on table page origin) left
  can_read left few = record {
    row_values = some_found.0;
    reads = found_reads some_found.0 some_found.1;
    few = omega (arith, columns_within file table page origin is, few);
  }
