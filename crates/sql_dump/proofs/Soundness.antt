-- What the checks of a table say of the reading of its rows.
use Rattle.std.proofs.Common.{◌≡◌, ℕ, zero, suc, ◌+◌, ◌-◌, ◌<◌, ◌≤◌, Bool, true, false, List, [], ◌∷◌, ◌++◌}
use Rattle.std.proofs.Common.{length, take, drop, flat_map, get_or, None, refl, sym, ◌∙◌, subst, arith, inl, inr}
use Rattle.std.proofs.Common.{length-append, length-drop}
use Rattle.std.specs.List.{AllZip}
use Rattle.std.proofs.lemmas.Bool.{false≢true, cases_lt, and_parts}
use Rattle.std.proofs.lemmas.List.{get_or_append_left, get_or_at, length-take-le}
use Rattle.std.proofs.lemmas.List.Elements.{All-filter}
use Rattle.page_source.specs.Pages.{page_of, page_count}
use Rattle.column_values.specs.declared.kind.ColumnType.{ColumnType}
use Rattle.column_values.specs.declared.kind.ColumnType.TheVariants as types
use Rattle.column_values.specs.declared.field.FieldType.{FieldType}
use Rattle.column_values.specs.declared.field.FieldType.TheVariants as kinds
use Rattle.column_values.specs.declared.value.Value.{Value}
use Rattle.column_values.specs.declared.value.Value.TheVariants as values
use Rattle.column_values.specs.Types.{Fields, field_at, is_variable, is_variable_kind, greatest_length}
use Rattle.column_values.specs.Characters.{IsTextOfKind}
use Rattle.column_values.specs.Spell.{Spell, IsSpelling}
use Rattle.compact_record.specs.declared.places.Place.{Place}
use Rattle.compact_record.specs.Reading.{place_of, is_external}
use Rattle.space_header.specs.Header.{size_of}
use Rattle.space_audit.specs.Marks.{seen}
use Rattle.offpage_chain.specs.Reference.{reference_of}
use Rattle.offpage_chain.specs.Chain.{part_length, part_bytes, next_part, bytes_on}
use Rattle.offpage_chain.specs.Reader.{GoesOn}
use Rattle.offpage_chain.specs.Laws.{HasOneChain, ChecksAreWhole, ChainGoesOn}
use Rattle.row_text.specs.Writer.{is_long}
use Rattle.schema_text.specs.TableDef.{TableDef, column_at}
use Rattle.schema_text.specs.Grammar.{IsTable}
use Rattle.schema_text.specs.IndexFields.{field_of_column, leaf_fields}
use Rattle.tree_walk.specs.Index.{Row, page_in, no_row, leaf_rows, is_live_row}
use Rattle.tree_walk.specs.Segments.{leaf_segment}
use Rattle.tree_walk.specs.Leaf.{IsWalked}
use Rattle.tree_walk.specs.Records.{IsRecord}
use Rattle.tree_walk.specs.Laws.{RowsCanBeRead}
use Rattle.table_check.specs.Trees.{clustered_tree, index_in}
use Rattle.table_check.specs.Values.{bytes_at, front_of, ValueChecks, FieldChecks, RecordChecks, RecordChecksBy}
use Rattle.table_check.specs.Values.{live_rows}
use Rattle.table_check.specs.Values.{pages_of_part, pages_of_rows, RowChecks}
use Rattle.table_check.specs.Rows.{IsWholeValue, HasValue, place_of_column, IsRow, AreRows}
use Rattle.table_check.proofs.WholeRows.{page_whole}
use Rattle.sql_dump.specs.Long.{chain_bytes, stated_length}
use Rattle.sql_dump.specs.Cells.{IsWholeLong, ReadsValue, row_on, cell_of_column}
use Rattle.sql_dump.specs.Lines.{ReadsRecord, ReadsRows}
use Rattle.schema_text.proofs.ColumnFields.{holds_column}
use Rattle.sql_dump.proofs.RowPages.{place_is}

-- the laws of chains, and the size of the file
pub record ChainLaws (file : List ℕ) : Type 0 where
  pub one : HasOneChain
  pub whole : ChecksAreWhole
  pub goes_on : ChainGoesOn
  pub least : size_of file ≤ 4194304
  pub most : size_of file ≤ page_count file

-- the bytes along a chain are as many as are due
pub bytes_due : (file : List ℕ) (pages : List ℕ) (n left : ℕ) → GoesOn file n left pages
    → length (bytes_on file pages) ≡ left
unfolding bytes_on
bytes_due file [] n left goes = sym goes
bytes_due file (p ∷ pages) n left goes =
    let page = page_of file p in
    let size = page_whole file p goes.1 in
    let taken : 46 + part_length page - 46 ≡ part_length page = omega arith in
    let part : length (part_bytes page) ≡ part_length page =
    rw taken (length-take-le (part_length page) (drop 46 page) (omega (
      arith,
      length-drop 46 page,
      size,
      goes.2.part.1,
    ))) in
    let rest = bytes_due file pages (next_part page) (left - part_length page) goes.3 in
    omega (
      arith,
      length-append (part_bytes page) (flat_map (λ n. part_bytes (page_of file n)) pages),
      part,
      rest,
      goes.2.within,
    )

-- the bytes of a long type spell a value where they are not too many and a text where they must be
pub long_spells : (kind : ColumnType) (bytes : List ℕ) → is_long kind ≡ true → length bytes ≤ greatest_length kind
    → IsTextOfKind kind bytes → IsSpelling kind bytes
long_spells (types.Varchar n) bytes long fits text = (values.Text bytes, (fits, refl))
long_spells (types.Varbinary n) bytes long fits text = (values.Bytes bytes, (fits, refl))
long_spells (types.Text n) bytes long fits text = (values.Text bytes, (fits, refl))
long_spells (types.Blob n) bytes long fits text = (values.Bytes bytes, (fits, refl))
long_spells (types.Utf8Varchar n) bytes long fits text = (values.Text bytes, (text, refl))
long_spells (types.Utf8Text n) bytes long fits text = (values.Text bytes, (fits, (text.0, text.2), refl))
long_spells kind bytes long fits text = absurd (false≢true long)

-- a type whose values keep their length is a long one
variable_is_long : (kind : ColumnType) → is_variable_kind kind ≡ true → is_long kind ≡ true
variable_is_long (types.Varchar n) is = refl
variable_is_long (types.Varbinary n) is = refl
variable_is_long (types.Text n) is = refl
variable_is_long (types.Blob n) is = refl
variable_is_long (types.Utf8Varchar n) is = refl
variable_is_long (types.Utf8Text n) is = refl
variable_is_long kind is = is

-- the value of a checked place outside its page
pub record LongValue (file : List ℕ) (segment : ℕ) (kind : ColumnType) (local : List ℕ) : Type 0 where
  pub value : Value
  pub reads : IsWholeLong file kind local value
  pub has : (bytes : List ℕ) × IsWholeValue file segment local bytes × Spell kind value bytes

long_value : (file : List ℕ) (segment leaf : ℕ) (kind : ColumnType) (local : List ℕ) (taken : ℕ → Bool)
    → ChainLaws file
    → is_long kind ≡ true → ValueChecks file segment leaf kind local true taken None
    → LongValue file segment kind local
unfolding chain_bytes
long_value file segment leaf kind local taken laws long checks =
    let reference = reference_of local in
    let whole = (laws.whole file segment leaf reference taken kind (front_of local) laws.least).0 checks.1 in
    let one = laws.one file segment reference whole.pages laws.least whole.chain in
    let goes = laws.goes_on file segment reference whole.pages laws.least laws.most whole.chain in
    let due = bytes_due file whole.pages reference.page reference.length goes in
    let front : length (front_of local) ≡ length local - 20 = length-take-le (length local - 20) local (omega arith)
    in
    let size : length (front_of local ++ bytes_on file whole.pages) ≡ stated_length local =
    omega (arith, length-append (front_of local) (bytes_on file whole.pages), due, front) in
    let spelling = long_spells kind (front_of local ++ bytes_on file whole.pages) long (omega (
      arith,
      size,
      checks.0,
    )) whole.text in
    record {
      value = spelling.0;
      reads = record {
        fits = record { long = long; fits = checks.0 };
        follow = record {
          goes_on = subst (λ (pages : List ℕ). GoesOn file reference.page reference.length pages) one goes;
        };
        size = subst (λ (pages : List ℕ). length (front_of local ++ bytes_on file pages) ≡ stated_length local) one
            size;
        spelled = subst (λ (pages : List ℕ). Spell kind spelling.0 (front_of local ++ bytes_on file pages)) one
            spelling.1;
      };
      has = (
        front_of local ++ bytes_on file whole.pages,
        record { pages = whole.pages; chain = whole.chain; is = refl },
        spelling.1,
      );
    }

-- the value of a checked place
pub record ValueHere (file : List ℕ) (segment : ℕ) (kind : ColumnType) (page : List ℕ) (place : Place) : Type 0 where
  pub value : Value
  pub reads : ReadsValue file (record { kind = kind; page = page; place = place }) value
  pub has : HasValue file segment kind page place value

value_here : (file : List ℕ) (segment leaf : ℕ) (kind : ColumnType) (page : List ℕ) (place : Place) (taken : ℕ → Bool)
    → ChainLaws file → (place.external ≡ true → is_long kind ≡ true)
    → (place.null ≡ false → ValueChecks file segment leaf kind (bytes_at page place) place.external taken None)
    → ValueHere file segment kind page place
value_here file segment leaf kind page place taken laws long checks = by_tests place.null place.external refl refl
  where
    by_tests : (n e : Bool) → place.null ≡ n → place.external ≡ e → ValueHere file segment kind page place
    by_tests true e null external = record {
      value = values.Null;
      reads = record {
        null = λ _. refl;
        local = λ some. absurd (false≢true (sym some ∙ null));
        long = λ some. absurd (false≢true (sym some ∙ null));
      };
      has = record {
        null = λ _. refl;
        local = λ some. absurd (false≢true (sym some ∙ null));
        external = λ some. absurd (false≢true (sym some ∙ null));
      };
    }
    by_tests false false null external =
        let spelling : IsSpelling kind (bytes_at page place) =
        subst (λ (e : Bool). ValueChecks file segment leaf kind (bytes_at page place) e taken None) external (checks
        null) in
        record {
          value = spelling.0;
          reads = record {
            null = λ none. absurd (false≢true (sym null ∙ none));
            local = λ _ _. spelling.1;
            long = λ _ away. absurd (false≢true (sym external ∙ away));
          };
          has = record {
            null = λ none. absurd (false≢true (sym null ∙ none));
            local = λ _ _. spelling.1;
            external = λ _ away. absurd (false≢true (sym external ∙ away));
          };
        }
    by_tests false true null external =
        let here = long_value file segment leaf kind (bytes_at page place) taken laws (long external)
        (subst (λ (e : Bool). ValueChecks file segment leaf kind (bytes_at page place) e taken None) external (checks
        null)) in
        record {
          value = here.value;
          reads = record {
            null = λ none. absurd (false≢true (sym null ∙ none));
            local = λ _ there. absurd (false≢true (sym there ∙ external));
            long = λ _ _. here.reads;
          };
          has = record {
            null = λ none. absurd (false≢true (sym null ∙ none));
            local = λ _ there. absurd (false≢true (sym there ∙ external));
            external = λ _ _. here.has;
          };
        }

-- the field of a column that may be read elsewhere is long
pub external_is_long : (page : List ℕ) (origin i : ℕ) (fields : Fields) (kind : ColumnType)
    → (field_at fields i).kind ≡ kinds.Column kind → (place_of page origin fields i).external ≡ true
    → is_long kind ≡ true
unfolding place_of is_external
external_is_long page origin i fields kind is away =
    let variable : is_variable (field_at fields i).kind ≡ true = (and_parts _ _ (and_parts _ _ (and_parts _ _
    away).0).0).0 in
    variable_is_long kind (subst (λ (k : FieldType). is_variable k ≡ true) is variable)

-- the values of the columns, one after another
pub record ValuesUpTo (P : ℕ → Value → Type 0) (n : ℕ) : Type 0 where
  pub row : List Value
  pub count : length row ≡ n
  pub each : (c : ℕ) → c < n → P c (get_or row c values.Null)

pub values_up_to : (P : ℕ → Value → Type 0) (n : ℕ) → ((c : ℕ) → c < n → (value : Value) × P c value) → ValuesUpTo P n
values_up_to P zero here = record { row = []; count = refl; each = λ c below. absurd (omega arith) }
values_up_to P (suc n) here =
    let before = values_up_to P n (λ c below. here c (omega arith)) in
    let last = here n (omega arith) in
    record {
      row = before.row ++ last.0 ∷ [];
      count = omega (arith, length-append before.row (last.0 ∷ []), before.count);
      each = λ c below.
          elim (cases_lt c n) [
            | inl less ↦
                subst (P c) (sym (get_or_append_left before.row (last.0 ∷ []) values.Null c (omega (
                  arith,
                  before.count,
                ))))
                (before.each c less)
            | inr more ↦
                let e : n ≡ c = omega arith in
                subst (λ (k : ℕ). P k (get_or (before.row ++ last.0 ∷ []) k values.Null)) e
                (subst (P n) (sym (get_or_at before.row last.0 [] values.Null n before.count)) last.1)
          ];
    }

-- the values of a checked record
pub record RowValues (file : List ℕ) (table : TableDef) (row : Row) : Type 0 where
  pub list : List Value
  pub reads : ReadsRecord file table row list
  pub are : IsRow file table row list

-- what is known of column c
abbrev ColumnHolds : List ℕ → TableDef → Row → ℕ → Value → Type 0
ColumnHolds file table row c value =
    ReadsValue file
    (cell_of_column (row_on table (page_in (clustered_tree file table) row.page) row.origin) c) value
    × HasValue file (leaf_segment (clustered_tree file table)) (column_at table c).kind
    (page_in (clustered_tree file table) row.page) (place_of_column (clustered_tree file table) table row c) value

column_holds : (file : List ℕ) (table : TableDef) (row : Row) (taken : ℕ → Bool) (c : ℕ) → IsTable table
    → ChainLaws file
    → RecordChecks file (leaf_segment (clustered_tree file table)) row.page (page_in (clustered_tree file table)
    row.page)
    row.origin (leaf_fields table 0) taken None
    → c < length table.columns → (value : Value) × ColumnHolds file table row c value
unfolding RecordChecksBy index_in
column_holds file table row taken c is laws checks within =
    let fields = leaf_fields table 0 in
    let page = page_in (clustered_tree file table) row.page in
    let i = field_of_column table c in
    let holds = holds_column table c is within in
    let kind = (column_at table c).kind in
    let before = seen taken (pages_of_part file page row.origin fields i) in
    let check = subst (λ (k : FieldType). FieldChecks file (leaf_segment (clustered_tree file table)) row.page k page
    (place_of page row.origin fields i) before None) holds.kind (checks i holds.inside) in
    let here = value_here file (leaf_segment (clustered_tree file table)) row.page kind page
    (place_of page row.origin fields i) before laws (external_is_long page row.origin i fields kind holds.kind) check
    in
    (here.value, (rw (place_is table page row.origin c is within) here.reads, here.has))

row_values : (file : List ℕ) (table : TableDef) (row : Row) (taken : ℕ → Bool) → IsTable table → ChainLaws file
    → IsRecord (page_in (clustered_tree file table) row.page) (leaf_fields table 0) row.origin
    → RecordChecks file (leaf_segment (clustered_tree file table)) row.page (page_in (clustered_tree file table)
    row.page)
    row.origin (leaf_fields table 0) taken None
    → RowValues file table row
row_values file table row taken is laws readable checks =
    let found = values_up_to (ColumnHolds file table row) (length table.columns)
    (λ c within. column_holds file table row taken c is laws checks within) in
    record {
      list = found.row;
      reads = record {
        readable = readable;
        reads = record { count = found.count; each = λ c within. (found.each c within).0 };
      };
      are = record { count = found.count; each = λ c within. (found.each c within).1 };
    }

-- a list beside a list
pub record ListBeside {A B : Type 0} (P Q : A → B → Type 0) (xs : List A) : Type 0 where
  pub ys : List B
  pub first : AllZip P xs ys
  pub second : AllZip Q xs ys

list_beside : {A B : Type 0} (P Q : A → B → Type 0) (xs : List A) (d : A)
    → ((j : ℕ) → j < length xs → (y : B) × P (get_or xs j d) y × Q (get_or xs j d) y) → ListBeside P Q xs
list_beside P Q [] d here = record { ys = []; first = tt; second = tt }
list_beside P Q (x ∷ xs) d here =
    let rest = list_beside P Q xs d (λ j below. here (suc j) (omega arith)) in
    let one = here 0 (omega arith) in
    record { ys = one.0 ∷ rest.ys; first = (one.1, rest.first); second = (one.2, rest.second) }

-- the values of all rows of a checked table
pub record TableValues (file : List ℕ) (table : TableDef) : Type 0 where
  pub all : List (List Value)
  pub reads : ReadsRows file table all
  pub are : AreRows file table all

pub table_values : (file : List ℕ) (table : TableDef) (taken : ℕ → Bool) → IsTable table → ChainLaws file
    → RowsCanBeRead
    → IsWalked (clustered_tree file table) → RowChecks (clustered_tree file table) taken None → TableValues file table
unfolding index_in live_rows
table_values file table taken is laws readable walked checks =
    let tree = clustered_tree file table in
    let live = live_rows tree in
    let records = All-filter (is_live_row tree) (λ row. IsRecord (page_in tree row.page) tree.leaf row.origin)
    (leaf_rows tree)
    (readable tree walked) in
    let found = list_beside (ReadsRecord file table) (IsRow file table) live no_row
    (λ j within.
    let values = row_values file table (get_or live j no_row) (seen taken (pages_of_rows tree (take j live))) is laws
    (records j no_row within) (checks j no_row within) in
    (values.list, values.reads, values.are)) in
    record { all = found.ys; reads = found.first; are = found.second }
