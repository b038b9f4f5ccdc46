-- Each page of a value in a sound file has one owner: a record, and a column of it.
use Rattle.std.proofs.Common.{◌≡◌, ◌≢◌, ℕ, ◌-◌, ◌<◌, Bool, true, false, not, List, length, refl}
use Rattle.std.proofs.Common.{get_or, flat_map, Contains, inl, inr, sym, ap, ◌∙◌, subst, arith}
use Rattle.std.specs.List.{range_with_len}
use Rattle.std.proofs.lemmas.Bool.{cases_order}
use Rattle.std.proofs.lemmas.List.Elements.{at_from_Contains}
use Rattle.std.proofs.lemmas.List.FromFn.{get_or-range_with_len, length-range_with_len}
use Rattle.page_source.specs.Pages.{page_of}
use Rattle.page_source.proofs.Members.{contains_filter, filter_contains, contains_range, range_contains}
use Rattle.page_source.proofs.Members.{flat_map_contains}
use Rattle.page_source.proofs.Lists.{contains_map, flat_map_has}
use Rattle.column_values.specs.declared.field.FieldType.{FieldType}
use Rattle.column_values.specs.declared.field.FieldType.TheVariants.{Column}
use Rattle.column_values.specs.Types.{Fields, field_at}
use Rattle.compact_record.specs.Reading.{place_of, field_count}
use Rattle.compact_record.specs.Header.{is_deleted}
use Rattle.index_page.specs.Header.{records_of, record_at, record_count, first_record}
use Rattle.index_page.specs.Page.{IsChain}
use Rattle.index_page.proofs.RecordWalk.{get_or-records_from, length-records_from}
use Rattle.schema_text.specs.TableDef.{TableDef, column_at}
use Rattle.schema_text.specs.Grammar.{IsTable}
use Rattle.schema_text.specs.IndexFields.{leaf_fields, field_of_column}
use Rattle.schema_text.proofs.ColumnFields.{holds_column, one_column}
use Rattle.tree_walk.specs.Index.{Index, Row, rows_on, leaf_pages, leaf_rows, is_live_row, is_deleted_row}
use Rattle.tree_walk.specs.Laws.{ComeOnce}
use Rattle.table_check.specs.Trees.{index_in, clustered_tree}
use Rattle.table_check.specs.Values.{pages_of_field, pages_of_record, pages_of_row, pages_of_rows, all_chain_pages}
use Rattle.table_check.specs.Values.{live_rows}
use Rattle.table_check.specs.Valid.{IsValid, pages_of_descents}
use Rattle.sql_dump.specs.Cells.{row_on, cell_of_column, pages_of_cell}
use Rattle.sql_dump.proofs.RowPages.{place_is}
use Rattle.salvage_model.specs.declared.kind.RecordKind.TheVariants.{Live}
use Rattle.salvage_model.specs.Records.{origin_of, is_place_of, places_of}
use Rattle.salvage_laws.proofs.Pieces.{one_piece, once_piece, once_back}

-- the pages of a field, and those of a column
abbrev pub field_pages : List ℕ → List ℕ → ℕ → Fields → ℕ → List ℕ
field_pages file page origin fields i =
    pages_of_field file (field_at fields i).kind page (place_of page origin fields i)

abbrev pub cell_pages : List ℕ → TableDef → List ℕ → ℕ → ℕ → List ℕ
cell_pages file table page origin c = pages_of_cell file (cell_of_column (row_on table page origin) c)

pub column_pages : (file : List ℕ) (table : TableDef) (page : List ℕ) (origin c : ℕ) → IsTable table
    → c < length table.columns
    → cell_pages file table page origin c
    ≡ field_pages file page origin (leaf_fields table 0) (field_of_column table c)
column_pages file table page origin c is within =
    let fields = leaf_fields table 0 in
    let place = place_of page origin fields (field_of_column table c) in
    ap (pages_of_field file (Column (column_at table c).kind) page) (place_is table page origin c is within)
    ∙ ap (λ (kind : FieldType). pages_of_field file kind page place) (sym (holds_column table c is within).kind)

-- a record of the chain by its place
pub live_origin : (page : List ℕ) (place : ℕ)
    → origin_of Live page place ≡ record_at page (first_record page) place
live_origin page place =
    let plain : place - 0 ≡ place = omega arith in
    ap (record_at page (first_record page)) plain

-- a place of a row is that of a record of the chain without the delete mark
pub live_place : (page : List ℕ) (place : ℕ) → Contains (places_of Live page) place
    → (place < record_count page) × (is_deleted page (origin_of Live page place) ≡ false)
unfolding places_of
live_place page place h =
    let both = filter_contains (is_place_of Live page) _ place h in
    (range_contains (record_count page) place both.0, turned (is_deleted page (origin_of Live page place)) both.1)
  where
    turned : (b : Bool) → not b ≡ true → b ≡ false
    turned true e = cc
    turned false e = refl

-- a record has one place in its chain
pub one_place : (page : List ℕ) → IsChain page (records_of page) → (p q : ℕ) → p < record_count page
    → q < record_count page → origin_of Live page p ≡ origin_of Live page q → p ≡ q
one_place page chain p q p_below q_below same = elim (cases_order p q) [
  | inl e ↦ e
  | inr h ↦ elim h [
    | inl less ↦ absurd (apart p q less q_below same)
    | inr more ↦ absurd (apart q p more p_below (sym same))
  ]
]
  where
    apart : (i j : ℕ) → i < j → j < record_count page → origin_of Live page i ≢ origin_of Live page j
    apart i j less below e =
        let size = length-records_from page (first_record page) (record_count page) in
        chain.distinct i j 0 less (omega (arith, size, below))
        (get_or-records_from page (first_record page) (record_count page) i 0 (omega (arith, less, below))
        ∙ sym (live_origin page i) ∙ e ∙ live_origin page j
        ∙ sym (get_or-records_from page (first_record page) (record_count page) j 0 below))

module _ (file : List ℕ) (table : TableDef) (is : IsTable table) (valid : IsValid file table) where
  abbrev tree : Index
  tree = clustered_tree file table

  values_once : ComeOnce (flat_map (pages_of_row tree) (live_rows tree))
  unfolding pages_of_rows
  values_once = once_back (pages_of_descents file table) (all_chain_pages tree) valid.values.once

  -- the fields of a row
  row_once : (row : Row) → Contains (live_rows tree) row
      → ComeOnce (flat_map (field_pages file (page_of file row.page) row.origin (leaf_fields table 0))
      (range_with_len 0 (field_count (leaf_fields table 0))))
  unfolding pages_of_record index_in
  row_once row among =
      let once = once_piece (pages_of_row tree) (live_rows tree) values_once among.0 row among.1 in
      subst (λ (r : Row). ComeOnce (pages_of_row tree r)) among.2 once

  -- the pages of a column of it are among its own
  in_row : (row : Row) (c : ℕ) → c < length table.columns → (n : ℕ)
      → Contains (cell_pages file table (page_of file row.page) row.origin c) n → Contains (pages_of_row tree row) n
  unfolding pages_of_record index_in
  in_row row c within n m =
      flat_map_contains (field_pages file (page_of file row.page) row.origin (leaf_fields table 0))
      (range_with_len 0 (field_count (leaf_fields table 0))) (field_of_column table c) n
      (contains_range (field_count (leaf_fields table 0)) (field_of_column table c)
      (holds_column table c is within).inside)
      (subst (λ (pages : List ℕ). Contains pages n)
      (column_pages file table (page_of file row.page) row.origin c is within) m)

  -- one row has a page
  one_row : (a b : Row) → Contains (live_rows tree) a → Contains (live_rows tree) b → (n : ℕ)
      → Contains (pages_of_row tree a) n → Contains (pages_of_row tree b) n → a ≡ b
  one_row a b a_in b_in n p q =
      let i = at_from_Contains (live_rows tree) a a_in in
      let j = at_from_Contains (live_rows tree) b b_in in
      let same = one_piece (pages_of_row tree) (live_rows tree) values_once i.0 j.0 a i.1 j.1 n
      (subst (λ (r : Row). Contains (pages_of_row tree r) n) (sym (i.2 a)) p)
      (subst (λ (r : Row). Contains (pages_of_row tree r) n) (sym (j.2 a)) q) in
      sym (i.2 a) ∙ ap (λ (k : ℕ). get_or (live_rows tree) k a) same ∙ j.2 a

  -- and one column of it
  one_cell : (row : Row) → Contains (live_rows tree) row → (c d : ℕ) → c < length table.columns
      → d < length table.columns → (n : ℕ)
      → Contains (cell_pages file table (page_of file row.page) row.origin c) n
      → Contains (cell_pages file table (page_of file row.page) row.origin d) n → c ≡ d
  one_cell row among c d c_below d_below n p q =
      let fields = leaf_fields table 0 in
      let page = page_of file row.page in
      let f = field_pages file page row.origin fields in
      let range = range_with_len 0 (field_count fields) in
      let size = length-range_with_len 0 (field_count fields) in
      let c_in = (holds_column table c is c_below).inside in
      let d_in = (holds_column table d is d_below).inside in
      let c_at : get_or range (field_of_column table c) 0 ≡ field_of_column table c =
      get_or-range_with_len 0 (field_count fields) (field_of_column table c) 0 c_in ∙ omega arith in
      let d_at : get_or range (field_of_column table d) 0 ≡ field_of_column table d =
      get_or-range_with_len 0 (field_count fields) (field_of_column table d) 0 d_in ∙ omega arith in
      let same = one_piece f range (row_once row among) (field_of_column table c) (field_of_column table d) 0
      (omega (arith, size, c_in)) (omega (arith, size, d_in)) n
      (subst (λ (i : ℕ). Contains (f i) n) (sym c_at)
      (subst (λ (pages : List ℕ). Contains pages n) (column_pages file table page row.origin c is c_below) p))
      (subst (λ (i : ℕ). Contains (f i) n) (sym d_at)
      (subst (λ (pages : List ℕ). Contains pages n) (column_pages file table page row.origin d is d_below) q)) in
      one_column table c d is c_below d_below same

  -- pages of a column come once
  pub cell_once : (row : Row) → Contains (live_rows tree) row → (c : ℕ) → c < length table.columns
      → ComeOnce (cell_pages file table (page_of file row.page) row.origin c)
  cell_once row among c below =
      let fields = leaf_fields table 0 in
      let page = page_of file row.page in
      let f = field_pages file page row.origin fields in
      let range = range_with_len 0 (field_count fields) in
      let size = length-range_with_len 0 (field_count fields) in
      let c_in = (holds_column table c is below).inside in
      let c_at : get_or range (field_of_column table c) 0 ≡ field_of_column table c =
      get_or-range_with_len 0 (field_count fields) (field_of_column table c) 0 c_in ∙ omega arith in
      subst ComeOnce (ap f c_at ∙ sym (column_pages file table page row.origin c is below))
      (once_piece f range (row_once row among) (field_of_column table c) 0 (omega (arith, size, c_in)))

  -- the row of a live place of a leaf
  abbrev pub row_there : ℕ → ℕ → Row
  row_there n place = record { page = n; origin = origin_of Live (page_of file n) place }

  pub live_there : (n place : ℕ) → Contains (leaf_pages tree) n → Contains (places_of Live (page_of file n)) place
      → Contains (live_rows tree) (row_there n place)
  unfolding live_rows is_deleted_row index_in
  live_there n place leaf live =
      let is_live = live_place (page_of file n) place live in
      let size = length-records_from (page_of file n) (first_record (page_of file n)) (record_count (page_of file n)) in
      let among : Contains (records_of (page_of file n)) (origin_of Live (page_of file n) place) = (
        place,
        omega (arith, size, is_live.0),
        get_or-records_from (page_of file n) (first_record (page_of file n)) (record_count (page_of file n)) place
            _ is_live.0 ∙ sym (live_origin (page_of file n) place),
      ) in
      contains_filter (is_live_row tree) (leaf_rows tree) (row_there n place)
      (flat_map_has (rows_on tree) (leaf_pages tree) n (row_there n place) leaf
      (contains_map (λ (origin : ℕ). record { page = n; origin = origin }) (records_of (page_of file n))
      (origin_of Live (page_of file n) place) among))
      (ap not is_live.1)

  abbrev pub pages_at_place : ℕ → ℕ → ℕ → List ℕ
  pages_at_place n place c = cell_pages file table (page_of file n) (origin_of Live (page_of file n) place) c

  -- one leaf, one place and one column have a page
  pub record IsOneOwner (n place c n' place' c' : ℕ) : Type 0 where
    pub same_page : n ≡ n'
    pub same_place : place ≡ place'
    pub same_column : c ≡ c'

  pub one_owner : ((n : ℕ) → Contains (leaf_pages tree) n → IsChain (page_of file n) (records_of (page_of file n)))
      → (n place c n' place' c' : ℕ) → Contains (leaf_pages tree) n → Contains (leaf_pages tree) n'
      → Contains (places_of Live (page_of file n)) place → Contains (places_of Live (page_of file n')) place'
      → c < length table.columns → c' < length table.columns → (m : ℕ)
      → Contains (pages_at_place n place c) m → Contains (pages_at_place n' place' c') m
      → IsOneOwner n place c n' place' c'
  one_owner chains n place c n' place' c' leaf leaf' live live' within within' m p q =
      let a = live_there n place leaf live in
      let b = live_there n' place' leaf' live' in
      let rows = one_row (row_there n place) (row_there n' place') a b m
      (in_row (row_there n place) c within m p) (in_row (row_there n' place') c' within' m q) in
      let page : n ≡ n' = ap (λ (r : Row). r.page) rows in
      let origin : origin_of Live (page_of file n) place ≡ origin_of Live (page_of file n') place' =
      ap (λ (r : Row). r.origin) rows in
      let origins : origin_of Live (page_of file n) place ≡ origin_of Live (page_of file n) place' =
      origin ∙ ap (λ (k : ℕ). origin_of Live (page_of file k) place') (sym page) in
      let here : Contains (places_of Live (page_of file n)) place' =
      subst (λ (k : ℕ). Contains (places_of Live (page_of file k)) place') (sym page) live' in
      record {
        same_page = page;
        same_place = one_place (page_of file n) (chains n leaf) place place' (live_place (page_of file n) place live).0
            (live_place (page_of file n) place' here).0 origins;
        same_column = one_cell (row_there n place) a c c' within within' m p
            (subst (λ (r : Row). Contains (cell_pages file table (page_of file r.page) r.origin c') m) (sym rows) q);
      }
