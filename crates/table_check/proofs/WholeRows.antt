-- Rows whose values lie whole on their leaves, in columns of which any bytes are values: no check of them is broken.
use Rattle.std.proofs.Common.{◌≡◌, ℕ, zero, suc, ◌+◌, ◌*◌, ◌/◌, ◌<◌, ◌≤◌, Bool, true, false, not, ◌&&◌, List, []}
use Rattle.std.proofs.Common.{◌∷◌, ◌++◌}
use Rattle.std.proofs.Common.{length, take, get_or, flat_map, All, None, refl, sym, ap, ◌∙◌, subst, arith}
use Rattle.std.proofs.lemmas.Bool.{true≢false}
use Rattle.std.proofs.lemmas.List.Edits.{length-between}
use Rattle.std.proofs.lemmas.List.Elements.{All-map, All-filter}
use Rattle.std.proofs.lemmas.List.FromFn.{get_or-map-range_with_len, length-map-range_with_len}
use Rattle.std.proofs.Math.Path.{fun_ext}
use Rattle.page_source.specs.Pages.{num, page_of, page_count}
use Rattle.page_source.proofs.Lists.{all_flat_map}
use Rattle.column_values.specs.declared.kind.ColumnType.{ColumnType}
use Rattle.column_values.specs.declared.kind.ColumnType.TheVariants as types
use Rattle.column_values.specs.declared.value.Value.TheVariants as values
use Rattle.column_values.specs.declared.field.FieldType.{FieldType}
use Rattle.column_values.specs.declared.field.FieldType.TheVariants.{Column, RowId, TrxId, RollPointer, Child}
use Rattle.column_values.specs.Types.{Fields, field_at, child_field, greatest_length, is_variable_kind, is_variable}
use Rattle.column_values.specs.Types.{fixed_length}
use Rattle.column_values.specs.Moments.{year_of}
use Rattle.column_values.specs.Spell.{IsSpelling}
use Rattle.column_values.proofs.IntegerValues.{spelling_of_size}
use Rattle.column_values.proofs.TextValues.{fit_spells}
use Rattle.compact_record.specs.declared.places.Place.{Place}
use Rattle.compact_record.specs.Keys.{IsOnPage}
use Rattle.compact_record.specs.Reading.{place_of, places_of, field_count, is_null, local_length, local_before}
use Rattle.compact_record.specs.Whole.{LiesWhole}
use Rattle.compact_record.proofs.KeySteps.{on_page}
use Rattle.index_page.specs.Header.{records_of}
use Rattle.space_audit.specs.Marks.{is_in, seen}
use Rattle.space_audit.proofs.Marking.{marked_none}
use Rattle.schema_text.specs.TableDef.{TableDef}
use Rattle.schema_text.specs.IndexFields.{leaf_fields}
use Rattle.tree_walk.specs.declared.ends.TreeEnds.{TreeEnds}
use Rattle.tree_walk.specs.Index.{Index, Row, page_in, rows_on, leaf_pages, leaf_rows, is_live_row}
use Rattle.tree_walk.specs.Laws.{RowsCanBeRead}
use Rattle.tree_walk.specs.Ends.{lies_whole}
use Rattle.tree_walk.specs.Leaf.{IsWalked}
use Rattle.tree_walk.specs.Records.{IsRecord}
use Rattle.tree_walk.specs.Segments.{leaf_segment}
use Rattle.tree_walk.specs.Walk.{RowLiesWhole}
use Rattle.tree_walk.proofs.LeafFacts.{leaf_facts}
use Rattle.column_values.specs.AnyBytes.{takes_any_bytes, field_takes_any, TakeAnyBytes}
use Rattle.table_check.specs.Trees.{index_in, clustered_tree, all_tree_pages}
use Rattle.table_check.specs.Taken.{AreExactly, IsClustered, IsReached}
use Rattle.table_check.specs.Values.{bytes_at, ValueChecks, FieldChecks, RecordChecksBy, RecordChecks, RowChecks}
use Rattle.table_check.specs.Values.{live_rows}
use Rattle.table_check.specs.Values.{pages_of_value, pages_of_field, pages_of_part, pages_of_record, pages_of_row}
use Rattle.table_check.specs.Values.{pages_of_rows, all_chain_pages}
use Rattle.table_check.specs.First.{ValueChecksOf}
use Rattle.table_check.proofs.RecordSteps.{part_more, whole_record}

-- any bytes of such a type, as many as a record keeps of a value, spell one
kind_spelled : (kind : ColumnType) (bytes : List ℕ) → takes_any_bytes kind ≡ true
    → length bytes ≤ greatest_length kind → (is_variable_kind kind ≡ false → length bytes ≡ greatest_length kind)
    → IsSpelling kind bytes
kind_spelled (types.Int w s) bytes any fits exact = spelling_of_size w s bytes (exact refl)
kind_spelled types.Date bytes any fits exact = absurd (true≢false (sym any))
kind_spelled (types.Char n) bytes any fits exact = fit_spells (types.Char n) bytes (exact refl)
kind_spelled (types.Varchar n) bytes any fits exact = fit_spells (types.Varchar n) bytes fits
kind_spelled (types.Binary n) bytes any fits exact = fit_spells (types.Binary n) bytes (exact refl)
kind_spelled (types.Varbinary n) bytes any fits exact = fit_spells (types.Varbinary n) bytes fits
kind_spelled (types.Text n) bytes any fits exact = fit_spells (types.Text n) bytes fits
kind_spelled (types.Blob n) bytes any fits exact = fit_spells (types.Blob n) bytes fits
kind_spelled (types.Utf8Varchar n) bytes any fits exact = absurd (true≢false (sym any))
kind_spelled (types.Utf8Text n) bytes any fits exact = absurd (true≢false (sym any))
kind_spelled (types.DateTime f) bytes any fits exact = absurd (true≢false (sym any))
kind_spelled (types.Timestamp f) bytes any fits exact = absurd (true≢false (sym any))
kind_spelled types.Year bytes any fits exact =
    (values.Year (year_of (num bytes 0 1)), record { size = exact refl; counted = refl })
kind_spelled (types.Decimal p s) bytes any fits exact = absurd (true≢false (sym any))

-- a value that lies on its leaf has no pages of its own
none_elsewhere : (file local : List ℕ) (null external : Bool) → external ≡ false
    → pages_of_value file local (not null && external) ≡ []
none_elsewhere file local true external here = refl
none_elsewhere file local false external here = ap (pages_of_value file local) here

module _ (page : List ℕ) (origin : ℕ) (fields : Fields) (size : length page ≡ 16384) (is : IsRecord page fields origin)
    (whole : LiesWhole page fields origin) (any : TakeAnyBytes fields) where
  module _ (i : ℕ) (within : i < field_count fields) where
    abbrev place : Place
    place = place_of page origin fields i

    kept_here : place.external ≡ false
    unfolding place_of
    kept_here = (whole i within).here

    on_the_page : IsOnPage place
    unfolding places_of
    on_the_page =
        let n = field_count fields in
        subst IsOnPage (get_or-map-range_with_len (place_of page origin fields) 0 n i i place within (omega arith))
        (on_page page origin fields is.ends i place (omega (
          arith,
          within,
          length-map-range_with_len
              (place_of page origin fields) 0 n,
        )))

    size_here : length (bytes_at page place) ≡ local_length page origin fields i
    unfolding place_of
    size_here =
        let before = local_before page origin fields i in
        let size_is = local_length page origin fields i in
        let inside : origin + before + size_is ≤ 16384 = on_the_page.inside in
        length-between page (origin + before) (origin + before + size_is) (omega (arith, inside, size)) ∙ omega arith

    fixed_here : place.null ≡ false → is_variable (field_at fields i).kind ≡ false
        → local_length page origin fields i ≡ fixed_length (field_at fields i).kind
    unfolding place_of local_length
    fixed_here present fixed = let null : is_null page origin fields i ≡ false = present in rw (null, fixed) refl

    -- no check of the field is broken
    checks_of : (file : List ℕ) (segment leaf : ℕ) (taken : ℕ → Bool) (kind : FieldType)
        → field_takes_any kind ≡ true → local_length page origin fields i ≤ fixed_length kind
        → (place.null ≡ false → is_variable kind ≡ false → local_length page origin fields i ≡ fixed_length kind)
        → FieldChecks file segment leaf kind page place taken None
    checks_of file segment leaf taken (Column kind) takes fits exact =
        λ present. subst (λ (external : Bool). ValueChecks file segment leaf kind (bytes_at page place) external taken
        None) (sym kept_here)
        (kind_spelled kind (bytes_at page place) takes (omega (arith, size_here, fits))
        (λ fixed. size_here ∙ exact present fixed))
    checks_of file segment leaf taken RowId takes fits exact = tt
    checks_of file segment leaf taken TrxId takes fits exact = tt
    checks_of file segment leaf taken RollPointer takes fits exact = tt
    checks_of file segment leaf taken Child takes fits exact = tt

    pub field_checked : (file : List ℕ) (segment leaf : ℕ) (taken : ℕ → Bool)
        → FieldChecks file segment leaf (field_at fields i).kind page place taken None
    field_checked file segment leaf taken =
        checks_of file segment leaf taken (field_at fields i).kind (any i child_field within) (whole i within).fits
        fixed_here

    -- and it has no pages
    pages_of : (file : List ℕ) (kind : FieldType) → pages_of_field file kind page place ≡ []
    pages_of file (Column kind) = none_elsewhere file (bytes_at page place) place.null place.external kept_here
    pages_of file RowId = refl
    pages_of file TrxId = refl
    pages_of file RollPointer = refl
    pages_of file Child = refl

  part_none : (file : List ℕ) (k : ℕ) → k ≤ field_count fields → pages_of_part file page origin fields k ≡ []
  part_none file zero within = refl
  part_none file (suc k) within =
      let e : suc k ≡ k + 1 = omega arith in
      ap (pages_of_part file page origin fields) e ∙ part_more file page origin fields k
      ∙ ap (λ (xs : List ℕ). xs ++ pages_of_field file (field_at fields k).kind page (place_of page origin fields k))
      (part_none file k (omega arith))
      ∙ pages_of k (omega arith) file (field_at fields k).kind

  -- the same of the record
  pub record_checked : (file : List ℕ) (segment leaf : ℕ) (taken : ℕ → Bool)
      → RecordChecks file segment leaf page origin fields taken None
  unfolding RecordChecksBy
  record_checked file segment leaf taken i within =
      field_checked i within file segment leaf (seen taken (pages_of_part file page origin fields i))

  pub record_none : (file : List ℕ) → pages_of_record file page origin fields ≡ []
  record_none file =
      whole_record file page origin fields ∙ part_none file (field_count fields) (omega arith)

-- a page of the file is whole
pub page_whole : (file : List ℕ) (n : ℕ) → n < page_count file → length (page_of file n) ≡ 16384
unfolding page_of page_count
page_whole file n within =
    let below : n < length file / 16384 = within in
    let fits : 16384 * n + 16384 ≤ length file = omega (arith, below) in
    length-between file (16384 * n) (16384 * n + 16384) fits ∙ omega arith

none_of_all : {X A : Type 0} (f : X → List A) (xs : List X) → All (λ x. f x ≡ []) xs → flat_map f xs ≡ []
none_of_all f [] all = refl
none_of_all f (x ∷ xs) all =
    ap (λ ys. ys ++ flat_map f xs) (all 0 x (omega arith))
    ∙ none_of_all f xs (λ k d below. all (suc k) d (omega (arith, below)))

module _ (index : Index) (walked : IsWalked index) (can : RowsCanBeRead)
    (whole : All (RowLiesWhole index) (leaf_rows index)) (any : TakeAnyBytes index.leaf) where
  abbrev IsWholePage : Row → Type 0
  IsWholePage row = length (page_in index row.page) ≡ 16384

  abbrev CanRead : Row → Type 0
  CanRead row = IsRecord (page_in index row.page) index.leaf row.origin

  whole_pages : All IsWholePage (leaf_rows index)
  whole_pages =
      let facts = leaf_facts index walked in
      all_flat_map IsWholePage (rows_on index) (leaf_pages index)
      (λ k d below. All-map IsWholePage _ (records_of (page_in index (get_or (leaf_pages index) k d)))
      (λ j e under. page_whole index.file (get_or (leaf_pages index) k d) (facts.within k d below)))

  live_of : (P : Row → Type 0) → All P (leaf_rows index) → All P (live_rows index)
  unfolding live_rows
  live_of P all = All-filter (is_live_row index) P (leaf_rows index) all

  -- no check of a row is broken
  pub rows_checked : (taken : ℕ → Bool) → RowChecks index taken None
  rows_checked taken k d below =
      let row = get_or (live_rows index) k d in
      record_checked (page_in index row.page) row.origin index.leaf (live_of IsWholePage whole_pages k d below)
      (live_of CanRead (can index walked) k d below) (live_of (RowLiesWhole index) whole k d below) any index.file
      (leaf_segment index) row.page (seen taken (pages_of_rows index (take k (live_rows index))))

  -- and no value goes on elsewhere
  pub rows_none : all_chain_pages index ≡ []
  unfolding pages_of_rows
  rows_none =
      none_of_all (pages_of_row index) (live_rows index)
      (λ k d below. let row = get_or (live_rows index) k d in
      record_none (page_in index row.page) row.origin index.leaf (live_of IsWholePage whole_pages k d below)
      (live_of CanRead (can index walked) k d below) (live_of (RowLiesWhole index) whole k d below) any index.file)

-- so it is with a table
module _ (file : List ℕ) (table : TableDef) (ends : TreeEnds) (fields : Fields) (can : RowsCanBeRead)
    (clustered : IsClustered file table ends) (whole : lies_whole ends ≡ true) (list : fields ≡ leaf_fields table 0)
    (any : TakeAnyBytes fields) where
  any_here : TakeAnyBytes (clustered_tree file table).leaf
  unfolding index_in
  any_here = subst TakeAnyBytes list any

  pub values_hold : ValueChecksOf file table None
  values_hold =
      rows_checked (clustered_tree file table) clustered.walked can (clustered.has_ends.whole whole) any_here
      (is_in (all_tree_pages file table))

  pub values_none : all_chain_pages (clustered_tree file table) ≡ []
  values_none =
      rows_none (clustered_tree file table) clustered.walked can (clustered.has_ends.whole whole) any_here

  pub values_reached : (marks : List Bool) → AreExactly marks (all_tree_pages file table) → IsReached file table marks
  values_reached marks exactly n =
      marked_none marks n
      ∙ ap (λ (taken : ℕ → Bool). seen taken [] n) (fun_ext exactly)
      ∙ ap (λ (pages : List ℕ). seen (is_in (all_tree_pages file table)) pages n) (sym values_none)
