-- The pages of the segments of a built tablespace: each stands at its place, and each place has one.
use Rattle.std.proofs.Common.{◌≡◌, ℕ, zero, suc, ◌+◌, ◌*◌, ◌^◌, ◌<◌, ◌≤◌, Bool, true, false, cond, List, []}
use Rattle.std.proofs.Common.{length, map, drop, ◌-◌, slice_index, Contains, ◌⊎◌, eqb, ◌≢◌}
use Rattle.std.proofs.Common.{refl, sym, ap, ◌∙◌, subst, arith, inl, inr, lit<}
use Rattle.std.specs.List.{All, flat_map, range_with_len}
use Rattle.std.proofs.lemmas.Bool.Decides.{eqb_tells}
use Rattle.std.proofs.lemmas.List.{length-map, length-take, get_or-map}
use Rattle.std.proofs.lemmas.List.Elements.{All-append, Contains-append_left, Contains-append_right}
use Rattle.std.proofs.lemmas.List.FromFn.{get_or-map-range_with_len, length-map-range_with_len}
use Rattle.page_source.specs.Pages.{fil_null}
use Rattle.offpage_chain.specs.ValuePageLaws.{IsPartPage}
use Rattle.column_values.specs.Types.{AreFields}
use Rattle.schema_text.specs.TableDef.{TableDef}
use Rattle.schema_text.specs.IndexFields.{leaf_fields, node_fields}
use Rattle.schema_text.proofs.FieldLemmas.{leaf_good, node_good}
use Rattle.space_layout.specs.Numbers.{size_at, segment_page, space_pages, IsShape, IsPlace, AreNumbers}
use Rattle.space_layout.specs.NumberedPages.{IsNumbered}
use Rattle.space_layout.specs.ValuePlaces.{row_at, value_place, IsPart, HavePlaces}
use Rattle.tree_layout.specs.DivisionLaws.{AreTheLevels}
use Rattle.tree_layout.specs.Levels.{EachPage, width_at}
use Rattle.tree_layout.specs.Places.{segment_for, place_for, leaf_size, IsTreePlace, FitsSegments}
use Rattle.tree_layout.specs.PlaceLaws.{StandApart, FillPlaces}
use Rattle.row_layout.specs.StoredRow.{Stored, stored_at}
use Rattle.row_layout.specs.HoldsValues.{stored_in, pages_of_stored, pages_for, blob_part, next_number}
use Rattle.row_store.specs.StoredRows.{Rows, stored_rows}
use Rattle.space_builder.specs.layout.Layout.{tree_counts, value_counts, segment_sizes}
use Rattle.space_builder.specs.layout.Layout.{value_number, page_number, index_entries, index_levels, layout_tree_page}
use Rattle.space_builder.specs.layout.Layout.{field_bytes, layout_value_page}
use Rattle.space_builder.specs.layout.LowerLaws.{LowerLaws}
use Rattle.space_builder.specs.layout.ValuePage.{value_page_bytes}
use Rattle.space_builder.specs.layout.Laws.{CanBuild}
use Rattle.space_builder.proofs.layout.TreePages as pages
use Rattle.space_builder.proofs.layout.Sizes.{leaf_is, segments_are, is_shape, the_levels, length_is, width_is}
use Rattle.space_builder.proofs.layout.Sizes.{fits_segments}

-- lists over a range
pub all_flat : {A : Type 0} (P : A → Type 0) (f : ℕ → List A) (from count : ℕ)
    → ((i : ℕ) → from ≤ i → i < from + count → All P (f i)) → All P (flat_map f (range_with_len from count))
all_flat P f from zero each = λ k d below. absurd (omega arith)
all_flat P f from (suc count) each =
    All-append P (f from) (flat_map f (range_with_len (from + 1) count)) (each from (omega arith) (omega arith))
    (all_flat P f (from + 1) count (λ i low high. each i (omega arith) (omega arith)))

contains_from : {A : Type 0} (f : ℕ → List A) (from count i : ℕ) (x : A) → from ≤ i → i < from + count
    → Contains (f i) x → Contains (flat_map f (range_with_len from count)) x
contains_from f from zero i x low high has = absurd (omega arith)
contains_from f from (suc count) i x low high has =
    elim (eqb_tells from i) [
      | inl here ↦
          Contains-append_left (f from) (flat_map f (range_with_len (from + 1) count)) x
          (subst (λ n. Contains (f n) x) (sym here.1) has)
      | inr there ↦
          Contains-append_right (f from) (flat_map f (range_with_len (from + 1) count)) x
          (contains_from f (from + 1) count i x (let no = there.1 in omega arith) (omega arith) has)
    ]

pub contains_flat : {A : Type 0} (f : ℕ → List A) (count i : ℕ) (x : A) → i < count → Contains (f i) x
    → Contains (flat_map f (range_with_len 0 count)) x
contains_flat f count i x below has = contains_from f 0 count i x (omega arith) (omega arith) has

pub contains_mapped : {A : Type 0} (f : ℕ → A) (count k : ℕ) → k < count
    → Contains (map f (range_with_len 0 count)) (f k)
contains_mapped f count k below =
    let size = length-map-range_with_len f 0 count in
    (k, omega arith, get_or-map-range_with_len f 0 count k k (f k) below (omega arith))

pub contains_image : {A B : Type 0} (g : A → B) (xs : List A) (x : A) → Contains xs x → Contains (map g xs) (g x)
contains_image g xs x has =
    let size = length-map xs g in
    let below = has.1 in
    (has.0, omega arith, get_or-map g xs has.0 x (g x) has.1 ∙ ap g has.2)

module _ (laws : LowerLaws) (table : TableDef) (rows : Rows) (can : CanBuild table rows) where
  abbrev sizes : List ℕ
  sizes = segment_sizes table rows

  abbrev counts : ℕ → List ℕ
  counts j = tree_counts table rows j

  abbrev n_indexes : ℕ
  n_indexes = length table.indexes

  pub shape : IsShape sizes
  shape = is_shape laws table rows can

  pub numbers : AreNumbers sizes
  numbers = laws.space.numbers sizes shape

  pub size_few : space_pages sizes ≤ 16384
  size_few = let fits = can.fits in omega arith

  -- the tree of index j
  module _ (j : ℕ) (index : j < n_indexes) where
    pub levels_good : AreTheLevels (leaf_fields table j) (node_fields table j) (page_number table rows j)
        (index_entries table rows j) (index_levels table rows j)
    unfolding index_levels index_entries
    levels_good =
        the_levels laws table rows can j index (page_number table rows j) (value_number table rows)

    pub levels_length : length (counts j) ≡ length (index_levels table rows j)
    unfolding index_levels index_entries
    levels_length =
        length_is laws table rows can j index (page_number table rows j) (value_number table rows)

    pub levels_width : (l : ℕ) → l < length (counts j)
        → slice_index (counts j) l ≡ width_at (index_levels table rows j) l
    unfolding index_levels index_entries
    levels_width =
        width_is laws table rows can j index (page_number table rows j) (value_number table rows)

    pub fits : FitsSegments (counts j) (size_at sizes) j
    fits = fits_segments laws table rows can j index

    pub fill : FillPlaces (counts j) j
    fill = laws.tree.places (counts j) (size_at sizes) j fits

    pub stand : StandApart (segment_page sizes) (size_at sizes) (counts j) j
    stand = laws.tree.different (segment_page sizes) (size_at sizes) (counts j) j numbers.one fits

    segment_below : (s i : ℕ) → IsTreePlace (counts j) j s i → s < length sizes
    segment_below s i (inl top) = let count = segments_are laws table rows in let is = top.0 in omega arith
    segment_below s i (inr leaf) = let count = segments_are laws table rows in let is = leaf.0 in omega arith

    pub page_place : (l k : ℕ) → l < length (counts j) → k < slice_index (counts j) l
        → IsPlace sizes (segment_for (counts j) j l) (place_for (counts j) l k) (page_number table rows j l k)
    unfolding page_number
    page_place l k inside within = record {
      below = segment_below (segment_for (counts j) j l) (place_for (counts j) l k)
          (fill.placed l k inside within);
      inside = stand.within l k inside within;
      there = refl;
    }

    -- by the levels themselves
    module _ (l k : ℕ) (inside : l < length (index_levels table rows j))
        (within : k < width_at (index_levels table rows j) l) where
      pub inside_counts : l < length (counts j)
      inside_counts = let same = levels_length in omega arith

      pub within_counts : k < slice_index (counts j) l
      within_counts = let same = levels_width l inside_counts in omega arith

    pub page_small : EachPage (index_levels table rows j) (λ l k. page_number table rows j l k < fil_null)
    page_small l k inside within =
        let high = numbers.high (segment_for (counts j) j l) (place_for (counts j) l k) (page_number table rows j l k)
        (page_place l k (inside_counts l k inside within) (within_counts l k inside within)) in
        let few = size_few in
        omega arith

    pub leaf_fields_good : AreFields (leaf_fields table j)
    leaf_fields_good = leaf_good table j can.is_table index

    pub node_fields_good : AreFields (node_fields table j)
    node_fields_good = node_good table j can.is_table index

    pub index_few : j < 16
    index_few = let most = can.is_table.indexes in omega arith

    pub tree_numbered : (l k : ℕ) → l < length (index_levels table rows j) → k < width_at (index_levels table rows j) l
        → IsNumbered sizes (page_number table rows j l k, layout_tree_page table rows j l k)
    tree_numbered l k inside within =
        let seals = pages.page_seals laws.page (leaf_fields table j)
        (node_fields table j) (page_number table rows j) (index_levels table rows j) (index_entries table rows j)
        levels_good leaf_fields_good node_fields_good j index_few page_small l k inside within in
        record {
          whole = pages.page_long laws.page (leaf_fields table j)
              (node_fields table j) (page_number table rows j) (index_levels table rows j)
              (index_entries table rows j) levels_good leaf_fields_good node_fields_good j index_few page_small l k
              inside within;
          bytes = record { framed = seals.framed; kind = inl seals.has_kind };
          segment = segment_for (counts j) j l;
          at = place_for (counts j) l k;
          place = page_place l k (inside_counts l k inside within) (within_counts l k inside within);
        }

  -- the values
  abbrev parts : List (List ℕ)
  parts = value_counts table rows

  pub places : HavePlaces parts
  places = laws.space.places parts

  some_index : 0 < n_indexes
  some_index = let some = can.is_table.clustered in omega arith

  pub value_place_is : (r i k : ℕ) → IsPart parts r i k
      → IsPlace sizes 1 (leaf_size (counts 0) + value_place parts r i k) (value_number table rows r i k)
  unfolding value_number
  value_place_is r i k part =
      let count = segments_are laws table rows in
      let some = some_index in
      let size = leaf_is laws table rows 0 some in
      let below = places.below r i k part in record {
        below = omega arith;
        inside = omega arith;
        there = refl;
      }

  pub value_small : (r i k : ℕ) → IsPart parts r i k → value_number table rows r i k < fil_null
  value_small r i k part =
      let high = numbers.high 1 (leaf_size (counts 0) + value_place parts r i k) (value_number table rows r i k)
      (value_place_is r i k part) in
      let few = size_few in
      omega arith

  abbrev stored : List (List Stored)
  stored = stored_rows table rows

  pub parts_long : length parts ≡ length stored
  unfolding value_counts
  parts_long = length-map stored (λ (row : List Stored). map (pages_of_stored table.format) row)

  pub row_is : (r : ℕ) → r < length stored → row_at parts r ≡ map (pages_of_stored table.format) (stored_in stored r)
  unfolding value_counts
  row_is r below = get_or-map (λ (row : List Stored). map (pages_of_stored table.format) row) stored r [] [] below

  pub row_long : (r : ℕ) → r < length stored → length (row_at parts r) ≡ length (stored_in stored r)
  row_long r below =
      ap length (row_is r below) ∙ length-map (stored_in stored r) (pages_of_stored table.format)

  pub field_is : (r i : ℕ) → r < length stored → i < length (stored_in stored r)
      → slice_index (row_at parts r) i ≡ pages_of_stored table.format (stored_at (stored_in stored r) i)
  field_is r i below inside =
      ap (λ row. slice_index row i) (row_is r below)
      ∙ get_or-map (pages_of_stored table.format) (stored_in stored r) i
      (record { null = true; off = false; bytes = [] }) 0 inside

  -- a field with pages goes on in as many as its bytes need
  pages_when : (off : Bool) (n k m : ℕ) → k < m → m ≡ cond off n 0 → (m ≡ n) × (off ≡ true)
  pages_when true n k m below is = (is, refl)
  pages_when false n k m below is = absurd (omega arith)

  pub part_pages : (r i k : ℕ) → IsPart parts r i k
      → (slice_index (row_at parts r) i ≡ pages_for (length (field_bytes table rows r i)))
      × ((stored_at (stored_in stored r) i).off ≡ true)
  part_pages r i k part =
      let long = parts_long in
      let row = part.row in
      let size = row_long r (omega arith) in
      let field = part.field in
      pages_when (stored_at (stored_in stored r) i).off (pages_for (length (field_bytes table rows r i))) k
      (slice_index (row_at parts r) i) part.part (field_is r i (omega arith) (omega arith))

  next_small : (r i k : ℕ) → IsPart parts r i k
      → next_number (value_number table rows r i) (pages_for (length (field_bytes table rows r i))) k < 2 ^ 32
  next_small r i k part =
      let here = part.part in
      let many = (part_pages r i k part).0 in
      by_test (eqb_tells (k + 1) (pages_for (length (field_bytes table rows r i))))
    where
      by_test : ((eqb (k + 1) (pages_for (length (field_bytes table rows r i))) ≡ true)
          × (k + 1 ≡ pages_for (length (field_bytes table rows r i))))
          ⊎ ((eqb (k + 1) (pages_for (length (field_bytes table rows r i))) ≡ false)
          × (k + 1 ≢ pages_for (length (field_bytes table rows r i))))
          → next_number (value_number table rows r i) (pages_for (length (field_bytes table rows r i))) k < 2 ^ 32
      by_test (inl last) =
          subst (λ b. cond b fil_null (value_number table rows r i (k + 1)) < 2 ^ 32) (sym last.0) (lit< tt)
      by_test (inr more) =
          let no = more.1 in
          let here = part.part in
          let many = (part_pages r i k part).0 in
          let small = value_small r i (k + 1) record { row = part.row; field = part.field; part = omega arith } in
          subst (λ b. cond b fil_null (value_number table rows r i (k + 1)) < 2 ^ 32) (sym more.0) (omega arith)

  pub value_read : (r i k : ℕ) → IsPart parts r i k
      → IsPartPage (layout_value_page table rows r i k) 1 (value_number table rows r i k)
      (next_number (value_number table rows r i) (pages_for (length (field_bytes table rows r i))) k)
      (blob_part (field_bytes table rows r i) k)
  unfolding value_page_bytes
  value_read r i k part =
      let bytes = field_bytes table rows r i in
      let small = value_small r i k part in
      let short = length-take (16330 * k + 16330 - 16330 * k) (drop (16330 * k) bytes) in
      laws.page.parts 1 (value_number table rows r i k)
      (next_number (value_number table rows r i) (pages_for (length bytes)) k) (blob_part bytes k) (lit< tt)
      (omega arith)
      (next_small r i k part) (omega arith)

  pub value_numbered : (r i k : ℕ) → IsPart parts r i k
      → IsNumbered sizes (value_number table rows r i k, layout_value_page table rows r i k)
  value_numbered r i k part =
      let read = value_read r i k part in record {
        whole = read.whole;
        bytes = record { framed = read.framed; kind = inr read.has_kind };
        segment = 1;
        at = leaf_size (counts 0) + value_place parts r i k;
        place = value_place_is r i k part;
      }
