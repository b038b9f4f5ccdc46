-- How many pages the levels of each index have, and how many the segments.
use Rattle.std.proofs.Common.{◌≡◌, ℕ, ◌+◌, ◌-◌, ◌*◌, ◌<◌, ◌≤◌, ◌==◌, cond, List, length, map, slice_get, slice_index}
use Rattle.std.proofs.Common.{Some, [], sym, ap, ◌∙◌, arith, inl, inr}
use Rattle.std.specs.List.{range_with_len, sum_by}
use Rattle.std.proofs.lemmas.Bool.{cases_lt}
use Rattle.std.proofs.lemmas.Option.{slice_get-get_or}
use Rattle.std.proofs.lemmas.List.{get_or_past, take_all}
use Rattle.std.proofs.lemmas.List.Sums.{get_or-le-sum_by}
use Rattle.std.proofs.lemmas.List.FromFn.{get_or-map-range_with_len, length-map-range_with_len}
use Rattle.schema_text.specs.TableDef.{TableDef}
use Rattle.schema_text.specs.IndexFields.{leaf_fields, node_fields}
use Rattle.space_layout.specs.Numbers.{size_at, extents_of, extents_before, extents_needed, IsShape}
use Rattle.tree_layout.specs.Division.{tree_levels, level_counts, CanDivide}
use Rattle.tree_layout.specs.DivisionLaws.{AreTheLevels}
use Rattle.tree_layout.specs.Levels.{width_at, top_of}
use Rattle.tree_layout.specs.Places.{top_size, leaf_size, FitsSegments}
use Rattle.tree_layout.proofs.Held.{length-counts, count_at}
use Rattle.row_store.specs.StoredRows.{Rows, stored_rows}
use Rattle.space_builder.specs.layout.Layout.{entries_with, tree_counts, value_total, index_sizes}
use Rattle.space_builder.specs.layout.Layout.{segment_sizes}
use Rattle.space_builder.specs.layout.LowerLaws.{LowerLaws}
use Rattle.space_builder.specs.layout.Laws.{CanBuild}
use Rattle.space_builder.proofs.layout.FittedRows.{are_fitted}
use Rattle.row_layout.proofs.Ranges.{all_map}

-- a segment of a tablespace that can be built is small
pub size_small : (sizes : List ℕ) (s : ℕ) → extents_needed sizes ≤ 256 → size_at sizes s ≤ 16416
unfolding extents_before
size_small sizes s fits =
    elim (cases_lt s (length sizes)) [
      | inl below ↦
          let here = get_or-le-sum_by extents_of sizes s 0 below in
          let all = ap (sum_by extents_of) (take_all (length sizes) sizes (omega arith)) in
          omega arith
      | inr past ↦ omega (arith, get_or_past sizes s 0 past)
    ]

module _ (laws : LowerLaws) (table : TableDef) (rows : Rows) where
  pub counts_with : (numbers : ℕ → ℕ → ℕ) (number : ℕ → ℕ → ℕ → ℕ) (j : ℕ)
      → level_counts
      (tree_levels (leaf_fields table j) (node_fields table j) numbers (entries_with table rows number j))
      ≡ tree_counts table rows j
  unfolding tree_counts
  counts_with numbers number j =
      laws.tree.counts (leaf_fields table j) (node_fields table j) numbers (λ l k. 0) (entries_with table rows number j)
      (entries_with table rows (λ r i k. 0) j)
      (laws.row.alike table rows (stored_rows table rows) number (λ r i k. 0) j)

  -- the sizes of the segments
  pair_at : (j : ℕ) → j < length table.indexes
      → slice_get (map (index_sizes table rows) (range_with_len 0 (length table.indexes))) j
      ≡ Some (index_sizes table rows j)
  pair_at j inside =
      let size = length-map-range_with_len (index_sizes table rows) 0 (length table.indexes) in
      slice_get-get_or (map (index_sizes table rows) (range_with_len 0 (length table.indexes))) j (0, 0) (omega arith)
      ∙ ap (λ (pair : ℕ × ℕ). Some pair)
      (get_or-map-range_with_len (index_sizes table rows) 0 (length table.indexes) j j (0, 0) inside (omega arith))

  pub top_is : (j : ℕ) → j < length table.indexes
      → size_at (segment_sizes table rows) (2 * j) ≡ top_size (tree_counts table rows j)
  unfolding segment_sizes
  top_is j inside =
      (laws.space.sizes (map (index_sizes table rows) (range_with_len 0 (length table.indexes)))).top j
      (index_sizes table rows j) (pair_at j inside)

  pub leaf_is : (j : ℕ) → j < length table.indexes
      → size_at (segment_sizes table rows) (2 * j + 1)
      ≡ leaf_size (tree_counts table rows j) + cond (j == 0) (value_total table rows) 0
  unfolding segment_sizes
  leaf_is j inside =
      (laws.space.sizes (map (index_sizes table rows) (range_with_len 0 (length table.indexes)))).leaf j
      (index_sizes table rows j) (pair_at j inside)

  pub segments_are : length (segment_sizes table rows) ≡ 2 * length table.indexes
  unfolding segment_sizes
  segments_are =
      let size = length-map-range_with_len (index_sizes table rows) 0 (length table.indexes) in
      (laws.space.sizes (map (index_sizes table rows) (range_with_len 0 (length table.indexes)))).count ∙ omega arith

  module _ (can : CanBuild table rows) (j : ℕ) (inside : j < length table.indexes) where
    pub can_divide : (number : ℕ → ℕ → ℕ → ℕ)
        → CanDivide (leaf_fields table j) (node_fields table j) (entries_with table rows number j)
    can_divide number =
        laws.row.divide table rows (stored_rows table rows) number j can.is_table (are_fitted table rows can) can.few
        can.rise inside

    pub the_levels : (numbers : ℕ → ℕ → ℕ) (number : ℕ → ℕ → ℕ → ℕ)
        → AreTheLevels (leaf_fields table j) (node_fields table j) numbers (entries_with table rows number j)
        (tree_levels (leaf_fields table j) (node_fields table j) numbers (entries_with table rows number j))
    the_levels numbers number =
        laws.tree.levels (leaf_fields table j) (node_fields table j) numbers (entries_with table rows number j)
        (can_divide number)

    pub length_is : (numbers : ℕ → ℕ → ℕ) (number : ℕ → ℕ → ℕ → ℕ) → length (tree_counts table rows j)
        ≡ length (tree_levels (leaf_fields table j) (node_fields table j) numbers (entries_with table rows number j))
    length_is numbers number =
        ap length (sym (counts_with numbers number j))
        ∙ length-counts
        (tree_levels (leaf_fields table j) (node_fields table j) numbers (entries_with table rows number j))

    pub width_is : (numbers : ℕ → ℕ → ℕ) (number : ℕ → ℕ → ℕ → ℕ) (l : ℕ) → l < length (tree_counts table rows j)
        → slice_index (tree_counts table rows j) l ≡ width_at
        (tree_levels (leaf_fields table j) (node_fields table j) numbers (entries_with table rows number j)) l
    width_is numbers number l within =
        let same = length_is numbers number in
        ap (λ counts. slice_index counts l) (sym (counts_with numbers number j))
        ∙ count_at (tree_levels (leaf_fields table j) (node_fields table j) numbers (entries_with table rows number j))
        l (omega arith)

    pub fits_segments : FitsSegments (tree_counts table rows j) (size_at (segment_sizes table rows)) j
    fits_segments =
        let levels = tree_levels (leaf_fields table j) (node_fields table j) (λ l k. 0)
        (entries_with table rows (λ r i k. 0) j) in
        let tree = (the_levels (λ l k. 0) (λ r i k. 0)).are_levels in
        let some = tree.some in
        let same : length (tree_counts table rows j) ≡ length levels = length_is (λ l k. 0) (λ r i k. 0) in
        let last : length (tree_counts table rows j) - 1 ≡ top_of levels = ap (λ n. n - 1) same in
        let width = width_is (λ l k. 0) (λ r i k. 0) (top_of levels) (omega arith) in
        let top = top_is j inside in
        let leaf = leaf_is j inside in record {
          some = omega arith;
          single = ap (slice_index (tree_counts table rows j)) last ∙ width ∙ tree.single;
          top = omega arith;
          leaf = omega arith;
        }

    root_some : 1 ≤ top_size (tree_counts table rows j)
    root_some =
        let fits = fits_segments in
        let counts = tree_counts table rows j in
        let single = fits.single in
        let some = fits.some in
        let places = laws.tree.places counts (size_at (segment_sizes table rows)) j fits in
        elim (places.placed (length counts - 1) 0 (omega arith) (omega arith)) [
          | inl top ↦ let below = top.1 in omega arith
          | inr leaf ↦ let is = leaf.0 in let root = places.root_segment in absurd (omega arith)
        ]

  pub is_shape : CanBuild table rows → IsShape (segment_sizes table rows)
  unfolding segment_sizes
  is_shape can =
      let pairs = map (index_sizes table rows) (range_with_len 0 (length table.indexes)) in
      let size = length-map-range_with_len (index_sizes table rows) 0 (length table.indexes) in
      let most = can.is_table.indexes in
      laws.space.shape pairs record {
        few = omega arith;
        roots = all_map (λ (pair : ℕ × ℕ). 1 ≤ pair.0) (index_sizes table rows) (length table.indexes) (0, 0)
            (λ j inside. root_some can j inside);
        fits = can.fits;
      }
