-- The map of the pages of a built tablespace has each page at its number, and so has the file.
use Rattle.std.proofs.Common.{◌≡◌, ◌≢◌, ℕ, ◌+◌, ◌-◌, ◌*◌, ◌/◌, ◌%◌, ◌<◌, ◌≤◌, ◌==◌, cond, List, []}
use Rattle.std.proofs.Common.{true, false, eqb, length, map, get_or, Contains, ◌⊎◌}
use Rattle.std.proofs.Common.{refl, sym, ap, ◌∙◌, subst, arith, inl, inr}
use Rattle.std.specs.List.{All, flat_map, range_with_len}
use Rattle.std.proofs.lemmas.Bool.{cases_lt}
use Rattle.std.proofs.lemmas.Bool.Decides.{eqb_tells}
use Rattle.std.proofs.lemmas.List.Elements.{All-append, Contains-append_left, Contains-append_right}
use Rattle.schema_text.specs.TableDef.{TableDef}
use Rattle.space_layout.specs.Numbers.{size_at, segment_page, IsPlace}
use Rattle.space_layout.specs.NumberedPages.{Numbered, IsNumbered, AreSegmentPages}
use Rattle.space_layout.specs.ValuePlaces.{IsPart}
use Rattle.tree_layout.specs.Levels.{width_at}
use Rattle.tree_layout.specs.Places.{place_for, leaf_size, IsTreePlace}
use Rattle.row_store.specs.StoredRows.{Rows, stored_rows}
use Rattle.space_builder.specs.layout.Layout.{tree_counts, value_counts, value_total, segment_sizes, value_number}
use Rattle.space_builder.specs.layout.Layout.{page_number, index_levels, layout_tree_page, level_pages, index_pages}
use Rattle.space_builder.specs.layout.Layout.{layout_value_page, value_pages, segment_pages}
use Rattle.space_builder.specs.layout.ValuePage.{pages_of_field, pages_of_row, pages_of_values}
use Rattle.row_layout.specs.StoredRow.{Stored, stored_at}
use Rattle.row_layout.specs.HoldsValues.{stored_in, pages_of_stored}
use Rattle.row_layout.proofs.Ranges.{all_map}
use Rattle.space_builder.specs.layout.LowerLaws.{LowerLaws}
use Rattle.space_builder.specs.layout.Laws.{CanBuild}
use Rattle.space_builder.proofs.layout.Laid.{all_flat, contains_flat, contains_mapped, contains_image}
use Rattle.space_builder.proofs.layout.Laid.{fill, levels_length, levels_width}
use Rattle.space_builder.proofs.layout.Laid.{tree_numbered, places, parts_long, row_long, field_is}
use Rattle.space_builder.proofs.layout.Laid.{value_numbered}
use Rattle.space_builder.proofs.layout.Sizes.{top_is, leaf_is, segments_are}

-- a page of a tree, and one of a value, with its number
pub record LaidTree (table : TableDef) (rows : Rows) (entry : Numbered) : Type 0 where
  pub j : ℕ
  pub l : ℕ
  pub k : ℕ
  pub index : j < length table.indexes
  pub inside : l < length (index_levels table rows j)
  pub within : k < width_at (index_levels table rows j) l
  pub number : entry.0 ≡ page_number table rows j l k
  pub page : entry.1 ≡ layout_tree_page table rows j l k

pub record LaidValue (table : TableDef) (rows : Rows) (entry : Numbered) : Type 0 where
  pub r : ℕ
  pub i : ℕ
  pub k : ℕ
  pub part : IsPart (value_counts table rows) r i k
  pub number : entry.0 ≡ value_number table rows r i k
  pub page : entry.1 ≡ layout_value_page table rows r i k

abbrev pub IsLaid : TableDef → Rows → Numbered → Type 0
IsLaid table rows entry = LaidTree table rows entry ⊎ LaidValue table rows entry

no_page : Numbered
no_page = (0, [])

pair_is : (entry : Numbered) (n : ℕ) (page : List ℕ) → entry.0 ≡ n → entry.1 ≡ page → (n, page) ≡ entry
pair_is entry n page number bytes =
    sym (ap (λ (m : ℕ). (m, entry.1)) number ∙ ap (λ (p : List ℕ). (n, p)) bytes)

module _ (laws : LowerLaws) (table : TableDef) (rows : Rows) (can : CanBuild table rows) where
  abbrev sizes : List ℕ
  sizes = segment_sizes table rows

  abbrev counts : ℕ → List ℕ
  counts j = tree_counts table rows j

  abbrev parts : List (List ℕ)
  parts = value_counts table rows

  abbrev stored : List (List Stored)
  stored = stored_rows table rows

  -- a page of a stored field is a part
  part_of : (r i k : ℕ) → r < length stored → i < length (stored_in stored r)
      → k < pages_of_stored table.format (stored_at (stored_in stored r) i) → IsPart parts r i k
  part_of r i k row field within =
      let long = parts_long laws table rows can in
      let size = row_long laws table rows can r row in
      let here = field_is laws table rows can r i row field in
      record { row = omega arith; field = omega arith; part = omega arith }

  pub all_laid : All (IsLaid table rows) (segment_pages table rows)
  unfolding segment_pages pages_of_values
  all_laid =
      All-append (IsLaid table rows) (flat_map (index_pages table rows) (range_with_len 0 (length table.indexes)))
      (value_pages table rows)
      (all_flat (IsLaid table rows) (index_pages table rows) 0 (length table.indexes)
      (λ j low index. all_flat (IsLaid table rows) (level_pages table rows j) 0 (length (index_levels table rows j))
      (λ l under inside. all_map (IsLaid table rows)
      (λ k. (page_number table rows j l k, layout_tree_page table rows j l k)) (width_at (index_levels table rows j) l)
      no_page
      (λ k within. inl record {
        j = j;
        l = l;
        k = k;
        index = omega arith;
        inside = omega arith;
        within = within;
        number = refl;
        page = refl;
      }))))
      (all_flat (IsLaid table rows) (λ r. pages_of_row table.format (value_number table rows r) (stored_in stored r)) 0
      (length stored)
      (λ r low row. all_flat (IsLaid table rows)
      (λ i. pages_of_field table.format (value_number table rows r i) (stored_at (stored_in stored r) i)) 0
      (length (stored_in stored r))
      (λ i under field. all_map (IsLaid table rows)
      (λ k. (value_number table rows r i k, layout_value_page table rows r i k))
      (pages_of_stored table.format (stored_at (stored_in stored r) i)) no_page
      (λ k within. inr record {
        r = r;
        i = i;
        k = k;
        part = part_of r i k (omega arith) (omega arith) within;
        number = refl;
        page = refl;
      }))))

  -- each page is there
  tree_there : (j l k : ℕ) → j < length table.indexes → l < length (index_levels table rows j)
      → k < width_at (index_levels table rows j) l
      → Contains (map (λ (entry : Numbered). entry.0) (segment_pages table rows)) (page_number table rows j l k)
  unfolding segment_pages
  tree_there j l k index inside within =
      contains_image (λ (entry : Numbered). entry.0) (segment_pages table rows)
      (page_number table rows j l k, layout_tree_page table rows j l k)
      (Contains-append_left (flat_map (index_pages table rows) (range_with_len 0 (length table.indexes)))
      (value_pages table rows)
      (page_number table rows j l k, layout_tree_page table rows j l k)
      (contains_flat (index_pages table rows) (length table.indexes) j
      (page_number table rows j l k, layout_tree_page table rows j l k) index
      (contains_flat (level_pages table rows j) (length (index_levels table rows j)) l
      (page_number table rows j l k, layout_tree_page table rows j l k) inside
      (contains_mapped (λ k. (page_number table rows j l k, layout_tree_page table rows j l k))
      (width_at (index_levels table rows j) l) k within))))

  value_there : (r i k : ℕ) → IsPart parts r i k
      → Contains (map (λ (entry : Numbered). entry.0) (segment_pages table rows)) (value_number table rows r i k)
  unfolding segment_pages pages_of_values
  value_there r i k part =
      let long = parts_long laws table rows can in
      let in_rows = part.row in
      let row : r < length stored = omega arith in
      let size = row_long laws table rows can r row in
      let in_row = part.field in
      let field : i < length (stored_in stored r) = omega arith in
      let here = field_is laws table rows can r i row field in
      let in_field = part.part in
      contains_image (λ (entry : Numbered). entry.0) (segment_pages table rows)
      (value_number table rows r i k, layout_value_page table rows r i k)
      (Contains-append_right (flat_map (index_pages table rows) (range_with_len 0 (length table.indexes)))
      (value_pages table rows)
      (value_number table rows r i k, layout_value_page table rows r i k)
      (contains_flat (λ r. pages_of_row table.format (value_number table rows r) (stored_in stored r)) (length stored) r
      (value_number table rows r i k, layout_value_page table rows r i k) row
      (contains_flat
      (λ i. pages_of_field table.format (value_number table rows r i) (stored_at (stored_in stored r) i))
      (length (stored_in stored r)) i
      (value_number table rows r i k, layout_value_page table rows r i k) field
      (contains_mapped (λ k. (value_number table rows r i k, layout_value_page table rows r i k))
      (pages_of_stored table.format (stored_at (stored_in stored r) i)) k (omega arith)))))

  -- each place of the tree of an index has its page
  place_there : (j s i : ℕ) → j < length table.indexes → IsTreePlace (counts j) j s i
      → Contains (map (λ (entry : Numbered). entry.0) (segment_pages table rows)) (segment_page sizes s i)
  unfolding page_number
  place_there j s i index place =
      let found = (fill laws table rows can j index).filled s i place in
      let inside = found.inside in
      let within = found.within in
      let same = levels_length laws table rows can j index in
      let width = levels_width laws table rows can j index found.l found.inside in
      let number : page_number table rows j found.l found.k ≡ segment_page sizes s i =
      ap (λ t. segment_page sizes t (place_for (counts j) found.l found.k)) found.segment
      ∙ ap (segment_page sizes s) found.place in
      subst (Contains (map (λ (entry : Numbered). entry.0) (segment_pages table rows))) number
      (tree_there j found.l found.k index (omega arith) (omega arith))

  part_there : (i : ℕ) → i < value_total table rows
      → Contains (map (λ (entry : Numbered). entry.0) (segment_pages table rows))
      (segment_page sizes 1 (leaf_size (counts 0) + i))
  unfolding value_number
  part_there i inside =
      let at = (places laws table rows can).every i inside in
      subst (λ n. Contains (map (λ (entry : Numbered). entry.0) (segment_pages table rows))
      (segment_page sizes 1 (leaf_size (counts 0) + n))) at.there (value_there at.r at.i at.k at.is)

  pub every_there : (s i n : ℕ) → IsPlace sizes s i n
      → Contains (map (λ (entry : Numbered). entry.0) (segment_pages table rows)) n
  every_there s i n place =
      let count = segments_are laws table rows in
      let below = place.below in
      let inside = place.inside in
      subst (Contains (map (λ (entry : Numbered). entry.0) (segment_pages table rows))) place.there
      (elim (eqb_tells (s % 2) 0) [
        | inl even ↦
            let half : s ≡ 2 * (s / 2) = (let e = even.1 in omega arith) in
            let size = top_is laws table rows (s / 2) (omega arith) in
            let here : i < size_at sizes (2 * (s / 2)) = subst (λ t. i < size_at sizes t) half inside in
            place_there (s / 2) s i (omega arith) (inl (half, omega arith))
        | inr odd ↦
            let half : s ≡ 2 * (s / 2) + 1 = (let o = odd.1 in omega arith) in
            let size = leaf_is laws table rows (s / 2) (omega arith) in
            let here : i < size_at sizes (2 * (s / 2) + 1) = subst (λ t. i < size_at sizes t) half inside in
            elim (cases_lt i (leaf_size (counts (s / 2)))) [
              | inl leaf ↦ place_there (s / 2) s i (omega arith) (inr (half, leaf))
              | inr behind ↦ behind_leaves s i (s / 2) half (eqb_tells (s / 2) 0) size here behind
            ]
      ])
    where
      behind_leaves : (s i j : ℕ) → s ≡ 2 * j + 1 → ((eqb j 0 ≡ true) × (j ≡ 0)) ⊎ ((eqb j 0 ≡ false) × (j ≢ 0))
          → size_at sizes (2 * j + 1) ≡ leaf_size (counts j) + cond (j == 0) (value_total table rows) 0
          → i < size_at sizes (2 * j + 1) → leaf_size (counts j) ≤ i
          → Contains (map (λ (entry : Numbered). entry.0) (segment_pages table rows)) (segment_page sizes s i)
      behind_leaves s i j half (inl first) size inside behind =
          let room : size_at sizes (2 * j + 1) ≡ leaf_size (counts j) + value_total table rows =
          size ∙ ap (λ b. leaf_size (counts j) + cond b (value_total table rows) 0) first.0 in
          let leaves : leaf_size (counts j) ≡ leaf_size (counts 0) = ap (λ j. leaf_size (counts j)) first.1 in
          let zero = first.1 in
          let one : 1 ≡ s = omega arith in
          let at : leaf_size (counts 0) + (i - leaf_size (counts 0)) ≡ i = omega arith in
          subst (λ t. Contains (map (λ (entry : Numbered). entry.0) (segment_pages table rows))
          (segment_page sizes t i)) one
          (subst (λ m. Contains (map (λ (entry : Numbered). entry.0) (segment_pages table rows))
          (segment_page sizes 1 m)) at
          (part_there (i - leaf_size (counts 0)) (omega arith)))
      behind_leaves s i j half (inr other) size inside behind =
          let room : size_at sizes (2 * j + 1) ≡ leaf_size (counts j) + 0 =
          size ∙ ap (λ b. leaf_size (counts j) + cond b (value_total table rows) 0) other.0 in
          absurd (omega arith)

  pub laid_numbered : (entry : Numbered) → IsLaid table rows entry → IsNumbered sizes entry
  laid_numbered entry (inl tree) =
      subst (IsNumbered sizes)
      (pair_is entry (page_number table rows tree.j tree.l tree.k)
      (layout_tree_page table rows tree.j tree.l tree.k) tree.number tree.page)
      (tree_numbered laws table rows can tree.j tree.index tree.l tree.k tree.inside tree.within)
  laid_numbered entry (inr value) =
      subst (IsNumbered sizes)
      (pair_is entry (value_number table rows value.r value.i value.k)
      (layout_value_page table rows value.r value.i value.k) value.number value.page)
      (value_numbered laws table rows can value.r value.i value.k value.part)

  pub are_pages : AreSegmentPages sizes (segment_pages table rows)
  are_pages = record {
    each = λ k d below. laid_numbered (get_or (segment_pages table rows) k d) (all_laid k d below);
    every = every_there;
  }
