-- The file of a built tablespace has the rows and the pages of their long values, and nothing else.
use Rattle.std.proofs.Common.{◌≡◌, ◌≢◌, ℕ, ◌+◌, ◌-◌, ◌*◌, ◌/◌, ◌%◌, ◌<◌, ◌≤◌, ◌==◌, eqb, true, false, cond, List}
use Rattle.std.proofs.Common.{length, Contains, ◌⊎◌, refl, sym, ap, ◌∙◌, subst, arith, inl, inr}
use Rattle.std.specs.List.{AllZip, filter, range_with_len}
use Rattle.std.proofs.lemmas.Bool.{cases_lt}
use Rattle.std.proofs.lemmas.Bool.Decides.{eqb_tells}
use Rattle.page_source.specs.Pages.{page_of}
use Rattle.page_source.proofs.Members.{contains_flat_map, flat_map_contains, contains_range, range_contains}
use Rattle.page_source.proofs.Times.{contains_times, times_some}
use Rattle.fil_frame.specs.Kinds.{blob_kind}
use Rattle.fil_frame.specs.Frame.{kind_of}
use Rattle.space_audit.specs.Space.{IsPageOf}
use Rattle.offpage_chain.specs.Chain.{part_length, next_part, part_bytes}
use Rattle.schema_text.specs.TableDef.{TableDef}
use Rattle.schema_text.specs.IndexFields.{leaf_fields}
use Rattle.tree_walk.specs.Index.{is_live_row}
use Rattle.tree_walk.specs.Segments.{leaf_segment}
use Rattle.tree_walk.specs.Descent.{pages_by_descent, tree_rows}
use Rattle.table_check.specs.Trees.{index_in, clustered_tree}
use Rattle.table_check.specs.Values.{live_rows}
use Rattle.table_check.specs.Rows.{AreRows}
use Rattle.table_check.specs.Valid.{HasValues, HasOnlyLeftOvers, pages_of_descents}
use Rattle.tree_layout.specs.Entries.{IsRowOf}
use Rattle.space_layout.specs.Numbers.{size_at, segment_page, IsPlace}
use Rattle.space_layout.specs.ValuePlaces.{value_place, IsPart}
use Rattle.tree_layout.specs.Places.{leaf_size, IsTreePlace}
use Rattle.row_layout.specs.StoredRow.{Stored, stored_at}
use Rattle.row_layout.specs.HoldsValues.{stored_in, pages_of_stored, pages_for, blob_part, next_number, HoldsValuePart}
use Rattle.row_layout.specs.HoldsValues.{HoldsRows, HaveOwnPages, HasNoOthers, IsValuePage}
use Rattle.row_layout.specs.HoldsValues.{clustered_entries}
use Rattle.row_store.specs.StoredRows.{Rows, stored_rows}
use Rattle.space_builder.specs.layout.Layout.{tree_counts, value_counts, value_total}
use Rattle.space_builder.specs.layout.Layout.{segment_sizes, value_number, index_entries, field_bytes}
use Rattle.space_builder.specs.layout.Layout.{layout_value_page}
use Rattle.space_builder.specs.layout.Layout.{layout_file}
use Rattle.space_builder.specs.layout.LowerLaws.{LowerLaws}
use Rattle.space_builder.specs.layout.Laws.{CanBuild}
use Rattle.space_builder.proofs.layout.FittedRows.{are_fitted}
use Rattle.space_builder.proofs.layout.Sizes.{top_is, leaf_is, segments_are}
use Rattle.space_builder.proofs.layout.Laid.{numbers, size_few, fits, places, value_place_is, parts_long}
use Rattle.space_builder.proofs.layout.Laid.{row_long, field_is, value_read}
use Rattle.space_builder.proofs.layout.File.{segments_held, file_page, value_one, tree_or_value}
use Rattle.space_builder.proofs.layout.Trees.{IsHeld, counts_same, two_segments, trees_held}

module _ (laws : LowerLaws) (table : TableDef) (rows : Rows) (can : CanBuild table rows) where
  abbrev sizes : List ℕ
  sizes = segment_sizes table rows

  abbrev file : List ℕ
  file = layout_file table rows

  abbrev counts : ℕ → List ℕ
  counts j = tree_counts table rows j

  abbrev parts : List (List ℕ)
  parts = value_counts table rows

  abbrev stored : List (List Stored)
  stored = stored_rows table rows

  abbrev number : ℕ → ℕ → ℕ → ℕ
  number = value_number table rows

  pub held : IsHeld file table (segment_page sizes) (index_entries table rows)
  held = trees_held laws table rows can

  some_index : 0 < length table.indexes
  some_index = let some = can.is_table.clustered in omega arith

  -- the records
  live_are : live_rows (clustered_tree file table) ≡ tree_rows (clustered_tree file table)
  unfolding live_rows
  live_are =
      let has = held.rows 0 some_index in
      ap (filter (is_live_row (clustered_tree file table))) has.leaves ∙ has.live

  entries_are : index_entries table rows 0 ≡ clustered_entries table.format number stored
  unfolding index_entries
  entries_are = refl

  leaf_are : (clustered_tree file table).leaf ≡ leaf_fields table 0
  unfolding index_in
  leaf_are = refl

  records : AllZip (IsRowOf (clustered_tree file table) (leaf_fields table 0)) (live_rows (clustered_tree file table))
      (clustered_entries table.format number stored)
  records =
      let has = held.rows 0 some_index in
      subst (λ fields. AllZip (IsRowOf (clustered_tree file table) fields) (live_rows (clustered_tree file table))
      (clustered_entries table.format number stored)) leaf_are
      (subst (λ list. AllZip (IsRowOf (clustered_tree file table) (clustered_tree file table).leaf) list
      (clustered_entries table.format number stored)) (sym live_are)
      (subst (AllZip (IsRowOf (clustered_tree file table) (clustered_tree file table).leaf)
      (tree_rows (clustered_tree file table))) entries_are has.rows))

  -- a part by its field
  part_of : (r i k : ℕ) → r < length stored → i < length (stored_in stored r)
      → k < pages_of_stored table.format (stored_at (stored_in stored r) i) → IsPart parts r i k
  part_of r i k row field part =
      let long = parts_long laws table rows can in
      let wide = row_long laws table rows can r row in
      let size = field_is laws table rows can r i row field in
      record { row = omega arith; field = omega arith; part = omega arith }

  off_part : (r i k : ℕ) → r < length stored → i < length (stored_in stored r)
      → (stored_at (stored_in stored r) i).off ≡ true → k < pages_for (length (field_bytes table rows r i))
      → IsPart parts r i k
  off_part r i k row field off part =
      part_of r i k row field
      (subst (λ b. k < cond b (pages_for (length (field_bytes table rows r i))) 0) (sym off) part)

  value_page_is : (r i k : ℕ) → IsPart parts r i k → page_of file (number r i k) ≡ layout_value_page table rows r i k
  value_page_is r i k part =
      file_page laws table rows can (number r i k) (layout_value_page table rows r i k) (inr record {
        r = r;
        i = i;
        k = k;
        part = part;
        number = refl;
        page = refl;
      })

  clustered_leaf : leaf_segment (clustered_tree file table) ≡ 1
  clustered_leaf = (two_segments laws table rows can 0 some_index).leaf

  part_held : (r i k : ℕ) → IsPart parts r i k
      → HoldsValuePart file (leaf_segment (clustered_tree file table)) (number r i k)
      (next_number (number r i) (pages_for (length (field_bytes table rows r i))) k)
      (blob_part (field_bytes table rows r i) k)
  part_held r i k part =
      let page = value_page_is r i k part in
      let read = value_read laws table rows can r i k part in
      let place = value_place_is laws table rows can r i k part in
      record {
        blob = subst (λ s. IsPageOf file s blob_kind (number r i k)) (sym clustered_leaf)
            ((segments_held laws table rows can).pages 1 (leaf_size (counts 0) + value_place parts r i k)
            (number r i k) blob_kind place (ap kind_of page ∙ read.has_kind));
        size = ap part_length page ∙ read.size;
        next_is = ap next_part page ∙ read.next_is;
        bytes_are = ap part_bytes page ∙ read.bytes_are;
      }

  pub holds_rows : HoldsRows file table rows stored number
  holds_rows =
      let space = segments_held laws table rows can in
      let size = space.size in
      let few = size_few laws table rows can in
      record {
        is_table = can.is_table;
        are_fitted = are_fitted table rows can;
        space = space.id;
        most = omega arith;
        records = records;
        values = λ r i row field off k part. part_held r i k (off_part r i k row field off part);
      }

  -- no page of a value is one of a tree
  tree_spot : (j n : ℕ) → j < length table.indexes → Contains (pages_by_descent (index_in file table j)) n
      → (s : ℕ) × (i : ℕ) × IsTreePlace (counts j) j s i × (n ≡ segment_page sizes s i)
  tree_spot j n index has =
      let spot = (held.rows j index).places.only n (let some = times_some _ n has in omega arith) in (
        spot.0,
        spot.1,
        subst (λ c. IsTreePlace c j spot.0 spot.1) (counts_same laws table rows can j index) spot.2,
        spot.3,
      )

  spot_within : (j s i : ℕ) → j < length table.indexes → IsTreePlace (counts j) j s i → i < size_at sizes s
  spot_within j s i index (inl top) =
      let room = (fits laws table rows can j index).top in
      let below = top.1 in
      subst (λ s. i < size_at sizes s) (sym top.0) (omega arith)
  spot_within j s i index (inr leaf) =
      let room = (fits laws table rows can j index).leaf in
      let below = leaf.1 in
      subst (λ s. i < size_at sizes s) (sym leaf.0) (omega arith)

  never_in : (j r i k : ℕ) → j < length table.indexes → IsPart parts r i k
      → Contains (pages_by_descent (index_in file table j)) (number r i k) → ⊥
  never_in j r i k index part has =
      let spot = tree_spot j (number r i k) index has in
      let place = value_place_is laws table rows can r i k part in
      let same = (numbers laws table rows can).one spot.0 1 spot.1 (leaf_size (counts 0) + value_place parts r i k)
      (spot_within j spot.0 spot.1 index spot.2) place.inside (sym spot.3 ∙ sym place.there) in
      tree_or_value laws table rows can j spot.0 spot.1 (value_place parts r i k) same.0 same.1 spot.2

  pub own_pages : HaveOwnPages file table stored number
  unfolding pages_of_descents
  own_pages = record {
    trees = held.trees.once;
    one = λ r i k row field part s j m row_of field_of part_is number.
        value_one laws table rows can r i k s j m (part_of r i k row field part) (part_of s j m row_of field_of part_is)
        number;
    apart = λ r i k row field part has.
        let piece = contains_flat_map (λ j. pages_by_descent (index_in file table j))
        (range_with_len 0 (length table.indexes)) (number r i k) has in
        never_in piece.piece r i k (range_contains (length table.indexes) piece.piece piece.among)
        (part_of r i k row field part) piece.member;
  }

  -- each used page is one of a tree or of a value
  abbrev IsKnown : ℕ → Type 0
  IsKnown n = Contains (pages_of_descents file table) n ⊎ IsValuePage table.format stored number n

  known_tree : (j s i : ℕ) → j < length table.indexes → IsTreePlace (counts j) j s i → IsKnown (segment_page sizes s i)
  unfolding pages_of_descents
  known_tree j s i index place =
      let once = (held.rows j index).places.taken s i
      (subst (λ c. IsTreePlace c j s i) (sym (counts_same laws table rows can j index)) place) in
      inl (flat_map_contains (λ j. pages_by_descent (index_in file table j)) (range_with_len 0 (length table.indexes)) j
      (segment_page sizes s i) (contains_range (length table.indexes) j index)
      (contains_times (pages_by_descent (index_in file table j)) (segment_page sizes s i) (omega arith)))

  known_value : (i : ℕ) → i < value_total table rows → IsKnown (segment_page sizes 1 (leaf_size (counts 0) + i))
  unfolding value_number
  known_value i inside =
      let at = (places laws table rows can).every i inside in
      let part = at.is in
      let long = parts_long laws table rows can in
      let row = part.row in
      let wide = row_long laws table rows can at.r (omega arith) in
      let field = part.field in
      let size = field_is laws table rows can at.r at.i (omega arith) (omega arith) in
      let here = part.part in
      inr record {
        r = at.r;
        i = at.i;
        k = at.k;
        row = omega arith;
        field = omega arith;
        part = omega arith;
        same = ap (λ n. segment_page sizes 1 (leaf_size (counts 0) + n)) at.there;
      }

  behind_leaves : (s i j : ℕ) → s ≡ 2 * j + 1 → ((eqb j 0 ≡ true) × (j ≡ 0)) ⊎ ((eqb j 0 ≡ false) × (j ≢ 0))
      → size_at sizes (2 * j + 1) ≡ leaf_size (counts j) + cond (j == 0) (value_total table rows) 0
      → i < size_at sizes (2 * j + 1) → leaf_size (counts j) ≤ i → IsKnown (segment_page sizes s i)
  behind_leaves s i j half (inl first) size inside behind =
      let room : size_at sizes (2 * j + 1) ≡ leaf_size (counts j) + value_total table rows =
      size ∙ ap (λ b. leaf_size (counts j) + cond b (value_total table rows) 0) first.0 in
      let leaves : leaf_size (counts j) ≡ leaf_size (counts 0) = ap (λ j. leaf_size (counts j)) first.1 in
      let zero = first.1 in
      let one : 1 ≡ s = omega arith in
      let at : leaf_size (counts 0) + (i - leaf_size (counts 0)) ≡ i = omega arith in
      subst (λ t. IsKnown (segment_page sizes t i)) one
      (subst (λ m. IsKnown (segment_page sizes 1 m)) at (known_value (i - leaf_size (counts 0)) (omega arith)))
  behind_leaves s i j half (inr other) size inside behind =
      let room : size_at sizes (2 * j + 1) ≡ leaf_size (counts j) + 0 =
      size ∙ ap (λ b. leaf_size (counts j) + cond b (value_total table rows) 0) other.0 in
      absurd (omega arith)

  known : (s i n : ℕ) → IsPlace sizes s i n → IsKnown n
  known s i n place =
      let count = segments_are laws table rows in
      let below = place.below in
      let inside = place.inside in
      subst IsKnown place.there
      (elim (eqb_tells (s % 2) 0) [
        | inl even ↦
            let half : s ≡ 2 * (s / 2) = (let e = even.1 in omega arith) in
            let size = top_is laws table rows (s / 2) (omega arith) in
            let here : i < size_at sizes (2 * (s / 2)) = subst (λ t. i < size_at sizes t) half inside in
            known_tree (s / 2) s i (omega arith) (inl (half, omega arith))
        | inr odd ↦
            let half : s ≡ 2 * (s / 2) + 1 = (let o = odd.1 in omega arith) in
            let size = leaf_is laws table rows (s / 2) (omega arith) in
            let here : i < size_at sizes (2 * (s / 2) + 1) = subst (λ t. i < size_at sizes t) half inside in
            elim (cases_lt i (leaf_size (counts (s / 2)))) [
              | inl leaf ↦ known_tree (s / 2) s i (omega arith) (inr (half, leaf))
              | inr behind ↦ behind_leaves s i (s / 2) half (eqb_tells (s / 2) 0) size here behind
            ]
      ])

  pub no_others : HasNoOthers file table stored number
  no_others s n used =
      let at = ((segments_held laws table rows can).uses s n).0 used in
      known s at.0 n at.1

  pub rows_are : AreRows file table rows
  rows_are = laws.row.rows file table rows stored number holds_rows

  pub values_are_sound : HasValues file table
  values_are_sound = laws.row.values file table rows stored number holds_rows own_pages

  pub only_left_overs : HasOnlyLeftOvers file table
  only_left_overs = laws.row.rest file table rows stored number holds_rows no_others
