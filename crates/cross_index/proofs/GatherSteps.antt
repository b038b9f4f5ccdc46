-- The rows of a sound file, whose values are kept one row after another.
use Rattle.std.proofs.Common.{◌≡◌, ℕ, ◌+◌, ◌<◌, ◌≤◌, List, [], ◌∷◌, ◌++◌, length, get_or, map}
use Rattle.std.proofs.Common.{take}
use Rattle.std.proofs.Common.{Contains, flat_map, sym, ap, ◌∙◌, subst, arith}
use Rattle.std.proofs.lemmas.List.{append-nil, take_more, take_all, get_or_default, length-append}
use Rattle.std.proofs.lemmas.List.Concat.{flat_map-append}
use Rattle.std.proofs.lemmas.List.Sums.{length-filter}
use Rattle.std.proofs.lemmas.List.Folds.{length-flat_map-take}
use Rattle.std.proofs.lemmas.List.Elements.{All-contains}
use Rattle.page_source.proofs.Members.{filter_contains}
use Rattle.column_values.specs.Types.{Fields, AreFields, field_at}
use Rattle.column_values.specs.Order.{Key}
use Rattle.compact_record.specs.declared.places.Place.{Place}
use Rattle.compact_record.specs.Reading.{place_of, places_of, field_count}
use Rattle.offpage_chain.specs.Laws.{HasOneChain, ChainGoesOn}
use Rattle.schema_text.specs.TableDef.{TableDef}
use Rattle.schema_text.specs.IndexFields.{leaf_fields}
use Rattle.tree_walk.specs.declared.leaves.leaf.Leaf.{Leaf}
use Rattle.std.specs.Prelude.{Option, Result, Err}
use Rattle.page_source.specs.declared.checks.Halt.{Halt}
use Rattle.page_source.specs.declared.checks.Halt.TheVariants as halts
use Rattle.tree_walk.specs.Leaf.{IsWalked}
use Rattle.tree_walk.specs.Laws.{RowsCanBeRead}
use Rattle.tree_walk.specs.Index.{Index, Row, no_row, row_at, page_in, index_of, leaf_rows, is_live_row}
use Rattle.tree_walk.specs.Segments.{leaf_segment}
use Rattle.tree_walk.specs.Records.{IsRecord}
use Rattle.table_check.specs.Trees.{clustered_tree, index_in}
use Rattle.table_check.specs.Values.{live_rows, pages_of_record, pages_of_row, pages_of_rows}
use Rattle.table_check.specs.Values.{all_chain_pages}
use Rattle.table_check.specs.Valid.{IsSoundField, IsSoundRow}
use Rattle.table_check.specs.Live.{LiveView, HasGivenLive, CanGiveLive, FindsLive, IsRowInHand}
use Rattle.cross_index.specs.Stops.{cross_stop_of, OnlyReads}
use Rattle.cross_index.specs.Entries.{field_of_row, whole_cell}
use Rattle.cross_index.specs.calls.Gather.{CanFollowPlace, CanGather, place_in, pages_of_fields}
use Rattle.cross_index.specs.calls.Gather.{cells_of}
use Rattle.cross_index.specs.calls.Gather.{kept_fields, kept_cells, CanGatherAll, IsGathered}
use Rattle.cross_index.proofs.KeptPages.{map_same, kept_below, place_is, field_follow, big, pages_within}

-- the values of so many rows were kept, and no more pages were read than these have
pub record Gathering (file : List ℕ) (table : TableDef) (rows : LiveView) (cells : Key) (most left n : ℕ)
    : Type 0 where
  pub gives : HasGivenLive (clustered_tree file table) rows n
  pub grown : cells ≡ kept_cells file table (take n (live_rows (clustered_tree file table)))
  pub used : most ≤ left + length (pages_of_rows (clustered_tree file table) (take n (live_rows (clustered_tree file
      table))))

pub gather_start : (file : List ℕ) (table : TableDef) (rows : LiveView) (cells : Key) (left : ℕ) → cells ≡ []
    → CanGatherAll file table rows → Gathering file table rows cells left left 0
unfolding kept_cells pages_of_rows
gather_start file table rows cells left empty can = record {
  gives = can.start;
  grown = empty;
  used = omega arith;
}

-- one row more
module _ (one : HasOneChain) (goes : ChainGoesOn) (file : List ℕ) (table : TableDef) (start : LiveView)
    (can : CanGatherAll file table start) (are : AreFields (leaf_fields table 0)) (leaf : Leaf) (page : List ℕ)
    (origin n : ℕ) (hand : IsRowInHand (clustered_tree file table) leaf n origin) (held : page ≡ leaf.page)
    (record' : IsRecord page (leaf_fields table 0) origin) where
  abbrev index : Index
  index = clustered_tree file table

  abbrev rows : List Row
  rows = live_rows index

  abbrev row : Row
  row = record { page = leaf.number; origin = origin }

  row_is : get_or rows n no_row ≡ row
  unfolding row_at
  row_is = hand.row

  at : Contains rows row
  at = (n, hand.within, get_or_default rows n row no_row hand.within ∙ row_is)

  page_is : page ≡ page_in index leaf.number
  page_is = held ∙ hand.held

  sound : IsSoundRow index row
  sound = All-contains (IsSoundRow index) rows row can.valid.values.rows at

  -- the place of a field
  here : (k : ℕ) → place_of page origin (leaf_fields table 0) k
      ≡ place_of (page_in index leaf.number) origin index.leaf k
  unfolding index_in
  here k = ap (λ (p : List ℕ). place_of p origin (leaf_fields table 0) k) page_is

  follow : (k : ℕ) → k < field_count (leaf_fields table 0)
      → CanFollowPlace file page (place_of page origin (leaf_fields table 0) k)
  unfolding index_in
  follow k inside =
      field_follow one goes file can.valid.space.extents.head.size.most can.valid.space.extents.head.size.within
      (leaf_segment index) (field_at (leaf_fields table 0) k).kind page (place_of page origin (leaf_fields table 0) k)
      (big file page table origin are record' k inside)
      (subst (λ (p : List ℕ). IsSoundField file (leaf_segment index) (field_at (leaf_fields table 0) k).kind p
      (place_of p origin (leaf_fields table 0) k)) (sym page_is) (sound k inside))

  pages_are : length (pages_of_record file page origin (leaf_fields table 0)) ≡ length (pages_of_row index row)
  unfolding index_in
  pages_are = ap (λ (p : List ℕ). length (pages_of_record file p origin (leaf_fields table 0))) page_is

  pages_more : length (pages_of_rows index (take (n + 1) rows))
      ≡ length (pages_of_rows index (take n rows)) + length (pages_of_row index row)
  unfolding pages_of_rows
  pages_more =
      ap (λ (list : List Row). length (flat_map (pages_of_row index) list)) (take_more rows n no_row hand.within)
      ∙ ap length (flat_map-append (pages_of_row index) (take n rows) (get_or rows n no_row ∷ []))
      ∙ length-append (flat_map (pages_of_row index) (take n rows)) (flat_map (pages_of_row index) (get_or rows n no_row
      ∷ []))
      ∙ ap (λ (r : Row). length (flat_map (pages_of_row index) (take n rows)) + length (flat_map (pages_of_row index) (r
      ∷ []))) row_is
      ∙ ap (λ (list : List ℕ). length (flat_map (pages_of_row index) (take n rows)) + length list) (append-nil
      (pages_of_row index row))

  pages_part : length (pages_of_rows index (take n rows)) + length (pages_of_row index row)
      ≤ length (all_chain_pages index)
  unfolding pages_of_rows
  pages_part =
      let part = length-flat_map-take (pages_of_row index) rows n no_row hand.within in
      omega (arith, part, ap (λ (r : Row). length (pages_of_row index r)) row_is)

  -- the kept fields of the row in hand can be read
  pub can_gather : (places : List Place) (kept : List ℕ) (view : LiveView) (cells : Key) (most left : ℕ)
      → places ≡ places_of page origin (leaf_fields table 0) → kept ≡ kept_fields table
      → length (all_chain_pages index) ≤ most → Gathering file table view cells most left n
      → CanGather file page places kept left
  can_gather places kept view cells most left placed is few so = rw (placed, is) (record {
    follow = λ k d inside.
        let field = get_or (kept_fields table) k d in
        let within = kept_below table k d inside in
        subst (CanFollowPlace file page) (sym (place_is page origin (leaf_fields table 0) field within))
        (follow field within);
    few = omega (arith, pages_within file page table origin are record', pages_are, pages_part, so.used, few);
  })

  -- the fields of the row in hand are kept
  values_are : cells_of file page (places_of page origin (leaf_fields table 0)) (kept_fields table)
      ≡ map (field_of_row index row) (kept_fields table)
  unfolding cells_of field_of_row index_in
  values_are =
      map_same (λ k. whole_cell file page (place_in (places_of page origin (leaf_fields table 0)) k))
      (λ k. whole_cell file (page_in index leaf.number) (place_of (page_in index leaf.number) origin (leaf_fields table
      0) k)) (kept_fields table)
      (λ k d inside.
      let field = get_or (kept_fields table) k d in
      let within = kept_below table k d inside in
      ap (whole_cell file page) (place_is page origin (leaf_fields table 0) field within)
      ∙ ap (λ (p : List ℕ). whole_cell file p (place_of p origin (leaf_fields table 0) field)) page_is)

  kept_more : kept_cells file table (take (n + 1) rows)
      ≡ kept_cells file table (take n rows) ++ map (field_of_row index row) (kept_fields table)
  unfolding kept_cells
  kept_more =
      let f : Row → Key = λ r. map (field_of_row index r) (kept_fields table) in
      ap (flat_map f) (take_more rows n no_row hand.within)
      ∙ flat_map-append f (take n rows) (get_or rows n no_row ∷ [])
      ∙ ap (λ (r : Row). flat_map f (take n rows) ++ flat_map f (r ∷ [])) row_is
      ∙ ap (λ (list : Key). flat_map f (take n rows) ++ list) (append-nil (f row))

  pub gather_more : (places : List Place) (kept : List ℕ) (view now : LiveView) (cells next : Key) (most left less : ℕ)
      → places ≡ places_of page origin (leaf_fields table 0) → kept ≡ kept_fields table
      → Gathering file table view cells most left n → HasGivenLive index now (n + 1)
      → next ≡ cells ++ cells_of file page places kept → less + pages_of_fields file page places kept ≡ left
      → Gathering file table now next most less (n + 1)
  gather_more places kept view now cells next most left less placed is so gives grown used =
      let values : cells_of file page places kept ≡ map (field_of_row index row) (kept_fields table) =
      ap (λ (ps : List Place). cells_of file page ps kept) placed
      ∙ ap (cells_of file page (places_of page origin (leaf_fields table 0))) is ∙ values_are in
      let pages : pages_of_fields file page places kept
      ≡ pages_of_fields file page (places_of page origin (leaf_fields table 0)) (kept_fields table) =
      ap (λ (ps : List Place). pages_of_fields file page ps kept) placed
      ∙ ap (pages_of_fields file page (places_of page origin (leaf_fields table 0))) is in
      record {
        gives = gives;
        grown = grown ∙ ap (λ (c : Key). c ++ cells_of file page places kept) so.grown
            ∙ ap (λ (c : Key). kept_cells file table (take n rows) ++ c) values ∙ sym kept_more;
        used = omega (
          arith,
          so.used,
          used,
          pages,
          pages_within file page table origin are record',
          pages_are,
          pages_more,
        );
      }

-- no more rows were given than there are
given_most : (index : Index) (rows : LiveView) (n : ℕ) → HasGivenLive index rows n → n ≤ length (live_rows index)
unfolding live_rows
given_most index rows n has =
    omega (arith, has.live, length-filter (is_live_row index) (leaf_rows index))

-- all rows were kept
pub gather_all : (file : List ℕ) (table : TableDef) (rows : LiveView) (cells : Key) (most left n : ℕ)
    → Gathering file table rows cells most left n → length (live_rows (clustered_tree file table)) ≤ n
    → IsGathered file table cells n
gather_all file table rows cells most left n so past = record {
  counted = omega (arith, given_most (clustered_tree file table) rows n so.gives, past);
  kept = so.grown ∙ ap (kept_cells file table) (take_all n (live_rows (clustered_tree file table)) past);
}

-- the rows can be read on
pub can_give : (file : List ℕ) (table : TableDef) (rows start : LiveView) (cells : Key) (most left n : ℕ)
    → CanGatherAll file table start → Gathering file table rows cells most left n → CanGiveLive file rows
unfolding index_in
can_give file table rows start cells most left n can so = record {
  root = (clustered_tree file table).root;
  fields = (clustered_tree file table).leaf;
  node = (clustered_tree file table).node;
  given = n;
  walked = can.walked;
  has = so.gives;
}

-- what the cursor finds
pub finds : (file : List ℕ) (table : TableDef) (rows now start : LiveView) (cells : Key) (most left n : ℕ)
    (found : Result (Option ℕ) Halt)
    → ((root : ℕ) (fields node : Fields) (j : ℕ) → IsWalked (index_of file root fields node)
    → HasGivenLive (index_of file root fields node) rows j → FindsLive (index_of file root fields node) j found now)
    → CanGatherAll file table start → Gathering file table rows cells most left n
    → FindsLive (clustered_tree file table) n found now
unfolding index_in
finds file table rows now start cells most left n found exact can so =
    exact (clustered_tree file table).root (clustered_tree file table).leaf (clustered_tree file table).node n
    can.walked
    so.gives

pub halts_so : (file : List ℕ) (table : TableDef) (n : ℕ) (now : LiveView) (halt : Halt)
    → FindsLive (clustered_tree file table) n (Err halt) now → OnlyReads {A = ℕ} (Err (cross_stop_of halt))
halts_so file table n now (halts.Broken fault) found = found
halts_so file table n now halts.Source found = tt

-- the row in hand can be read
pub row_readable : RowsCanBeRead → (file : List ℕ) (table : TableDef) (leaf : Leaf) (page : List ℕ) (fields : Fields)
    (origin n : ℕ) → fields ≡ leaf_fields table 0 → page ≡ leaf.page → IsWalked (clustered_tree file table)
    → IsRowInHand (clustered_tree file table) leaf n origin → IsRecord page fields origin
unfolding live_rows row_at index_in
row_readable law file table leaf page fields origin n list held walked hand =
    let index = clustered_tree file table in
    let row : Row = record { page = leaf.number; origin = origin } in
    let at : Contains (live_rows index) row = (
      n,
      hand.within,
      get_or_default (live_rows index) n row no_row hand.within ∙ hand.row,
    ) in
    let there = (filter_contains (is_live_row index) (leaf_rows index) row at).0 in
    let can = All-contains (λ (r : Row). IsRecord (page_in index r.page) index.leaf r.origin) (leaf_rows index) row
    (law index walked) there in
    rw (list, held ∙ hand.held) can
