-- The checks of a tree that a file holds find nothing.
use Rattle.std.proofs.Common.{◌≡◌, ◌≢◌, ◌==◌, ◌-◌, ℕ, zero, suc, ◌+◌, ◌<◌, List, [], ◌∷◌, ◌++◌, length, get_or, take}
use Rattle.std.proofs.Common.{map, cond, Bool, true, false, Some, None, refl, sym, ap, ◌∙◌, subst, arith, inl, inr}
use Rattle.std.specs.List.{All, range_with_len, slice_get}
use Rattle.std.proofs.lemmas.Bool.{ne_eqb, eq-eqb, cases_lt}
use Rattle.std.proofs.lemmas.List.{get_or_past}
use Rattle.std.proofs.lemmas.List.Elements.{All-head, All-tail, All-from_get_or}
use Rattle.std.proofs.lemmas.List.FromFn.{take-map-range_with_len, length-map-range_with_len}
use Rattle.std.proofs.lemmas.List.FromFn.{get_or-map-range_with_len}
use Rattle.std.proofs.lemmas.Option.{slice_get-get_or, slice_get_past}
use Rattle.page_source.specs.Pages.{fil_null}
use Rattle.fil_frame.specs.Kinds.{index_kind}
use Rattle.column_values.specs.Types.{Fields}
use Rattle.column_values.specs.Order.{Key, IsBelow}
use Rattle.column_values.proofs.KeyOrder.{is_strict, is_reflexive}
use Rattle.compact_record.specs.Reading.{key_kinds}
use Rattle.index_page.specs.Header.{records_of, record_count, index_id_of}
use Rattle.index_page.specs.Page.{IsIndexPage, is_lowest_first}
use Rattle.index_page.specs.Laws.{ChecksAreIndexPage}
use Rattle.space_audit.specs.Marks.{is_in}
use Rattle.space_audit.specs.Space.{IsPageOf}
use Rattle.tree_walk.specs.Index.{Index, Row, no_row, page_in, fields_on, root_level, index_id, rows_of, row_at}
use Rattle.tree_walk.specs.Index.{child_of, children, pages_at, places, reached}
use Rattle.tree_walk.specs.Segments.{segment_at, top_segment}
use Rattle.tree_walk.specs.Place.{IsPagePlace, NodeAt, SpotAt, HasLow, HasLastBelow, is_leaf_level, IsBeside}
use Rattle.tree_walk.specs.Records.{record_key}
use Rattle.tree_walk.specs.TreeChecks.{TreeChecks, RootCheck, PlaceWith, PlaceCheck, before, after, low_of, high_of}
use Rattle.tree_walk.specs.TreeChecks.{DepthCheck}
use Rattle.tree_walk.specs.TreeChecks.{held_key_in}
use Rattle.tree_walk.specs.Laws.{ChecksAreWholeness, IsWhole, RowsByLeaves}
use Rattle.tree_walk.proofs.Records.{length-records}
use Rattle.tree_layout.specs.Entries.{key_of_entry, IsEntryBelow}
use Rattle.tree_layout.specs.Division.{Level}
use Rattle.tree_layout.specs.Levels.{level_at, width_at, page_entries, top_of, numbers_at}
use Rattle.tree_layout.specs.Built.{HoldsTree}
use Rattle.tree_layout.proofs.Offsets.{pairs_across}
use Rattle.tree_layout.proofs.Rise.{level_rises, count_above}
use Rattle.tree_layout.proofs.TreeRows.{length-numbers, number_at, kinds_on, count_rows, count_records}
use Rattle.tree_layout.proofs.TreeRows.{record_key_is, child_above, pointer_key, children_above, root_alone, pages_are}
use Rattle.tree_layout.proofs.TreeRows.{root_level_is, rows_are, row_keys_are, rows_live}
use Rattle.tree_layout.specs.TreeLaws.{BuiltTreesAreWhole}

pub not_in : (xs : List ℕ) (n : ℕ) → All (λ x. x ≢ n) xs → is_in xs n ≡ false
not_in [] n apart = refl
not_in (x ∷ xs) n apart =
    rw (ne_eqb x n (All-head (λ x. x ≢ n) x xs apart)) (not_in xs n (All-tail (λ x. x ≢ n) x xs apart))

row_found : (rows : List Row) (i : ℕ) → i < length rows → slice_get rows i ≡ Some (row_at rows i)
unfolding row_at
row_found rows i below = slice_get-get_or rows i no_row below

not_in_both : (xs ys : List ℕ) (n : ℕ) → is_in xs n ≡ false → is_in ys n ≡ false → is_in (xs ++ ys) n ≡ false
not_in_both [] ys n first second = second
not_in_both (x ∷ xs) ys n first second =
    elim (x == n) as (λ here. cond here true (is_in xs n) ≡ false → cond here true (is_in (xs ++ ys) n) ≡ false)
    [ true ↦ λ none. none | false ↦ λ none. not_in_both xs ys n none second ] first

-- a low separator that the first key is equal to
has_low : (page : List ℕ) (fields : Fields) (level : ℕ) (first : Bool) (key : Key) → record_key page fields 0 ≡ key
    → HasLow page fields level (cond first None (Some key))
has_low page fields level true key same = tt
has_low page fields level false key same =
    let kinds = key_kinds fields in (
      (λ below. is_strict kinds key (rw same at below)),
      (λ above. rw same (is_reflexive kinds key)),
    )

-- the checks of a place whose page is known, and where it stands
place_holds : (index : Index) (level : ℕ) (taken : Bool) (rows : List Row) (j n : ℕ) (ns : List ℕ)
    → child_of index (row_at rows j) ≡ n → children index rows ≡ ns
    → IsPagePlace index.file taken (segment_at index level) n
    → SpotAt (page_in index n) (fields_on index level) (index_id index) (record {
      page = n;
      level = level;
      low = low_of index rows j;
      high = high_of index rows j;
      root = false;
      leftmost = j == 0;
    }) (before ns j) (after ns j) None
    → PlaceWith index level taken rows j None
place_holds index level taken rows j n ns child numbers place spot = rw (child, numbers) (place, spot)

module _ (index : Index) (numbers : ℕ → ℕ → ℕ) (levels : List Level) (tree : HoldsTree index numbers levels) where
  -- the pages of another level, and those before on the same one, are others
  level_apart : (l m j : ℕ) → l < length levels → m < length levels → m ≢ l → j < width_at levels l
      → is_in (numbers_at levels numbers m) (numbers l j) ≡ false
  level_apart l m j inside other differ within =
      not_in (numbers_at levels numbers m) (numbers l j)
      (All-from_get_or (λ n. n ≢ numbers l j) (numbers_at levels numbers m) 0
      (λ k below same.
      let size = length-numbers levels numbers m in
      let width : k < width_at levels m = omega arith in
      differ (tree.distinct m k other width l j inside within (sym (number_at levels numbers m k 0 width) ∙ same)).0))

  before_apart : (l j : ℕ) → l < length levels → j < width_at levels l
      → is_in (take j (numbers_at levels numbers l)) (numbers l j) ≡ false
  before_apart l j inside within =
      rw (take-map-range_with_len (numbers l) 0 (width_at levels l) j (omega arith))
      (not_in (map (numbers l) (range_with_len 0 j)) (numbers l j)
      (All-from_get_or (λ n. n ≢ numbers l j) (map (numbers l) (range_with_len 0 j)) 0
      (λ k below same.
      let size = length-map-range_with_len (numbers l) 0 j in
      let number : get_or (map (numbers l) (range_with_len 0 j)) k 0 ≡ numbers l k =
      get_or-map-range_with_len (numbers l) 0 j k k 0 (omega arith) (omega arith) in
      let equal : k ≡ j =
      (tree.distinct l k inside (omega arith) l j inside within (sym number ∙ same)).1 in
      absurd (omega arith))))

  -- so are those of the levels above
  reached_apart : (d l j : ℕ) → l + d < top_of levels → j < width_at levels l
      → is_in (reached index d) (numbers l j) ≡ false
  unfolding reached
  reached_apart zero l j above within =
      subst (λ pages. is_in pages (numbers l j) ≡ false) (root_alone index numbers levels tree)
      (level_apart l (top_of levels) j (omega arith) (omega arith) (λ same. omega arith) within)
  reached_apart (suc d) l j above within =
      let m = top_of levels - suc d in
      let pages = pages_are index numbers levels tree (suc d) m (omega arith) in
      let apart = level_apart l m j (omega arith) (omega arith) (λ same. omega arith) within in
      not_in_both (reached index d) (pages_at index (suc d)) (numbers l j)
      (reached_apart d l j (omega arith) within)
      (subst (λ pages. is_in pages (numbers l j) ≡ false) (sym pages) apart)

  -- the key of the last record is below the next pointer's
  below_next : (l j : ℕ) → l < length levels → j + 1 < width_at levels l → 1 < length levels
      → IsBelow (key_kinds (fields_on index l))
      (record_key (page_in index (numbers l j)) (fields_on index l)
      (record_count (page_in index (numbers l j)) - 1))
      (key_of_entry index.leaf.keys (get_or (page_entries levels l (j + 1)) 0 []))
  below_next l j inside within above =
      let page = page_in index (numbers l j) in
      let here = tree.are_levels.filled above l j inside (omega arith) in
      let there = tree.are_levels.filled above l (j + 1) inside within in
      let records = length-records page in
      let count = count_records index numbers levels tree l j inside (omega arith) in
      let rises = (level_rises index.leaf index.node numbers levels tree.one_index tree.are_levels l inside).rise in
      let last = record_count page - 1 in
      let below = pairs_across (IsEntryBelow index.leaf) (level_at levels l) rises j (j + 1) last 0 [] (omega arith)
      within (omega arith) there in
      rw (
        kinds_on index.leaf index.node tree.one_index l,
        record_key_is index numbers levels tree l j last inside (omega arith) (omega arith),
      ) below

  has_last : (l j : ℕ) (lowest_first : Bool) → suc l < length levels → j < width_at levels l
      → HasLastBelow (page_in index (numbers l j)) (fields_on index l) lowest_first
      (high_of index (rows_of index (numbers_at levels numbers (suc l))) j)
  has_last l j lowest_first inside within =
      let rows = rows_of index (numbers_at levels numbers (suc l)) in
      let count = count_rows index numbers levels tree (suc l) inside in
      let above = count_above index.leaf index.node numbers levels tree.one_index tree.are_levels l inside in
      let page = page_in index (numbers l j) in
      elim (cases_lt (j + 1) (width_at levels l)) [
        | inl more ↦
            let next : slice_get rows (j + 1) ≡ Some (row_at rows (j + 1)) =
            row_found rows (j + 1) (omega arith) in
            subst (λ row. HasLastBelow page (fields_on index l) lowest_first (held_key_in index row)) (sym next)
            (λ other. subst (λ key. IsBelow (key_kinds (fields_on index l)) (record_key page (fields_on index l)
            (record_count page - 1)) key)
            (sym (pointer_key index numbers levels tree l (j + 1) inside more))
            (below_next l j (omega arith) more (omega arith)))
        | inr last ↦
            let next : slice_get rows (j + 1) ≡ None = slice_get_past rows (j + 1) (omega arith) in
            subst (λ row. HasLastBelow page (fields_on index l) lowest_first (held_key_in index row)) (sym next) tt
      ]

  has_first : (l j : ℕ) → suc l < length levels → j < width_at levels l
      → HasLow (page_in index (numbers l j)) (fields_on index l) l
      (low_of index (rows_of index (numbers_at levels numbers (suc l))) j)
  has_first l j inside within =
      let filled = tree.are_levels.filled (omega arith) l j (omega arith) within in
      rw (pointer_key index numbers levels tree l j inside within)
      (has_low (page_in index (numbers l j)) (fields_on index l) l (j == 0)
      (key_of_entry index.leaf.keys (get_or (page_entries levels l j) 0 []))
      (record_key_is index numbers levels tree l j 0 (omega arith) within filled))

  -- no place of a level was taken
  new_place : (d l j : ℕ) → l + suc d ≡ top_of levels → j < width_at levels l
      → is_in (reached index d ++ take j (numbers_at levels numbers l)) (numbers l j) ≡ false
  new_place d l j sum within =
      not_in_both (reached index d) (take j (numbers_at levels numbers l)) (numbers l j)
      (reached_apart d l j (omega arith) within) (before_apart l j (omega arith) within)

  -- and its page is the one that a place wants
  same_id : (l k : ℕ) → l < length levels → k < width_at levels l
      → index_id_of (page_in index (numbers l k)) ≡ index_id index
  same_id l k inside within =
      let some = tree.are_levels.some in
      let single = tree.are_levels.single in
      tree.ids l k inside within
      ∙ sym (ap (λ n. index_id_of (page_in index n)) tree.root
      ∙ tree.ids (top_of levels) 0 (omega arith) (omega arith))

  own_segment : (l k : ℕ) → l < top_of levels → k < width_at levels l
      → IsPageOf index.file (segment_at index l) index_kind (numbers l k)
  own_segment l k below within =
      subst (λ top. IsPageOf index.file (cond top (top_segment index) (segment_at index l)) index_kind (numbers l k))
      (ne_eqb l (top_of levels) (λ same. omega arith)) (tree.used l k (omega arith) within)

  module _ (law : ChecksAreIndexPage) where
    node_at : (l j : ℕ) → l < top_of levels → j < width_at levels l → NodeAt (page_in index (numbers l j))
        (fields_on index l) (record {
          page = numbers l j;
          level = l;
          low = low_of index (rows_of index (numbers_at levels numbers (suc l))) j;
          high = high_of index (rows_of index (numbers_at levels numbers (suc l))) j;
          root = false;
          leftmost = j == 0;
        }) None
    node_at l j below within =
        let page = page_in index (numbers l j) in
        let fields = fields_on index l in
        let built = tree.pages l j (omega arith) within in
        let few = tree.few in
        let is_page = subst (λ root. IsIndexPage page fields (is_leaf_level l) root (j == 0) (records_of page))
        (ne_eqb l (top_of levels) (λ same. omega arith)) built.is_page in (
          (built.at_level, omega arith),
          (
            (law page fields (is_leaf_level l) false (j == 0)).1 (records_of page, is_page),
            (
              record {
                low = has_first l j (omega arith) within;
                high = has_last l j (is_lowest_first (is_leaf_level l) (j == 0)) (omega arith) within;
              },
              built.marks,
            ),
          ),
        )

    place_at : (d l j : ℕ) → l + suc d ≡ top_of levels → j < width_at levels l → PlaceCheck index l (λ page. false)
        (reached index d) (rows_of index (numbers_at levels numbers (suc l))) j None
    place_at d l j sum within =
        let rows = rows_of index (numbers_at levels numbers (suc l)) in
        let child = child_above index numbers levels tree l j (omega arith) within in
        let kids = children_above index numbers levels tree l (omega arith) in
        let new : is_in (reached index d ++ take j (children index rows)) (child_of index (row_at rows j)) ≡ false =
        rw (child, kids) (new_place d l j sum within) in
        place_holds index l (is_in (reached index d ++ take j (children index rows)) (child_of index (row_at rows j)))
        rows j (numbers l j) (numbers_at levels numbers l) child kids
        (record { page = own_segment l j (omega arith) within; new = new }) (
          same_id l j (omega arith) within,
          (tree.beside l j (omega arith) within, node_at l j (omega arith) within),
        )

    depths : (d : ℕ) → d < root_level index → DepthCheck index (λ page. false) d None
    depths d below j inside =
        let l = top_of levels - suc d in
        let level = root_level_is index numbers levels tree in
        let pages = pages_are index numbers levels tree d (suc l) (omega arith) in
        let count = count_rows index numbers levels tree (suc l) (omega arith) in
        let above = count_above index.leaf index.node numbers levels tree.one_index tree.are_levels l (omega arith) in
        let rows : length (places index d) ≡ length (rows_of index (numbers_at levels numbers (suc l))) =
        ap (λ pages. length (rows_of index pages)) pages in
        let same : l ≡ root_level index - suc d = omega arith in
        subst (λ level. PlaceCheck index level (λ page. false) (reached index d) (places index d) j None) same
        (subst (λ pages. PlaceCheck index l (λ page. false) (reached index d) (rows_of index pages) j None)
        (sym pages) (place_at d l j (omega arith) (omega arith)))

    root_beside : IsBeside (page_in index index.root) fil_null fil_null
    root_beside =
        let some = tree.are_levels.some in
        let single = tree.are_levels.single in
        let size = length-numbers levels numbers (top_of levels) in
        let last : after (numbers_at levels numbers (top_of levels)) 0 ≡ fil_null =
        get_or_past (numbers_at levels numbers (top_of levels)) 1 fil_null (omega arith) in
        let beside = tree.beside (top_of levels) 0 (omega arith) (omega arith) in
        subst (λ n. IsBeside (page_in index n) fil_null fil_null) (sym tree.root)
        (subst (λ next. IsBeside (page_in index (numbers (top_of levels) 0)) fil_null next) last beside)

    root_node : NodeAt (page_in index index.root) (fields_on index (top_of levels)) (record {
      page = index.root;
      level = top_of levels;
      low = None;
      high = None;
      root = true;
      leftmost = true;
    }) None
    root_node =
        let some = tree.are_levels.some in
        let single = tree.are_levels.single in
        let top = top_of levels in
        let few = tree.few in
        let built = tree.pages top 0 (omega arith) (omega arith) in
        let is_page = subst (λ root. IsIndexPage (page_in index (numbers top 0)) (fields_on index top)
        (is_leaf_level top) root true (records_of (page_in index (numbers top 0)))) (eq-eqb top top refl)
        built.is_page in
        subst (λ n. NodeAt (page_in index n) (fields_on index top) (record {
          page = n;
          level = top;
          low = None;
          high = None;
          root = true;
          leftmost = true;
        }) None) (sym tree.root) (
          (built.at_level, omega arith),
          (
            (law (page_in index (numbers top 0)) (fields_on index top) (is_leaf_level top) true true).1
                (records_of (page_in index (numbers top 0)), is_page),
            (record { low = tt; high = tt }, built.marks),
          ),
        )

    root_check : RootCheck index (λ page. false) (λ segment. false) None
    root_check =
        let some = tree.are_levels.some in
        let single = tree.are_levels.single in
        let top = top_of levels in
        let used : IsPageOf index.file (top_segment index) index_kind index.root =
        subst (λ n. IsPageOf index.file (top_segment index) index_kind n) (sym tree.root)
        (subst (λ top'. IsPageOf index.file (cond top' (top_segment index) (segment_at index top))
        index_kind (numbers top 0)) (eq-eqb top top refl) (tree.used top 0 (omega arith) (omega arith))) in
        let node = subst (λ level. NodeAt (page_in index index.root) (fields_on index level) (record {
          page = index.root;
          level = level;
          low = None;
          high = None;
          root = true;
          leftmost = true;
        }) None) (sym (root_level_is index numbers levels tree)) root_node in (
          record { page = (top_segment index, used); new = refl },
          (
            record { names = tree.segments; leaf_new = refl; top_new = refl; owner = used.used },
            (refl, (root_beside, node)),
          ),
        )

    pub checks : TreeChecks index (λ page. false) (λ segment. false) None
    checks = (root_check, depths)

    pub is_whole : ChecksAreWholeness → IsWhole index (λ page. false) (λ segment. false)
    is_whole wholeness = (wholeness index (λ page. false) (λ segment. false) tree.one_index).0 checks

pub built_tree : ChecksAreIndexPage → ChecksAreWholeness → RowsByLeaves → BuiltTreesAreWhole
built_tree law wholeness by_leaves index numbers levels tree = record {
  whole = is_whole index numbers levels tree law wholeness;
  level = root_level_is index numbers levels tree;
  pages = λ d below. pages_are index numbers levels tree d (top_of levels - d) (omega arith);
  rows = rows_are index numbers levels tree by_leaves;
  keys = row_keys_are index numbers levels tree by_leaves;
  leaves = by_leaves index;
  live = rows_live index numbers levels tree by_leaves;
}
