-- The pages and rows of a tree that a file holds, level by level.
use Rattle.std.proofs.Common.{◌≡◌, ℕ, zero, suc, ◌+◌, ◌<◌, ◌≤◌, List, [], ◌∷◌, length, get_or}
use Rattle.std.proofs.Common.{map, refl, sym, ap, ◌∙◌, subst, arith}
use Rattle.std.specs.List.{AllZip, range_with_len, filter}
use Rattle.std.specs.Prelude.{not}
use Rattle.tree_walk.specs.Index.{is_live_row, is_deleted_row}
use Rattle.tree_walk.specs.Laws.{row_key, RowsByLeaves}
use Rattle.std.proofs.lemmas.List.{ext_get_or, get_or-map, length-map}
use Rattle.std.proofs.lemmas.List.FromFn.{length-map-range_with_len, get_or-map-range_with_len}
use Rattle.column_values.specs.Types.{Fields, AreOfOneIndex}
use Rattle.compact_record.specs.Reading.{key_kinds, field_count}
use Rattle.index_page.specs.Header.{records_of}
use Rattle.tree_walk.specs.Index.{Index, no_row, page_in, fields_on, root_level, rows_on, rows_of, row_at}
use Rattle.tree_walk.specs.Index.{child_of, children, key_in, pages_at}
use Rattle.tree_walk.specs.Descent.{tree_rows}
use Rattle.tree_walk.specs.Records.{record_key}
use Rattle.tree_walk.proofs.DescentLaw.{same_kinds}
use Rattle.tree_walk.proofs.Records.{length-records}
use Rattle.tree_layout.specs.Entries.{Entry, key_of_entry, HoldsEntry}
use Rattle.tree_layout.specs.Division.{Level, pointer_to_page}
use Rattle.tree_layout.specs.Levels.{level_at, width_at, page_entries, entries_at, top_of, numbers_at}
use Rattle.tree_layout.specs.Built.{HoldsTree}
use Rattle.tree_layout.specs.Entries.{IsRowOf}
use Rattle.tree_layout.proofs.Offsets.{all_within}
use Rattle.tree_layout.proofs.Zips.{zip_maps, zip_kept, zip_from, zip-map, zip-flat_map, zip_length, zip_at}
use Rattle.tree_layout.proofs.Records.{key_is, child_is}
use Rattle.tree_layout.proofs.Rise.{level_rises, parts_at, first_keys, entry_above, count_above, fields_at}
use Rattle.tree_layout.proofs.Rise.{length-node}
use Rattle.tree_layout.proofs.Rise.{length-pointer, key_of_pointer, fields_up}
use Rattle.compact_record.specs.Writing.{part_cell}

pub length-numbers : (levels : List Level) (numbers : ℕ → ℕ → ℕ) (l : ℕ)
    → length (numbers_at levels numbers l) ≡ width_at levels l
length-numbers levels numbers l = length-map-range_with_len (numbers l) 0 (width_at levels l)

pub number_at : (levels : List Level) (numbers : ℕ → ℕ → ℕ) (l k d : ℕ) → k < width_at levels l
    → get_or (numbers_at levels numbers l) k d ≡ numbers l k
number_at levels numbers l k d within =
    get_or-map-range_with_len (numbers l) 0 (width_at levels l) k k d within (omega arith)

-- keys have the same kinds, and as many fields, on every level
pub keys_on : (leaf node : Fields) → AreOfOneIndex leaf node → (l : ℕ) → (fields_at leaf node l).keys ≡ leaf.keys
keys_on leaf node one zero = refl
keys_on leaf node one (suc l) = rw (fields_up leaf node l) one.keys

pub kinds_on : (leaf node : Fields) → AreOfOneIndex leaf node → (l : ℕ)
    → key_kinds (fields_at leaf node l) ≡ key_kinds leaf
kinds_on leaf node one zero = refl
kinds_on leaf node one (suc l) = rw (fields_up leaf node l) (same_kinds leaf node one)

few_on : (leaf node : Fields) → AreOfOneIndex leaf node → (l : ℕ) → leaf.keys ≤ field_count (fields_at leaf node l)
few_on leaf node one zero = one.few
few_on leaf node one (suc l) =
    rw (fields_up leaf node l) (let size = length-node leaf node one in omega arith)

module _ (index : Index) (numbers : ℕ → ℕ → ℕ) (levels : List Level) (tree : HoldsTree index numbers levels) where
  -- each page has as many records as entries
  pub count_records : (l k : ℕ) → l < length levels → k < width_at levels l
      → length (records_of (page_in index (numbers l k))) ≡ length (page_entries levels l k)
  count_records l k inside within =
      length-records (page_in index (numbers l k)) ∙ (tree.pages l k inside within).count

  -- the records of a page are its entries
  pub page_rows : (l k : ℕ) → l < length levels → k < width_at levels l
      → AllZip (IsRowOf index (fields_on index l)) (rows_on index (numbers l k)) (page_entries levels l k)
  page_rows l k inside within =
      let page = page_in index (numbers l k) in
      let count = count_records l k inside within in
      zip-map (IsRowOf index (fields_on index l)) (λ origin. record { page = numbers l k; origin = origin })
      (records_of page) (page_entries levels l k)
      (zip_from (HoldsEntry page (fields_on index l)) (records_of page) (page_entries levels l k) 0 [] count
      (λ i below. (tree.pages l k inside within).holds i (omega arith)))

  -- the rows of a level are its entries, from left to right
  pub level_rows : (l : ℕ) → l < length levels → AllZip (IsRowOf index (fields_on index l))
      (rows_of index (numbers_at levels numbers l)) (entries_at levels l)
  level_rows l inside =
      zip-flat_map (IsRowOf index (fields_on index l)) (rows_on index) (numbers_at levels numbers l)
      (level_at levels l)
      (zip_from (λ n list. AllZip (IsRowOf index (fields_on index l)) (rows_on index n) list)
      (numbers_at levels numbers l) (level_at levels l) 0 [] (length-numbers levels numbers l)
      (λ k below.
      let within : k < width_at levels l = let size = length-numbers levels numbers l in omega arith in
      subst (λ n. AllZip (IsRowOf index (fields_on index l)) (rows_on index n) (page_entries levels l k))
      (sym (number_at levels numbers l k 0 within)) (page_rows l k inside within)))

  pub count_rows : (l : ℕ) → l < length levels
      → length (rows_of index (numbers_at levels numbers l)) ≡ length (entries_at levels l)
  count_rows l inside = zip_length (IsRowOf index (fields_on index l)) _ _ (level_rows l inside)

  -- record i of a page has the key of entry i
  pub record_key_is : (l k i : ℕ) → l < length levels → k < width_at levels l → i < length (page_entries levels l k)
      → record_key (page_in index (numbers l k)) (fields_on index l) i
      ≡ key_of_entry index.leaf.keys (get_or (page_entries levels l k) i [])
  record_key_is l k i inside within below =
      let page = page_in index (numbers l k) in
      let count = count_records l k inside within in
      let holds = (tree.pages l k inside within).holds i below in
      let parts : length (get_or (page_entries levels l k) i []) ≡ field_count (fields_on index l) =
      all_within (λ (entry : Entry). length entry ≡ field_count (fields_on index l)) (level_at levels l) k
      (parts_at index.leaf index.node numbers levels tree.one_index tree.are_levels l inside) within i [] below in
      let few = few_on index.leaf index.node tree.one_index l in
      let keys = keys_on index.leaf index.node tree.one_index l in
      key_is page (fields_on index l) (get_or (records_of page) i 0) (get_or (page_entries levels l k) i []) holds
      (omega arith) (omega arith)
      ∙ ap (λ n. key_of_entry n (get_or (page_entries levels l k) i [])) keys

  -- row j above a level is the pointer to its page j
  pointer_row : (l j : ℕ) → suc l < length levels → j < width_at levels l
      → IsRowOf index index.node (row_at (rows_of index (numbers_at levels numbers (suc l))) j)
      (pointer_to_page index.node.keys (page_entries levels l j) (numbers l j))
  unfolding row_at
  pointer_row l j inside within =
      let rows = rows_of index (numbers_at levels numbers (suc l)) in
      let count = count_rows (suc l) inside in
      let above = count_above index.leaf index.node numbers levels tree.one_index tree.are_levels l inside in
      let row = zip_at (IsRowOf index (fields_on index (suc l))) rows (entries_at levels (suc l)) j no_row []
      (level_rows (suc l) inside) (omega arith) in
      subst (λ fields. IsRowOf index fields (get_or rows j no_row)
      (pointer_to_page index.node.keys (page_entries levels l j) (numbers l j)))
      (fields_up index.leaf index.node l)
      (subst (IsRowOf index (fields_on index (suc l)) (get_or rows j no_row))
      (entry_above index.leaf index.node numbers levels tree.one_index tree.are_levels l j [] inside within) row)

  first_parts : (l j : ℕ) → suc l < length levels → j < width_at levels l
      → index.node.keys ≤ length (get_or (page_entries levels l j) 0 [])
  first_parts l j inside within =
      let keys = (level_rises index.leaf index.node numbers levels tree.one_index tree.are_levels l
      (omega arith)).keys in
      let same = tree.one_index.keys in
      let first = first_keys index.leaf index.node numbers levels tree.one_index tree.are_levels l j inside within
      keys in
      omega arith

  -- it leads to that page, by the key of its first entry
  pub child_above : (l j : ℕ) → suc l < length levels → j < width_at levels l
      → child_of index (row_at (rows_of index (numbers_at levels numbers (suc l))) j) ≡ numbers l j
  unfolding child_of
  child_above l j inside within =
      let row = row_at (rows_of index (numbers_at levels numbers (suc l))) j in
      let size = length-node index.leaf index.node tree.one_index in
      let same = tree.one_index.keys in
      let small = tree.small l j (omega arith) within in
      child_is (page_in index row.page) index.node row.origin (get_or (page_entries levels l j) 0 []) (numbers l j)
      (pointer_row l j inside within) (omega arith) (first_parts l j inside within) (omega arith)

  pub pointer_key : (l j : ℕ) → suc l < length levels → j < width_at levels l
      → key_in index (row_at (rows_of index (numbers_at levels numbers (suc l))) j)
      ≡ key_of_entry index.leaf.keys (get_or (page_entries levels l j) 0 [])
  unfolding key_in
  pointer_key l j inside within =
      let row = row_at (rows_of index (numbers_at levels numbers (suc l))) j in
      let first = get_or (page_entries levels l j) 0 [] in
      let size = length-node index.leaf index.node tree.one_index in
      let same = tree.one_index.keys in
      let enough = first_parts l j inside within in
      let pointer = pointer_to_page index.node.keys (page_entries levels l j) (numbers l j) in
      let parts = length-pointer index.node.keys first (numbers l j) enough in
      key_is (page_in index row.page) index.node row.origin pointer (pointer_row l j inside within) (omega arith)
      (omega arith)
      ∙ ap (map part_cell) (key_of_pointer index.node.keys first (numbers l j) enough)
      ∙ ap (λ n. key_of_entry n first) same

  -- the children of a level are the pages of the level below
  pub children_above : (l : ℕ) → suc l < length levels
      → children index (rows_of index (numbers_at levels numbers (suc l))) ≡ numbers_at levels numbers l
  unfolding row_at
  children_above l inside =
      let rows = rows_of index (numbers_at levels numbers (suc l)) in
      let count = count_rows (suc l) inside in
      let above = count_above index.leaf index.node numbers levels tree.one_index tree.are_levels l inside in
      let size = length-numbers levels numbers l in
      let each = length-map rows (child_of index) in
      ext_get_or 0 (children index rows) (numbers_at levels numbers l) (omega arith)
      (λ j below.
      let within : j < width_at levels l = omega arith in
      get_or-map (child_of index) rows j no_row 0 (omega arith) ∙ child_above l j inside within
      ∙ sym (number_at levels numbers l j 0 within))

  pub root_alone : numbers_at levels numbers (top_of levels) ≡ index.root ∷ []
  root_alone =
      ap (λ n. map (numbers (top_of levels)) (range_with_len 0 n)) tree.are_levels.single
      ∙ ap (λ n. n ∷ []) (sym tree.root)

  -- the pages so many levels below the root
  pub pages_are : (d l : ℕ) → l + d ≡ top_of levels → pages_at index d ≡ numbers_at levels numbers l
  unfolding pages_at
  pages_are zero l sum =
      let some = tree.are_levels.some in
      let top : l ≡ top_of levels = omega arith in
      sym root_alone ∙ ap (numbers_at levels numbers) (sym top)
  pages_are (suc d) l sum =
      let some = tree.are_levels.some in
      ap (λ pages. children index (rows_of index pages)) (pages_are d (suc l) (omega arith))
      ∙ children_above l (omega arith)

  -- the level of the root
  pub root_level_is : root_level index ≡ top_of levels
  root_level_is =
      let some = tree.are_levels.some in
      let single = tree.are_levels.single in
      rw tree.root (tree.pages (top_of levels) 0 (omega arith) (omega arith)).at_level

  module _ (by_leaves : RowsByLeaves) where
    -- the rows of the tree by descent are the leaf entries, in order
    pub rows_are : AllZip (IsRowOf index index.leaf) (tree_rows index) (entries_at levels 0)
    rows_are =
        let some = tree.are_levels.some in
        let level : 0 + root_level index ≡ top_of levels = let e = root_level_is in omega arith in
        subst (λ rows. AllZip (IsRowOf index index.leaf) rows (entries_at levels 0)) (by_leaves index)
        (subst (λ pages. AllZip (IsRowOf index index.leaf) (rows_of index pages) (entries_at levels 0))
        (sym (pages_are (root_level index) 0 level)) (level_rows 0 some))

    -- so are their keys, and none has the delete mark
    pub row_keys_are : map (row_key index) (tree_rows index)
        ≡ map (key_of_entry index.leaf.keys) (entries_at levels 0)
    unfolding row_key
    row_keys_are =
        let few = tree.one_index.few in
        zip_maps (IsRowOf index index.leaf) (λ (entry : Entry). length entry ≡ field_count index.leaf) (row_key index)
        (key_of_entry index.leaf.keys)
        (λ row entry holds size. key_is (page_in index row.page) index.leaf row.origin entry holds few (omega arith))
        (tree_rows index) (entries_at levels 0) rows_are tree.are_levels.parts

    pub rows_live : filter (is_live_row index) (tree_rows index) ≡ tree_rows index
    unfolding is_deleted_row
    rows_live =
        zip_kept (IsRowOf index index.leaf) (is_live_row index) (λ row entry holds. ap not holds.live) (tree_rows index)
        (entries_at levels 0) rows_are
