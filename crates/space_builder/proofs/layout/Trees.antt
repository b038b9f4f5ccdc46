-- The file of a built tablespace has the trees of its table, with the entries as their rows.
use Rattle.std.proofs.Common.{◌≡◌, ℕ, ◌+◌, ◌-◌, ◌*◌, ◌<◌, ◌≤◌, ◌==◌, cond, List, length, Some, None}
use Rattle.std.proofs.Common.{refl, sym, ap, ◌∙◌, subst, arith, inl}
use Rattle.std.proofs.lemmas.Bool.{eq-eqb}
use Rattle.page_source.specs.Pages.{page_of, num}
use Rattle.fil_frame.specs.Kinds.{index_kind}
use Rattle.fil_frame.specs.Frame.{kind_of, space_of}
use Rattle.index_page.specs.Header.{index_id_of}
use Rattle.inode_segments.specs.Inodes.{segments, segment_count}
use Rattle.space_audit.specs.Space.{segment_with_address}
use Rattle.space_header.specs.Header.{address_at}
use Rattle.schema_text.specs.TableDef.{TableDef}
use Rattle.schema_text.specs.IndexFields.{leaf_fields, node_fields}
use Rattle.page_packer.specs.Laws.{HasHeads, HasNumbers, NamesInodes}
use Rattle.tree_walk.specs.Index.{Index, page_in}
use Rattle.tree_walk.specs.Place.{IsBeside}
use Rattle.tree_walk.specs.TreeChecks.{before, after}
use Rattle.table_check.specs.Trees.{index_in, index_count, segments_of_trees}
use Rattle.table_check.specs.Valid.{HasTrees, pages_of_descents}
use Rattle.space_layout.specs.Numbers.{size_at, segment_page}
use Rattle.space_layout.specs.Fields.{inode_place}
use Rattle.tree_layout.specs.Entries.{Entry}
use Rattle.tree_layout.specs.Division.{Level, tree_levels}
use Rattle.tree_layout.specs.Levels.{width_at, page_entries, is_top, top_of, numbers_at}
use Rattle.tree_layout.specs.Places.{segment_for, place_for, tree_number, top_size, leaf_size}
use Rattle.tree_layout.specs.Built.{IsBuiltPage}
use Rattle.tree_layout.specs.Divided.{counts_for, numbers_for, levels_for, NamesPlaces, NamesTwoSegments}
use Rattle.tree_layout.specs.Divided.{HasPages, HoldsDivided}
use Rattle.tree_layout.specs.HeldLaws.{HasItsRows}
use Rattle.space_builder.specs.layout.TreePage.{heads_of, heads_on, fields_of_level}
use Rattle.row_store.specs.StoredRows.{Rows}
use Rattle.space_builder.specs.layout.Layout.{tree_counts, segment_sizes, value_number, page_number}
use Rattle.space_builder.specs.layout.Layout.{index_entries}
use Rattle.space_builder.specs.layout.Layout.{index_levels, layout_tree_page, layout_file}
use Rattle.space_builder.specs.layout.LowerLaws.{LowerLaws}
use Rattle.space_builder.specs.layout.Laws.{CanBuild}
use Rattle.space_builder.proofs.layout.TreePages as pages
use Rattle.space_builder.proofs.layout.Sizes.{counts_with, can_divide, segments_are}
use Rattle.space_builder.proofs.layout.Laid.{numbers, fits, fill, levels_good, levels_length, inside_counts}
use Rattle.space_builder.proofs.layout.Laid.{within_counts, page_place, page_small, leaf_fields_good, node_fields_good}
use Rattle.space_builder.proofs.layout.Laid.{index_few}
use Rattle.space_builder.proofs.layout.File.{segments_held, file_page}

-- the file has the trees of the table, whose rows are these entries
pub record IsHeld (file : List ℕ) (table : TableDef) (page : ℕ → ℕ → ℕ) (entries : ℕ → List Entry) : Type 0 where
  pub trees : HasTrees file table
  pub rows : (j : ℕ) → j < index_count table → HasItsRows (index_in file table j) page j (entries j)

module _ (laws : LowerLaws) (table : TableDef) (rows : Rows) (can : CanBuild table rows) where
  abbrev sizes : List ℕ
  sizes = segment_sizes table rows

  abbrev file : List ℕ
  file = layout_file table rows

  abbrev counts : ℕ → List ℕ
  counts j = tree_counts table rows j

  module _ (j : ℕ) (inside_table : j < length table.indexes) where
    abbrev index : Index
    index = index_in file table j

    abbrev levels : List Level
    levels = index_levels table rows j

    abbrev number : ℕ → ℕ → ℕ
    number = page_number table rows j

    pub counts_same : counts_for index (index_entries table rows j) ≡ tree_counts table rows j
    unfolding counts_for index_in index_entries
    counts_same = counts_with laws table rows (λ l k. 0) (value_number table rows) j

    -- the page of the file
    module _ (l k : ℕ) (inside : l < length levels) (within : k < width_at levels l) where
      abbrev page : List ℕ
      page = layout_tree_page table rows j l k

      page_is : page_of file (number l k) ≡ page
      page_is = file_page laws table rows can (number l k) page (inl record {
        j = j;
        l = l;
        k = k;
        index = inside_table;
        inside = inside;
        within = within;
        number = refl;
        page = refl;
      })

      has_numbers : HasNumbers page l (before (numbers_at levels number l) k) (after (numbers_at levels number l) k)
          (j + 1) (heads_on levels j l)
      has_numbers =
          pages.numbers_held laws.page (leaf_fields table j) (node_fields table j)
          number levels (index_entries table rows j) (levels_good laws table rows can j inside_table)
          (leaf_fields_good laws table rows can j inside_table) (node_fields_good laws table rows can j inside_table) j
          (index_few laws table rows can j inside_table) (page_small laws table rows can j inside_table) l k inside
          within

      built : IsBuiltPage (fields_of_level (leaf_fields table j) (node_fields table j) l) page l (is_top levels l)
          (k == 0) (page_entries levels l k)
      built =
          pages.built_page laws.page (leaf_fields table j) (node_fields table j)
          number levels (index_entries table rows j) (levels_good laws table rows can j inside_table)
          (leaf_fields_good laws table rows can j inside_table) (node_fields_good laws table rows can j inside_table) j
          (index_few laws table rows can j inside_table) (page_small laws table rows can j inside_table) l k inside
          within

      kind_is : kind_of page ≡ index_kind
      kind_is =
          (pages.page_seals laws.page (leaf_fields table j) (node_fields table j)
          number levels (index_entries table rows j) (levels_good laws table rows can j inside_table)
          (leaf_fields_good laws table rows can j inside_table) (node_fields_good laws table rows can j inside_table) j
          (index_few laws table rows can j inside_table) (page_small laws table rows can j inside_table) l k inside
          within).has_kind

    pages_held : HasPages index j (counts j) number levels
    unfolding index_in
    pages_held = record {
      pages = λ l k inside within.
          subst (λ page. IsBuiltPage (fields_of_level (leaf_fields table j) (node_fields table j) l) page l
          (is_top levels l) (k == 0) (page_entries levels l k)) (sym (page_is l k inside within))
          (built l k inside within);
      id = j + 1;
      ids = λ l k inside within.
          ap index_id_of (page_is l k inside within) ∙ (has_numbers l k inside within).has_id;
      beside = λ l k inside within.
          subst (λ page. IsBeside page (before (numbers_at levels number l) k) (after (numbers_at levels number l) k))
          (sym (page_is l k inside within))
          ((has_numbers l k inside within).has_prev, (has_numbers l k inside within).has_next);
      used = λ l k inside within.
          (segments_held laws table rows can).pages (segment_for (counts j) j l) (place_for (counts j) l k)
          (number l k) index_kind
          (page_place laws table rows can j inside_table l k
          (inside_counts laws table rows can j inside_table l k inside within)
          (within_counts laws table rows can j inside_table l k inside within))
          (ap kind_of (page_is l k inside within) ∙ kind_is l k inside within);
      small = page_small laws table rows can j inside_table;
    }

    -- the root
    root_number : number (top_of levels) 0 ≡ segment_page sizes (2 * j) 0
    unfolding page_number
    root_number =
        let same = levels_length laws table rows can j inside_table in
        let top = length (counts j) - 1 in
        let last : top ≡ top_of levels = ap (λ n. n - 1) same in
        let places = fill laws table rows can j inside_table in
        ap (λ l. segment_page sizes (segment_for (counts j) j l) (place_for (counts j) l 0)) (sym last)
        ∙ ap (λ s. segment_page sizes s (place_for (counts j) top 0)) places.root_segment
        ∙ ap (segment_page sizes (2 * j)) places.root_place

    root_is : index.root ≡ segment_page sizes (2 * j) 0
    unfolding index_in
    root_is = can.roots j inside_table ∙ sym ((numbers laws table rows can).roots j)

    top_inside : top_of levels < length levels
    top_inside = let some = (levels_good laws table rows can j inside_table).are_levels.some in omega arith

    root_within : 0 < width_at levels (top_of levels)
    root_within = let one = (levels_good laws table rows can j inside_table).are_levels.single in omega arith

    root_page : page_in index index.root ≡ layout_tree_page table rows j (top_of levels) 0
    unfolding index_in
    root_page =
        ap (page_of file) (root_is ∙ sym root_number) ∙ page_is (top_of levels) 0 top_inside root_within

    root_heads : NamesInodes (layout_tree_page table rows j (top_of levels) 0) (heads_of j)
    root_heads =
        subst (λ b. HasHeads (layout_tree_page table rows j (top_of levels) 0) (cond b (Some (heads_of j)) None))
        (eq-eqb (top_of levels) (top_of levels) refl)
        (has_numbers (top_of levels) 0 top_inside root_within).has_heads

    file_of_index : index.file ≡ file
    unfolding index_in
    file_of_index = refl

    names_places : NamesPlaces index (length sizes) inode_place j
    unfolding address_at
    names_places =
        let count = segments_are laws table rows in
        let held = segments_held laws table rows can in
        let heads = root_heads in record {
          within = omega arith;
          known = subst (λ f. segment_count f ≡ length sizes) (sym file_of_index) held.count;
          found = λ s below. subst (λ f. segment_with_address (segments f) (inode_place s) ≡ s) (sym file_of_index)
              (held.found s below);
          leaf = ap (λ p. address_at p 78) root_page ∙ rw (heads.leaf_page, heads.leaf_offset) refl;
          top = ap (λ p. address_at p 88) root_page ∙ rw (heads.top_page, heads.top_offset) refl;
          leaf_space = ap (λ p. num p 74 4) root_page ∙ heads.leaf_space
              ∙ sym (ap (λ f. space_of (page_of f 0)) file_of_index ∙ held.id);
          top_space = ap (λ p. num p 84 4) root_page ∙ heads.top_space
              ∙ sym (ap (λ f. space_of (page_of f 0)) file_of_index ∙ held.id);
        }

    pub two_segments : NamesTwoSegments index j
    two_segments = laws.tree.names index (length sizes) inode_place j names_places

    held_divided : HoldsDivided index (segment_page sizes) (size_at sizes) j (index_entries table rows j)
    unfolding numbers_for levels_for page_number index_levels index_in index_entries
    held_divided =
        let room = fits laws table rows can j inside_table in
        record {
          can = can_divide laws table rows can j inside_table (value_number table rows);
          root = root_is;
          segments = record {
            named = two_segments;
            top_room = subst (λ c. top_size c ≤ size_at sizes (2 * j)) (sym counts_same) room.top;
            leaf_room = subst (λ c. leaf_size c ≤ size_at sizes (2 * j + 1)) (sym counts_same) room.leaf;
          };
          pages = subst (λ c. HasPages index j c (tree_number (segment_page sizes) c j)
              (tree_levels (leaf_fields table j) (node_fields table j) (tree_number (segment_page sizes) c j)
              (index_entries table rows j))) (sym counts_same) pages_held;
        }

  pub trees_held : IsHeld file table (segment_page sizes) (index_entries table rows)
  unfolding pages_of_descents segments_of_trees
  trees_held =
      let held = laws.tree.rows (index_in file table) (index_count table) (segment_page sizes) (size_at sizes)
      (index_entries table rows) (numbers laws table rows can).one (λ j inside. held_divided j inside) in
      let count = (segments_held laws table rows can).count in
      let both = segments_are laws table rows in
      record {
        trees = record {
          whole = λ j inside. (held.trees.trees j inside).whole;
          once = held.trees.once;
          named = λ segment inside. held.trees.named segment (omega arith);
        };
        rows = held.rows;
      }
