-- The file of a built tablespace is a sound space, and has each page at its number.
use Rattle.std.proofs.Common.{◌≡◌, ℕ, ◌+◌, ◌^◌, ◌<◌, List, length, slice_index}
use Rattle.std.proofs.Common.{Some, Option, unwrap_or, replicate, refl, sym, ap, ◌∙◌, subst, arith}
use Rattle.std.proofs.Common.{inl, inr, lit<}
use Rattle.std.specs.FinMap.{get}
use Rattle.std.proofs.lemmas.Bool.Decides.{eqb_tells}
use Rattle.std.proofs.lemmas.List.Elements.{All-contains}
use Rattle.page_source.specs.Pages.{page_of, page_size}
use Rattle.page_source.specs.Objects.{held_page}
use Rattle.page_source.proofs.SparseFiles.{page_of_file}
use Rattle.schema_text.specs.TableDef.{TableDef}
use Rattle.schema_text.specs.Formats.{flags_of}
use Rattle.schema_text.specs.declared.table.Format.{Format}
use Rattle.schema_text.specs.declared.table.Format.TheVariants.{Compact, Dynamic}
use Rattle.space_audit.specs.Audit.{IsSoundSpace}
use Rattle.space_layout.specs.Numbers.{space_pages}
use Rattle.space_layout.specs.HeadPages.{HoldsPages}
use Rattle.space_layout.specs.Holds.{HoldsSpace, HasSegments}
use Rattle.space_layout.specs.Laws.{ArePlain}
use Rattle.space_layout.specs.ValuePlaces.{value_place, IsPart}
use Rattle.tree_layout.specs.Places.{segment_for, place_for, leaf_size, IsTreePlace}
use Rattle.row_store.specs.StoredRows.{Rows}
use Rattle.space_builder.specs.layout.Layout.{tree_counts, value_counts, segment_sizes, value_number}
use Rattle.space_builder.specs.layout.Layout.{page_number, layout_tree_page, layout_value_page}
use Rattle.space_builder.specs.layout.Layout.{segment_pages, layout_map, layout_file}
use Rattle.space_builder.specs.layout.LowerLaws.{LowerLaws}
use Rattle.space_builder.specs.layout.Laws.{CanBuild}
use Rattle.space_builder.proofs.layout.Laid.{shape, numbers, fits, fill, stand, inside_counts, within_counts}
use Rattle.space_builder.proofs.layout.Laid.{page_place, places, value_place_is}
use Rattle.space_builder.proofs.layout.Pages.{IsLaid, LaidTree, LaidValue, all_laid, every_there, laid_numbered}
use Rattle.space_builder.proofs.layout.Pages.{are_pages}

pub flags_small : (format : Format) → flags_of format < 2 ^ 32
flags_small Compact = lit< tt
flags_small Dynamic = lit< tt

pub flags_plain : (format : Format) → ArePlain (flags_of format)
flags_plain Compact = refl
flags_plain Dynamic = refl

module _ (laws : LowerLaws) (table : TableDef) (rows : Rows) (can : CanBuild table rows) where
  abbrev sizes : List ℕ
  sizes = segment_sizes table rows

  abbrev flags : ℕ
  flags = flags_of table.format

  abbrev file : List ℕ
  file = layout_file table rows

  abbrev counts : ℕ → List ℕ
  counts j = tree_counts table rows j

  abbrev parts : List (List ℕ)
  parts = value_counts table rows

  held_pages : HoldsPages (layout_map table rows) sizes flags
  unfolding layout_map
  held_pages =
      laws.space.map sizes flags (segment_pages table rows) (shape laws table rows can) (are_pages laws table rows can)

  holds_space : HoldsSpace file sizes flags
  unfolding layout_file
  holds_space =
      laws.space.file (layout_map table rows) sizes flags (shape laws table rows can) (flags_small table.format)
      held_pages

  pub sound_space : IsSoundSpace file flags
  sound_space =
      laws.space.sound file sizes flags (shape laws table rows can) (flags_plain table.format) holds_space

  pub segments_held : HasSegments file sizes
  segments_held = laws.space.segments file sizes flags (shape laws table rows can) holds_space

  -- pages with the same number are the same
  trees_same : (j i l k m h : ℕ) → j ≡ i → j < length table.indexes → l < length (counts j)
      → k < slice_index (counts j) l → m < length (counts i) → h < slice_index (counts i) m
      → page_number table rows j l k ≡ page_number table rows i m h
      → layout_tree_page table rows j l k ≡ layout_tree_page table rows i m h
  unfolding page_number
  trees_same j i l k m h same index inside within =
      subst (λ t. m < length (counts t) → h < slice_index (counts t) m
      → page_number table rows j l k ≡ page_number table rows t m h
      → layout_tree_page table rows j l k ≡ layout_tree_page table rows t m h) same
      (λ below there number.
      let both = (stand laws table rows can j index).different l k inside within m h below there number in
      ap (λ n. layout_tree_page table rows j n k) both.0 ∙ ap (layout_tree_page table rows j m) both.1)

  two_trees : (n : ℕ) (p q : List ℕ) → LaidTree table rows (n, p) → LaidTree table rows (n, q) → p ≡ q
  unfolding page_number
  two_trees n p q a b =
      let first_in = inside_counts laws table rows can a.j a.index a.l a.k a.inside a.within in
      let first_within = within_counts laws table rows can a.j a.index a.l a.k a.inside a.within in
      let other_in = inside_counts laws table rows can b.j b.index b.l b.k b.inside b.within in
      let other_within = within_counts laws table rows can b.j b.index b.l b.k b.inside b.within in
      let number : page_number table rows a.j a.l a.k ≡ page_number table rows b.j b.l b.k = sym a.number ∙ b.number in
      elim (eqb_tells a.j b.j) [
        | inl same ↦
            a.page
            ∙ trees_same a.j b.j a.l a.k b.l b.k same.1 a.index first_in first_within other_in other_within number
            ∙ sym b.page
        | inr differ ↦
            absurd ((stand laws table rows can a.j a.index).apart (counts b.j) b.j
            (fits laws table rows can b.j b.index)
            differ.1 a.l a.k first_in first_within b.l b.k other_in other_within number)
      ]

  -- no page of a tree is one of a value
  pub tree_or_value : (j s i at : ℕ) → s ≡ 1 → i ≡ leaf_size (counts 0) + at → IsTreePlace (counts j) j s i → ⊥
  tree_or_value j s i at one place (inl top) = let is = top.0 in absurd (omega arith)
  tree_or_value j s i at one place (inr leaf) =
      let is = leaf.0 in
      let first : j ≡ 0 = omega arith in
      let below : i < leaf_size (counts 0) = subst (λ j. i < leaf_size (counts j)) first leaf.1 in
      absurd (omega arith)

  apart : (j l k r i m : ℕ) → j < length table.indexes → l < length (counts j) → k < slice_index (counts j) l
      → IsPart parts r i m → page_number table rows j l k ≡ value_number table rows r i m → ⊥
  apart j l k r i m index inside within part number =
      let tree = page_place laws table rows can j index l k inside within in
      let value = value_place_is laws table rows can r i m part in
      let same = (numbers laws table rows can).one (segment_for (counts j) j l) 1 (place_for (counts j) l k)
      (leaf_size (counts 0) + value_place parts r i m) tree.inside value.inside
      (tree.there ∙ number ∙ sym value.there) in
      tree_or_value j (segment_for (counts j) j l) (place_for (counts j) l k) (value_place parts r i m) same.0 same.1
      ((fill laws table rows can j index).placed l k inside within)

  pub value_one : (r i k s j m : ℕ) → IsPart parts r i k → IsPart parts s j m
      → value_number table rows r i k ≡ value_number table rows s j m → (r ≡ s) × (i ≡ j) × (k ≡ m)
  value_one r i k s j m a b number =
      let first = value_place_is laws table rows can r i k a in
      let second = value_place_is laws table rows can s j m b in
      let same = (numbers laws table rows can).one 1 1 (leaf_size (counts 0) + value_place parts r i k)
      (leaf_size (counts 0) + value_place parts s j m) first.inside second.inside
      (first.there ∙ number ∙ sym second.there) in
      (places laws table rows can).one r i k s j m a b (let e = same.1 in omega arith)

  two_values : (n : ℕ) (p q : List ℕ) → LaidValue table rows (n, p) → LaidValue table rows (n, q) → p ≡ q
  two_values n p q a b =
      let same = value_one a.r a.i a.k b.r b.i b.k a.part b.part (sym a.number ∙ b.number) in
      a.page ∙ ap (λ r. layout_value_page table rows r a.i a.k) same.0
      ∙ ap (λ i. layout_value_page table rows b.r i a.k) same.1 ∙ ap (layout_value_page table rows b.r b.i) same.2
      ∙ sym b.page

  pub tree_apart : (n : ℕ) (p q : List ℕ) → LaidTree table rows (n, p) → LaidValue table rows (n, q) → ⊥
  tree_apart n p q a b =
      apart a.j a.l a.k b.r b.i b.k a.index (inside_counts laws table rows can a.j a.index a.l a.k a.inside a.within)
      (within_counts laws table rows can a.j a.index a.l a.k a.inside a.within) b.part (sym a.number ∙ b.number)

  pub one_page : (n : ℕ) (p q : List ℕ) → IsLaid table rows (n, p) → IsLaid table rows (n, q) → p ≡ q
  one_page n p q (inl a) (inl b) = two_trees n p q a b
  one_page n p q (inl a) (inr b) = absurd (tree_apart n p q a b)
  one_page n p q (inr a) (inl b) = absurd (tree_apart n q p b a)
  one_page n p q (inr a) (inr b) = two_values n p q a b

  -- the file has each page
  map_page : (n : ℕ) (page : List ℕ) → IsLaid table rows (n, page) → get (layout_map table rows) n ≡ Some page
  unfolding layout_map
  map_page n page laid =
      let is = laid_numbered laws table rows can (n, page) laid in
      let low = (numbers laws table rows can).low is.segment is.at n is.place in
      let pages = segment_pages table rows in
      let found = laws.space.found sizes flags pages n low
      (every_there laws table rows can is.segment is.at n is.place) in
      let so = All-contains (IsLaid table rows) pages (n, found.page) (all_laid laws table rows can) found.among in
      found.held ∙ ap (λ (p : List ℕ). Some p) (one_page n found.page page so laid)

  pub file_page : (n : ℕ) (page : List ℕ) → IsLaid table rows (n, page) → page_of file n ≡ page
  unfolding layout_file held_page
  file_page n page laid =
      let is = laid_numbered laws table rows can (n, page) laid in
      let high = (numbers laws table rows can).high is.segment is.at n is.place in
      page_of_file (space_pages sizes) (layout_map table rows) n held_pages.whole high
      ∙ ap (λ (o : Option (List ℕ)). unwrap_or o (replicate page_size 0)) (map_page n page laid)
