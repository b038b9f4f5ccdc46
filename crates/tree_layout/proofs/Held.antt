-- A file that holds the trees into which entries are divided holds trees.
use Rattle.std.proofs.Common.{◌≡◌, ◌≢◌, ℕ, ◌+◌, ◌-◌, ◌*◌, ◌<◌, ◌≤◌, List, [], length, cond}
use Rattle.std.proofs.Common.{refl, sym, ap, ◌∙◌, subst, arith, inl, inr, ◌⊎◌, slice_index}
use Rattle.std.proofs.lemmas.Bool.{ne_eqb, eq-eqb}
use Rattle.std.proofs.lemmas.Bool.Decides.{eqb_tells}
use Rattle.std.proofs.lemmas.List.{length-map, get_or-map}
use Rattle.fil_frame.specs.Kinds.{index_kind}
use Rattle.space_audit.specs.Space.{IsPageOf}
use Rattle.tree_walk.specs.Index.{Index}
use Rattle.tree_walk.specs.Segments.{segment_at, segment_named_at, leaf_segment, top_segment}
use Rattle.inode_segments.specs.Inodes.{segments}
use Rattle.space_audit.specs.Space.{segment_with_address}
use Rattle.tree_layout.specs.Entries.{Entry}
use Rattle.tree_layout.specs.Division.{Level, level_counts}
use Rattle.tree_layout.specs.Levels.{EachPage, width_at, top_of}
use Rattle.tree_layout.specs.Places.{EachPlace, segment_for, place_for, pages_above}
use Rattle.tree_layout.specs.Places.{HaveOneNumber, FitsSegments}
use Rattle.tree_layout.specs.Built.{HoldsTree, ShareNoPages, segment_of_level}
use Rattle.tree_layout.specs.Divided.{counts_for, numbers_for, levels_for, HoldsDivided}
use Rattle.tree_layout.specs.DivisionLaws.{AreTheLevels, DivisionGivesLevels, CountsNeedNoNumbers}
use Rattle.tree_layout.specs.PlaceLaws.{StandApart, NumbersAreDifferent}
use Rattle.tree_layout.specs.HeldLaws.{HoldsTheTrees, DividedTreesAreHeld, HeadersNameSegments}
use Rattle.tree_layout.specs.TreeLaws.{BuiltTreesAreWhole}
use Rattle.tree_layout.specs.HeldLaws.{TreesTakePlaces}
use Rattle.page_source.specs.Lists.{times_in}
use Rattle.tree_walk.specs.Descent.{pages_by_descent}
use Rattle.tree_walk.specs.Laws.{LevelsHaveThePages}
use Rattle.tree_layout.specs.Places.{IsTreePlace}
use Rattle.tree_layout.proofs.Numbers.{tree_place}
use Rattle.tree_layout.proofs.Filled.{page_at_place}
use Rattle.tree_layout.proofs.Together.{descent_page, page_descended}
use Rattle.tree_layout.proofs.Numbers.{leaves, upper, row_of, leaf_segment_for, top_segment_for, top_place}
use Rattle.tree_layout.proofs.Numbers.{root_first}

-- the counts of levels
pub length-counts : (levels : List Level) → length (level_counts levels) ≡ length levels
length-counts levels = length-map levels (λ (level : Level). length level)

pub count_at : (levels : List Level) (l : ℕ) → l < length levels
    → slice_index (level_counts levels) l ≡ width_at levels l
count_at levels l inside = get_or-map (λ (level : Level). length level) levels l [] 0 inside

-- the segment of the levels above the leaves, and of a root
above_bottom : (levels : List Level) (l : ℕ) → l < length levels → (0 < l) ⊎ (length levels ≡ 1)
    → l ≢ top_of levels → l ≢ 0
above_bottom levels l inside (inl above) other bottom = absurd (omega arith)
above_bottom levels l inside (inr one) other bottom = other (omega arith)

upper_is : (index : Index) (levels : List Level) (l : ℕ) → l < length levels → (0 < l) ⊎ (length levels ≡ 1)
    → segment_of_level index levels l ≡ top_segment index
upper_is index levels l inside kind =
    elim (eqb_tells l (top_of levels)) [
      | inl top ↦ ap (λ top. cond top (top_segment index) (segment_at index l)) top.0
      | inr other ↦
          ap (λ top. cond top (top_segment index) (segment_at index l)) other.0
          ∙ ap (λ leaf. cond leaf (leaf_segment index) (top_segment index))
          (ne_eqb l 0 (above_bottom levels l inside kind other.1))
    ]

same_kind : (n m l : ℕ) → n ≡ m → (0 < l) ⊎ (n ≡ 1) → (0 < l) ⊎ (m ≡ 1)
same_kind n m l same (inl above) = inl above
same_kind n m l same (inr one) = inr (omega arith)

module _ (law : DivisionGivesLevels) (sizes : CountsNeedNoNumbers) (differ : NumbersAreDifferent)
    (page : ℕ → ℕ → ℕ) (size : ℕ → ℕ) (one : HaveOneNumber page size) where
  module _ (index : Index) (j : ℕ) (entries : List Entry) (held : HoldsDivided index page size j entries) where
    the_levels : AreTheLevels index.leaf index.node (numbers_for index page j entries) entries
        (levels_for index page j entries)
    unfolding levels_for
    the_levels = law index.leaf index.node (numbers_for index page j entries) entries held.can

    counts_are : level_counts (levels_for index page j entries) ≡ counts_for index entries
    unfolding levels_for counts_for
    counts_are =
        sizes index.leaf index.node (numbers_for index page j entries) (λ l k. 0) entries

    length_is : length (counts_for index entries) ≡ length (levels_for index page j entries)
    length_is = ap length (sym counts_are) ∙ length-counts (levels_for index page j entries)

    width_is : (l : ℕ) → l < length (levels_for index page j entries)
        → slice_index (counts_for index entries) l ≡ width_at (levels_for index page j entries) l
    width_is l inside =
        ap (λ counts. slice_index counts l) (sym counts_are) ∙ count_at (levels_for index page j entries) l inside

    fits : FitsSegments (counts_for index entries) size j
    fits =
        let some = the_levels.are_levels.some in
        let same = length_is in
        let top = width_is (top_of (levels_for index page j entries)) (omega arith) in
        let last : length (counts_for index entries) - 1 ≡ top_of (levels_for index page j entries) =
        ap (λ n. n - 1) same in record {
          some = omega arith;
          single = ap (slice_index (counts_for index entries)) last ∙ top ∙ the_levels.are_levels.single;
          top = held.segments.top_room;
          leaf = held.segments.leaf_room;
        }

    stand : StandApart page size (counts_for index entries) j
    stand = differ page size (counts_for index entries) j one fits

    -- what holds of each place holds of each page
    each : (P : ℕ → ℕ → Type 0) → EachPlace (counts_for index entries) P
        → EachPage (levels_for index page j entries) P
    each P holds l k inside within =
        let same = length_is in
        let width = width_is l inside in
        holds l k (omega arith) (omega arith)

    distinct : EachPage (levels_for index page j entries) (λ l k. EachPage (levels_for index page j entries) (λ m i.
        numbers_for index page j entries l k ≡ numbers_for index page j entries m i → (l ≡ m) × (k ≡ i)))
    unfolding numbers_for
    distinct l k inside within m i other there =
        let same = length_is in
        let width = width_is l inside in
        let second = width_is m other in
        stand.different l k (omega arith) (omega arith) m i (omega arith) (omega arith)

    -- the root is the first page of its segment
    root_is : index.root ≡ numbers_for index page j entries (top_of (levels_for index page j entries)) 0
    unfolding numbers_for
    root_is =
        let some = the_levels.are_levels.some in
        let same = length_is in
        let top = top_of (levels_for index page j entries) in
        let counts = counts_for index entries in
        let last : length counts - 1 ≡ top = ap (λ n. n - 1) same in
        let first : pages_above counts top ≡ 0 =
        ap (pages_above counts) (sym last) ∙ root_first counts (omega arith) in
        elim (row_of counts top (omega arith)) [
          | leaves bottom many row ↦ absurd (omega arith)
          | upper kind row ↦
              let place : place_for counts top 0 ≡ 0 = top_place counts top 0 row ∙ omega arith in
              held.root ∙ rw (top_segment_for counts j top row, place) refl
        ]

    -- each page is used by the segment of its level
    segment_is : (l : ℕ) → l < length (levels_for index page j entries)
        → segment_of_level index (levels_for index page j entries) l ≡ segment_for (counts_for index entries) j l
    segment_is l inside =
        let levels = levels_for index page j entries in
        let counts = counts_for index entries in
        let same = length_is in
        elim (row_of counts l (omega arith)) [
          | leaves bottom many row ↦
              ap (λ top. cond top (top_segment index) (segment_at index l))
              (ne_eqb l (top_of levels) (λ e. omega arith))
              ∙ ap (λ leaf. cond leaf (leaf_segment index) (top_segment index)) (eq-eqb l 0 bottom)
              ∙ held.segments.named.leaf ∙ sym (leaf_segment_for counts j l row)
          | upper kind row ↦
              upper_is index levels l inside (same_kind (length counts) (length levels) l same kind)
              ∙ held.segments.named.top
              ∙ sym (top_segment_for counts j l row)
        ]

    holds : HoldsTree index (numbers_for index page j entries) (levels_for index page j entries)
    holds = record {
      one_index = held.can.one_index;
      are_levels = the_levels.are_levels;
      few = the_levels.few;
      root = root_is;
      segments = held.segments.named.names;
      pages = held.pages.pages;
      id = held.pages.id;
      ids = held.pages.ids;
      beside = held.pages.beside;
      used = λ l k inside within. subst (λ segment. IsPageOf index.file segment index_kind
          (numbers_for index page j entries l k)) (sym (segment_is l inside)) (held.pages.used l k inside within);
      small = held.pages.small;
      distinct = distinct;
    }

  module _ (index : ℕ → Index) (limit : ℕ) (entries : ℕ → List Entry)
      (held : (j : ℕ) → j < limit → HoldsDivided (index j) page size j (entries j)) where
    own_pages : (i j : ℕ) → i < j → j < limit → ShareNoPages (numbers_for (index i) page i (entries i))
        (levels_for (index i) page i (entries i)) (numbers_for (index j) page j (entries j))
        (levels_for (index j) page j (entries j))
    unfolding numbers_for
    own_pages i j before inside l k here within m h there below =
        let first = held i (omega arith) in
        let second = held j inside in
        let apart = (stand (index i) i (entries i) first).apart (counts_for (index j) (entries j)) j
        (fits (index j) j (entries j) second) (λ same. omega arith) in
        let one_length = length_is (index i) i (entries i) first in
        let one_width = width_is (index i) i (entries i) first l here in
        let two_length = length_is (index j) j (entries j) second in
        let two_width = width_is (index j) j (entries j) second m there in
        apart l k (omega arith) (omega arith) m h (omega arith) (omega arith)

    all_held : HoldsTheTrees index limit page entries
    all_held = record {
      trees = record {
        trees = λ j inside. holds (index j) j (entries j) (held j inside);
        apart = own_pages;
        top = λ j inside. (held j inside).segments.named.top;
        leaf = λ j inside. (held j inside).segments.named.leaf;
      };
      leaves = λ j inside. (the_levels (index j) j (entries j) (held j inside)).leaves;
    }

pub held_law : DivisionGivesLevels → CountsNeedNoNumbers → NumbersAreDifferent → DividedTreesAreHeld
held_law law sizes differ index count page size entries one held =
    all_held law sizes differ page size one index count entries held

-- the segments that a root names
pub names_law : HeadersNameSegments
unfolding segment_named_at
names_law index count place j named =
    let leaf : leaf_segment index ≡ 2 * j + 1 =
    ap (segment_with_address (segments index.file)) named.leaf ∙ named.found (2 * j + 1) named.within in
    let inside = named.within in
    let known = named.known in
    let top : top_segment index ≡ 2 * j =
    ap (segment_with_address (segments index.file)) named.top ∙ named.found (2 * j) (omega arith) in record {
      names = record {
        leaf_space = named.leaf_space;
        top_space = named.top_space;
        leaf_known = omega arith;
        top_known = omega arith;
        differ = λ same. omega arith;
      };
      top = top;
      leaf = leaf;
    }

-- the places that a tree takes
module _ (whole : BuiltTreesAreWhole) (have : LevelsHaveThePages) (law : DivisionGivesLevels)
    (sizes : CountsNeedNoNumbers) (differ : NumbersAreDifferent) (index : Index) (page : ℕ → ℕ → ℕ) (size : ℕ → ℕ)
    (j : ℕ) (entries : List Entry) (one : HaveOneNumber page size) (held : HoldsDivided index page size j entries)
  where
    held_tree : HoldsTree index (numbers_for index page j entries) (levels_for index page j entries)
    held_tree = holds law sizes differ page size one index j entries held

    held_fits : FitsSegments (counts_for index entries) size j
    held_fits = fits law sizes differ page size one index j entries held

    place_taken : (s i : ℕ) → IsTreePlace (counts_for index entries) j s i
        → times_in (pages_by_descent index) (page s i) ≡ 1
    unfolding numbers_for
    place_taken s i place =
        let found = page_at_place (counts_for index entries) size j held_fits s i place in
        let inside = found.inside in
        let within = found.within in
        let same = length_is law sizes differ page size one index j entries held in
        let width = width_is law sizes differ page size one index j entries held found.l (omega arith) in
        let levels = levels_for index page j entries in
        let descended = page_descended index (numbers_for index page j entries) levels held_tree have found.l found.k
        (omega arith) (omega arith) in
        let once = (whole index (numbers_for index page j entries) levels held_tree).whole.once (page s i) in
        let number : page (segment_for (counts_for index entries) j found.l)
        (place_for (counts_for index entries) found.l found.k) ≡ page s i =
        ap (λ s. page s (place_for (counts_for index entries) found.l found.k)) found.segment
        ∙ ap (page s) found.place in
        let comes : 1 ≤ times_in (pages_by_descent index) (page s i) =
        subst (λ n. 1 ≤ times_in (pages_by_descent index) n) number descended in
        omega arith

    place_only : (n : ℕ) → 1 ≤ times_in (pages_by_descent index) n
        → (s : ℕ) × (i : ℕ) × IsTreePlace (counts_for index entries) j s i × (n ≡ page s i)
    unfolding numbers_for
    place_only n comes =
        let levels = levels_for index page j entries in
        let found = descent_page index (numbers_for index page j entries) levels held_tree have n comes in
        let counts = counts_for index entries in
        let inside = found.inside in
        let within = found.within in
        let same = length_is law sizes differ page size one index j entries held in
        let width = width_is law sizes differ page size one index j entries held found.l inside in (
          segment_for counts j found.l,
          place_for counts found.l found.k,
          tree_place counts size j held_fits found.l found.k (omega arith) (omega arith),
          found.same,
        )

pub places_law : BuiltTreesAreWhole → LevelsHaveThePages → DivisionGivesLevels → CountsNeedNoNumbers
    → NumbersAreDifferent → TreesTakePlaces
places_law whole have law sizes differ index page size j entries one held = record {
  taken = place_taken whole have law sizes differ index page size j entries one held;
  only = place_only whole have law sizes differ index page size j entries one held;
}
