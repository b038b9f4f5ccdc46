-- The inode page of a built tablespace, and its segments.
use Rattle.std.proofs.Common.{◌≡◌, ℕ, ◌+◌, ◌%◌, ◌<◌, not, Bool, true, false, List, [], ◌∷◌, ◌++◌}
use Rattle.std.proofs.Common.{length, map, flat_map, slice_get, All, Contains, Some, append-nil}
use Rattle.std.proofs.Common.{refl, sym, ap, ◌∙◌, subst, arith}
use Rattle.std.specs.List.{range_with_len}
use Rattle.std.proofs.lemmas.Bool.{ne_eqb}
use Rattle.std.proofs.lemmas.List.FromFn.{length-range_with_len, length-map-range_with_len}
use Rattle.page_source.specs.Pages.{page_of, num}
use Rattle.page_source.specs.Lists.{AreDistinct}
use Rattle.page_source.proofs.Members.{contains_none, distinct_none, range_distinct}
use Rattle.space_header.specs.declared.address.Address.{Address}
use Rattle.space_header.specs.declared.address.Base.{Base}
use Rattle.space_header.specs.declared.address.Node.{Node}
use Rattle.space_header.specs.declared.header.SpaceHeader.{SpaceHeader}
use Rattle.space_header.specs.Header.{head_of}
use Rattle.space_header.specs.Linked.{Linked}
use Rattle.inode_segments.specs.declared.inode.Inode.{Inode}
use Rattle.inode_segments.specs.Inodes.{inode_of, inode_at, inode_byte, is_used_place, used_places, stepped_pages}
use Rattle.inode_segments.specs.Inodes.{list_pages}
use Rattle.inode_segments.specs.Inodes.{full_pages, free_pages, inode_pages, inodes_on, segments, segment_id, page_node}
use Rattle.inode_segments.specs.Inodes.{page_address, segment_count}
use Rattle.inode_segments.specs.InodeChecks.{inode_magic, IsFilled, IsInodePage, AreInodes}
use Rattle.space_layout.specs.Numbers.{size_at, own_of, IsShape}
use Rattle.space_layout.specs.declared.runs.Run.{Run}
use Rattle.space_layout.specs.Runs.{no_run, base_of}
use Rattle.space_layout.specs.Fields.{header, inode, inode_place, lone_node, open_of, full_of, slot_of}
use Rattle.space_layout.proofs.Known.{KnownHeads}
use Rattle.space_layout.proofs.RunLists.{filter_run}
use Rattle.space_layout.proofs.Ranges.{all_from_range, map_next, get_from_range}

-- the bases of the lists of inode pages
full_base : (file sizes : List ℕ) (flags : ℕ) → KnownHeads file sizes flags → (head_of file).inodes_full
    ≡ base_of no_run
unfolding header
full_base file sizes flags h = ap (λ (x : SpaceHeader). x.inodes_full) h.held.has_header

abbrev lone_base : Base
lone_base = record { length = 1; first = page_address 2; last = page_address 2 }

free_base : (file sizes : List ℕ) (flags : ℕ) → KnownHeads file sizes flags → (head_of file).inodes_free ≡ lone_base
unfolding header
free_base file sizes flags h = ap (λ (x : SpaceHeader). x.inodes_free) h.held.has_header

next_id : (file sizes : List ℕ) (flags : ℕ) → KnownHeads file sizes flags → (head_of file).next_segment
    ≡ length sizes + 1
unfolding header
next_id file sizes flags h = ap (λ (x : SpaceHeader). x.next_segment) h.held.has_header

-- no page is on the first list, page 2 on the second
pub full_none : (file sizes : List ℕ) (flags : ℕ) → KnownHeads file sizes flags → full_pages file ≡ []
unfolding stepped_pages base_of
full_none file sizes flags h = ap (λ (b : Base). list_pages file b) (full_base file sizes flags h)

pub free_one : (file sizes : List ℕ) (flags : ℕ) → KnownHeads file sizes flags → free_pages file ≡ 2 ∷ []
unfolding stepped_pages
free_one file sizes flags h = ap (λ (b : Base). list_pages file b) (free_base file sizes flags h)

pub inode_page_two : (file sizes : List ℕ) (flags : ℕ) → KnownHeads file sizes flags → inode_pages file ≡ 2 ∷ []
inode_page_two file sizes flags h =
    ap (λ (xs : List ℕ). xs ++ free_pages file) (full_none file sizes flags h) ∙ free_one file sizes flags h

-- the fields of the inode of a segment
pub segment_is : (file sizes : List ℕ) (flags : ℕ) → KnownHeads file sizes flags → (s : ℕ) → s < length sizes
    → segment_id file (inode_place s) ≡ s + 1
unfolding inode
segment_is file sizes flags h s l = ap (λ (x : Inode). x.id) (h.held.has_inodes s l)

pub inode_used : (file sizes : List ℕ) (flags : ℕ) → KnownHeads file sizes flags → (s : ℕ) → s < length sizes
    → (inode_of file (inode_place s)).not_full_used ≡ own_of (size_at sizes s) % 64
unfolding inode
inode_used file sizes flags h s l = ap (λ (x : Inode). x.not_full_used) (h.held.has_inodes s l)

pub inode_free : (file sizes : List ℕ) (flags : ℕ) → KnownHeads file sizes flags → (s : ℕ) → s < length sizes
    → (inode_of file (inode_place s)).free ≡ base_of no_run
unfolding inode
inode_free file sizes flags h s l = ap (λ (x : Inode). x.free) (h.held.has_inodes s l)

pub inode_not_full : (file sizes : List ℕ) (flags : ℕ) → KnownHeads file sizes flags → (s : ℕ) → s < length sizes
    → (inode_of file (inode_place s)).not_full ≡ base_of (open_of sizes s)
unfolding inode
inode_not_full file sizes flags h s l = ap (λ (x : Inode). x.not_full) (h.held.has_inodes s l)

pub inode_full : (file sizes : List ℕ) (flags : ℕ) → KnownHeads file sizes flags → (s : ℕ) → s < length sizes
    → (inode_of file (inode_place s)).full ≡ base_of (full_of sizes s)
unfolding inode
inode_full file sizes flags h s l = ap (λ (x : Inode). x.full) (h.held.has_inodes s l)

inode_magic_is : (file sizes : List ℕ) (flags : ℕ) → KnownHeads file sizes flags → (s : ℕ) → s < length sizes
    → (inode_of file (inode_place s)).magic ≡ inode_magic
unfolding inode
inode_magic_is file sizes flags h s l = ap (λ (x : Inode). x.magic) (h.held.has_inodes s l)

pub inode_slots : (file sizes : List ℕ) (flags : ℕ) → KnownHeads file sizes flags → (s : ℕ) → s < length sizes
    → (inode_of file (inode_place s)).slots ≡ map (slot_of sizes s) (range_with_len 0 32)
unfolding inode
inode_slots file sizes flags h s l = ap (λ (x : Inode). x.slots) (h.held.has_inodes s l)

-- the used inodes of the page are the first ones
place_used : (file sizes : List ℕ) (flags : ℕ) → KnownHeads file sizes flags → (s : ℕ) → s < length sizes
    → is_used_place (page_of file 2) s ≡ true
unfolding inode_at
place_used file sizes flags h s l =
    let id = segment_is file sizes flags h s l in
    ap not (ne_eqb (num (page_of file 2) (inode_byte s) 8) 0 (λ none. absurd (omega arith)))

pub places_are : (file sizes : List ℕ) (flags : ℕ) → IsShape sizes → KnownHeads file sizes flags
    → used_places (page_of file 2) ≡ range_with_len 0 (length sizes)
unfolding used_places
places_are file sizes flags shape h =
    let few = shape.few in
    let run : Run = record { first = 0; count = length sizes } in
    filter_run (is_used_place (page_of file 2)) 0 85 run (record {
      low = omega arith;
      high = omega arith;
      before = λ n l m. absurd (omega arith);
      within = λ n l m. place_used file sizes flags h n (omega arith);
      behind = λ n l m. h.held.unused n (omega arith) (omega arith);
    })

-- the segments in their order
pub segments_are : (file sizes : List ℕ) (flags : ℕ) → IsShape sizes → KnownHeads file sizes flags
    → segments file ≡ map inode_place (range_with_len 0 (length sizes))
unfolding segments
segments_are file sizes flags shape h =
    ap (flat_map (inodes_on file)) (inode_page_two file sizes flags h)
    ∙ append-nil (inodes_on file 2)
    ∙ ap (map inode_place) (places_are file sizes flags shape h)

pub segments_count : (file sizes : List ℕ) (flags : ℕ) → IsShape sizes → KnownHeads file sizes flags
    → segment_count file ≡ length sizes
segments_count file sizes flags shape h =
    ap (λ (xs : List Address). length xs) (segments_are file sizes flags shape h)
    ∙ length-map-range_with_len inode_place 0 (length sizes)

pub segment_there : (file sizes : List ℕ) (flags : ℕ) → IsShape sizes → KnownHeads file sizes flags → (s : ℕ)
    → s < length sizes → slice_get (segments file) s ≡ Some (inode_place s)
segment_there file sizes flags shape h s l =
    ap (λ (xs : List Address). slice_get xs s) (segments_are file sizes flags shape h)
    ∙ get_from_range inode_place 0 (length sizes) s l ∙ ap (λ (k : ℕ). Some (inode_place k)) (omega arith)

-- what is so of each segment's inode
pub each_segment : (file sizes : List ℕ) (flags : ℕ) → IsShape sizes → KnownHeads file sizes flags
    → (P : Address → Type 0) → ((s : ℕ) → s < length sizes → P (inode_place s)) → All P (segments file)
each_segment file sizes flags shape h P each =
    subst (λ (xs : List Address). All P xs) (sym (segments_are file sizes flags shape h))
    (all_from_range P inode_place 0 (length sizes) (λ s low high. each s (omega arith)))

pub ids_are : (file sizes : List ℕ) (flags : ℕ) → IsShape sizes → KnownHeads file sizes flags
    → map (segment_id file) (segments file) ≡ range_with_len 1 (length sizes)
ids_are file sizes flags shape h =
    ap (map (segment_id file)) (segments_are file sizes flags shape h)
    ∙ map_next inode_place (segment_id file) 0 (length sizes)
    (λ s low high. segment_is file sizes flags h s (omega arith))

pub ids_distinct : (file sizes : List ℕ) (flags : ℕ) → IsShape sizes → KnownHeads file sizes flags
    → AreDistinct (map (segment_id file) (segments file))
ids_distinct file sizes flags shape h =
    subst AreDistinct (sym (ids_are file sizes flags shape h)) (range_distinct 1 (length sizes))

-- the lists of inode pages
none_linked : (base : Base) (node : ℕ → Node) (M : ℕ → Type 0) (pages : List ℕ) → base ≡ base_of no_run → pages ≡ []
    → Linked base node page_address M pages
unfolding base_of
none_linked base node M pages e f =
    rw (e, f) (record {
      count = refl;
      distinct = distinct_none;
      members = λ k d l. absurd (omega arith);
      leads = (refl, refl);
    })

lone_linked : (base : Base) (node : ℕ → Node) (M : ℕ → Type 0) (pages : List ℕ) → base ≡ lone_base → pages ≡ 2 ∷ []
    → node 2 ≡ lone_node → M 2 → Linked base node page_address M pages
lone_linked base node M pages e f n m =
    rw (e, f) (record {
      count = refl;
      distinct = range_distinct 2 1;
      members = all_from_range M (λ k. k) 2 1 (λ s low high. let two : 2 ≡ s = omega arith in subst M two m);
      leads = (refl, rw n refl, (rw n refl, refl));
    })

pub are_inodes : (file sizes : List ℕ) (flags : ℕ) (is_fragment : ℕ → Bool) → IsShape sizes
    → KnownHeads file sizes flags
    → IsInodePage file is_fragment 2 → AreInodes file is_fragment
are_inodes file sizes flags is_fragment shape h page =
    let none = full_none file sizes flags h in
    let one = free_one file sizes flags h in
    let next = next_id file sizes flags h in
    let few = shape.few in
    record {
      full = none_linked (head_of file).inodes_full (page_node file) (IsInodePage file is_fragment) (full_pages file)
          (full_base file sizes flags h) none;
      free = lone_linked (head_of file).inodes_free (page_node file) (IsInodePage file is_fragment) (free_pages file)
          (free_base file sizes flags h) one h.held.node page;
      apart = λ n c. absurd (contains_none n (subst (λ (xs : List ℕ). Contains xs n) none c));
      filled = subst (λ (xs : List ℕ). All (λ n. IsFilled true (length (used_places (page_of file n)))) xs) (sym none)
          (λ k d l. absurd (omega arith));
      has_unused = subst (λ (xs : List ℕ). All (λ n. IsFilled false (length (used_places (page_of file n)))) xs)
          (sym one)
          (all_from_range (λ n. IsFilled false (length (used_places (page_of file n)))) (λ k. k) 2 1
          (λ s low high. let two : 2 ≡ s = omega arith in
          let places = ap (λ (xs : List ℕ). length xs) (places_are file sizes flags shape h) in
          let count = length-range_with_len 0 (length sizes) in
          subst (λ n. IsFilled false (length (used_places (page_of file n)))) two (omega arith)));
      magic = each_segment file sizes flags shape h (λ place. (inode_of file place).magic ≡ inode_magic)
          (inode_magic_is file sizes flags h);
      ids = each_segment file sizes flags shape h (λ place. segment_id file place < (head_of file).next_segment)
          (λ s l. let id = segment_is file sizes flags h s l in omega arith);
      distinct = ids_distinct file sizes flags shape h;
    }
