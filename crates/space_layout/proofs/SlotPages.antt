-- The slots of the segments of a built tablespace: each used page of a fragment extent but for the first three is in
-- one of them.
use Rattle.std.proofs.Common.{◌≡◌, ℕ, ◌+◌, ◌*◌, ◌/◌, ◌%◌, ◌<◌, ◌≤◌, ◌==◌, ◌&&◌, ◌||◌, nat_lt, not}
use Rattle.std.proofs.Common.{true, List, ◌++◌, length, map, filter, flat_map, All, Contains, inl}
use Rattle.std.proofs.Common.{inr, refl, sym, ap, ◌∙◌, subst, arith}
use Rattle.std.specs.List.{range_with_len}
use Rattle.std.proofs.lemmas.Bool.{cases_lt, ne_eqb, lt-ltb, le-ltb, ltb-true, false≢true, and_from}
use Rattle.std.proofs.lemmas.List.Elements.{Contains-append_left, Contains-append_right}
use Rattle.page_source.specs.Pages.{fil_null}
use Rattle.page_source.specs.Lists.{AreDistinct, times_in}
use Rattle.page_source.proofs.Members.{range_has, range_only, range_distinct}
use Rattle.page_source.proofs.Members.{contains_flat_map, flat_map_contains}
use Rattle.page_source.proofs.Times.{times_once}
use Rattle.space_header.specs.Header.{limit_of}
use Rattle.extent_map.specs.Extents.{extent_state, is_used, is_fragment_extent, is_system_page}
use Rattle.extent_map.specs.Extents.{is_fragment_page}
use Rattle.extent_map.proofs.Used.{used_below}
use Rattle.inode_segments.specs.Inodes.{inode_of, inode_pages, segments, slot_pages}
use Rattle.space_audit.specs.Owners.{system_pages}
use Rattle.space_audit.specs.Audit.{IsFragmentUse, IsSlot, IsUsedFragment, fragment_claims}
use Rattle.space_layout.specs.Numbers.{fragments_of, used_fragments, fragment_extents}
use Rattle.space_layout.specs.Numbers.{segment_page, size_at, IsShape}
use Rattle.space_layout.specs.declared.runs.Run.{Run}
use Rattle.space_layout.specs.Fields.{slot_of, inode_place}
use Rattle.space_layout.proofs.Known.{KnownHeads}
use Rattle.space_layout.proofs.PageNumbers.{fragment_place, fragment_high, page_fragment, page_one, page_own}
use Rattle.space_layout.proofs.PageNumbers.{page_low}
use Rattle.space_layout.proofs.RunLists.{filter_run}
use Rattle.space_layout.proofs.Ranges.{from_range, in_range, all_from_range, distinct_images, distinct_pieces}
use Rattle.space_layout.proofs.Ranges.{distinct_append, filter_images, pieces_same, map_same}
use Rattle.space_layout.proofs.Given.{given_state}
use Rattle.space_layout.proofs.Spaces.{head_size, head_limit, fragment_given}
use Rattle.space_layout.proofs.Inodes.{inode_slots, segments_are, each_segment, inode_page_two}
use Rattle.space_layout.proofs.HomeLists.{state_of_own}

-- the pages below the number of used fragment pages are used ones of fragment extents
fragment_test : (file sizes : List ℕ) (flags : ℕ) → KnownHeads file sizes flags → (e : ℕ) → e < fragment_extents sizes
    → is_fragment_extent file e ≡ true
fragment_test file sizes flags h e l =
    let f = fragment_given file sizes flags h e l in
    let s = given_state file e 0 f.state f.is.run f.is.count f.is.given in
    elim f.kind [ inl two ↦ rw (s ∙ two) refl | inr three ↦ rw (s ∙ three) refl ]

pub fragment_use : (file sizes : List ℕ) (flags : ℕ) → KnownHeads file sizes flags → (n : ℕ) → n < used_fragments sizes
    → IsFragmentUse file n
fragment_use file sizes flags h n l =
    let size = head_size file sizes flags h in
    let f = fragment_given file sizes flags h (n / 64) (omega arith) in
    let split : 64 * (n / 64) + n % 64 ≡ n = omega arith in
    record {
      below = omega arith;
      used = ap (is_used file) (sym split) ∙ f.used (n % 64) (omega arith)
          ∙ lt-ltb (64 * (n / 64) + n % 64) (used_fragments sizes) (omega arith);
      fragment = fragment_test file sizes flags h (n / 64) (omega arith);
    }

-- an extent of a segment is no fragment extent
not_fragment : (file : List ℕ) (e : ℕ) → extent_state file e ≡ 4 → is_fragment_extent file e ≡ true → ⊥
not_fragment file e own fragment = false≢true (subst (λ (k : ℕ). ((k == 2) || (k == 3)) ≡ true) own fragment)

-- and only they
pub used_fragment : (file sizes : List ℕ) (flags : ℕ) → KnownHeads file sizes flags → (n : ℕ) → IsUsedFragment file n
    → n < used_fragments sizes
used_fragment file sizes flags h n u =
    let limit = head_limit file sizes flags h in
    let below = used_below file n u.0 in
    elim (cases_lt (n / 64) (fragment_extents sizes)) [
      | inl l ↦
          let f = fragment_given file sizes flags h (n / 64) l in
          let split : 64 * (n / 64) + n % 64 ≡ n = omega arith in
          let test : nat_lt n (used_fragments sizes) ≡ true =
          ap (λ (k : ℕ). nat_lt k (used_fragments sizes)) (sym split)
          ∙ sym (f.used (n % 64) (omega arith)) ∙ ap (is_used file) split ∙ u.0 in
          ltb-true n (used_fragments sizes) test
      | inr l ↦ absurd (not_fragment file (n / 64) (state_of_own file sizes flags h (n / 64) l (omega arith)) u.1)
    ]

-- the pages in the slots of a segment
abbrev pub slot_numbers : List ℕ → ℕ → List ℕ
slot_numbers sizes s = map (segment_page sizes s) (range_with_len 0 (fragments_of (size_at sizes s)))

slot_some : (sizes : List ℕ) → IsShape sizes → (s i : ℕ) → s < length sizes → i < fragments_of (size_at sizes s)
    → slot_of sizes s i ≡ segment_page sizes s i
slot_some sizes shape s i sn l = rw (lt-ltb i (size_at sizes s) (omega arith)) refl

slot_small : (sizes : List ℕ) → IsShape sizes → (s i : ℕ) → s < length sizes → i < fragments_of (size_at sizes s)
    → segment_page sizes s i < used_fragments sizes
slot_small sizes shape s i sn l =
    rw (page_fragment sizes s i (omega arith)) (fragment_high sizes shape s i sn l)

-- so many fragment pages are below the greatest page number
used_small : (sizes : List ℕ) → IsShape sizes → used_fragments sizes ≤ 16384
used_small sizes shape = let fits = shape.fits in omega arith

pub slots_are : (file sizes : List ℕ) (flags : ℕ) → IsShape sizes → KnownHeads file sizes flags → (s : ℕ)
    → s < length sizes → slot_pages file (inode_place s) ≡ slot_numbers sizes s
unfolding slot_pages
slots_are file sizes flags shape h s sn =
    let p = λ (slot : ℕ). not (slot == fil_null) in
    let count = fragments_of (size_at sizes s) in
    let run : Run = record { first = 0; count = count } in
    let small = used_small sizes shape in
    ap (λ (xs : List ℕ). filter p xs) (inode_slots file sizes flags h s sn)
    ∙ filter_images p (slot_of sizes s) (range_with_len 0 32)
    ∙ ap (map (slot_of sizes s)) (filter_run (λ i. p (slot_of sizes s i)) 0 32 run (record {
      low = omega arith;
      high = omega arith;
      before = λ i l m. absurd (omega arith);
      within = λ i l m.
          let there = slot_small sizes shape s i sn (omega arith) in
          ap p (slot_some sizes shape s i sn (omega arith))
          ∙ ap not (ne_eqb (segment_page sizes s i) fil_null (λ q. absurd (omega arith)));
      behind = λ i l m.
          let none : slot_of sizes s i ≡ fil_null = rw (le-ltb i (size_at sizes s) (omega arith)) refl in
          ap p none;
    }))
    ∙ map_same (slot_of sizes s) (segment_page sizes s) 0 count (λ i l m. slot_some sizes shape s i sn (omega arith))

-- each slot is empty, or has such a page
slot_is : (file sizes : List ℕ) (flags : ℕ) → IsShape sizes → KnownHeads file sizes flags → (s i : ℕ) → s < length sizes
    → i < 32 → IsSlot file (slot_of sizes s i)
slot_is file sizes flags shape h s i sn small some = elim (cases_lt i (size_at sizes s)) [
  | inl l ↦
      let is = slot_some sizes shape s i sn (omega arith) in
      subst (λ (n : ℕ). IsFragmentUse file n) (sym is)
      (fragment_use file sizes flags h (segment_page sizes s i) (slot_small sizes shape s i sn (omega arith)))
  | inr l ↦ absurd (some (rw (le-ltb i (size_at sizes s) l) refl))
]

pub each_slot : (file sizes : List ℕ) (flags : ℕ) → IsShape sizes → KnownHeads file sizes flags
    → All (λ place. All (IsSlot file) (inode_of file place).slots) (segments file)
each_slot file sizes flags shape h =
    each_segment file sizes flags shape h (λ place. All (IsSlot file) (inode_of file place).slots)
    (λ s sn. subst (λ (xs : List ℕ). All (IsSlot file) xs) (sym (inode_slots file sizes flags h s sn))
    (all_from_range (IsSlot file) (slot_of sizes s) 0 32 (λ i low high. slot_is file sizes flags shape h s i sn
    (omega arith))))

-- all of them
abbrev pub all_slots : List ℕ → List ℕ
all_slots sizes = flat_map (slot_numbers sizes) (range_with_len 0 (length sizes))

slots_distinct : (sizes : List ℕ) → IsShape sizes → AreDistinct (all_slots sizes)
slots_distinct sizes shape =
    distinct_pieces (slot_numbers sizes) 0 (length sizes)
    (λ s low high. distinct_images (segment_page sizes s) 0 (fragments_of (size_at sizes s))
    (λ i j l m o p e. (page_one sizes shape s s i j (omega arith) (omega arith) (omega arith) (omega arith) e).1))
    (λ s t x l m o p c d.
    let a = from_range (segment_page sizes s) 0 (fragments_of (size_at sizes s)) x c in
    let b = from_range (segment_page sizes t) 0 (fragments_of (size_at sizes t)) x d in
    let i = a.high in let j = b.high in
    (page_one sizes shape s t a.at b.at (omega arith) (omega arith) (omega arith) (omega arith)
    (a.there ∙ sym b.there)).0)

slots_low : (sizes : List ℕ) (x : ℕ) → Contains (all_slots sizes) x → 3 ≤ x
slots_low sizes x c =
    let p = contains_flat_map (slot_numbers sizes) (range_with_len 0 (length sizes)) x c in
    let a = from_range (segment_page sizes p.piece) 0 (fragments_of (size_at sizes p.piece)) x p.member in
    let high = a.high in
    subst (λ (n : ℕ). 3 ≤ n) a.there (page_low sizes p.piece a.at (omega arith))

slots_has : (sizes : List ℕ) → IsShape sizes → (x : ℕ) → 3 ≤ x → x < used_fragments sizes → Contains (all_slots sizes) x
slots_has sizes shape x low high =
    let r = fragment_place sizes shape x low high in
    let below = r.is.below in
    let inside = r.is.inside in
    let there = r.is.there in
    let few : r.at < 32 = elim (cases_lt r.at 32) [
      | inl l ↦ l
      | inr l ↦ absurd (let e = page_own sizes r.segment r.at l in omega arith)
    ] in
    flat_map_contains (slot_numbers sizes) (range_with_len 0 (length sizes)) r.segment x
    (range_has 0 (length sizes) r.segment (omega arith) (omega arith))
    (subst (λ (n : ℕ). Contains (slot_numbers sizes r.segment) n) there
    (in_range (segment_page sizes r.segment) 0 (fragments_of (size_at sizes r.segment)) r.at (omega arith)
    (omega arith)))

-- the claims on pages of fragment extents
system_two : (file sizes : List ℕ) (flags : ℕ) → IsShape sizes → KnownHeads file sizes flags
    → system_pages file ≡ range_with_len 0 2
unfolding system_pages
system_two file sizes flags shape h =
    let limit = head_limit file sizes flags h in
    let fits = shape.fits in
    let run : Run = record { first = 0; count = 2 } in
    filter_run is_system_page 0 (limit_of file) run (record {
      low = omega arith;
      high = omega arith;
      before = λ n l m. absurd (omega arith);
      within = λ n l m. lt-ltb (n % 16384) 2 (omega arith);
      behind = λ n l m. le-ltb (n % 16384) 2 (omega arith);
    })

claims_are : (file sizes : List ℕ) (flags : ℕ) → IsShape sizes → KnownHeads file sizes flags
    → fragment_claims file ≡ range_with_len 0 3 ++ all_slots sizes
unfolding fragment_claims
claims_are file sizes flags shape h =
    ap (λ (xs : List ℕ). xs ++ inode_pages file ++ flat_map (slot_pages file) (segments file))
    (system_two file sizes flags shape h)
    ∙ ap (λ (xs : List ℕ). range_with_len 0 2 ++ xs ++ flat_map (slot_pages file) (segments file))
    (inode_page_two file sizes flags h)
    ∙ ap (λ (xs : List ℕ). range_with_len 0 3 ++ xs)
    (ap (flat_map (slot_pages file)) (segments_are file sizes flags shape h)
    ∙ pieces_same (slot_pages file) inode_place (slot_numbers sizes) 0 (length sizes)
    (λ s low high. slots_are file sizes flags shape h s (omega arith)))

-- each used page of a fragment extent is claimed once
pub fragment_once : (file sizes : List ℕ) (flags : ℕ) → IsShape sizes → KnownHeads file sizes flags → (n : ℕ)
    → IsUsedFragment file n → times_in (fragment_claims file) n ≡ 1
fragment_once file sizes flags shape h n u =
    let high = used_fragment file sizes flags h n u in
    let all = range_with_len 0 3 ++ all_slots sizes in
    ap (λ (xs : List ℕ). times_in xs n) (claims_are file sizes flags shape h)
    ∙ times_once all n
    (distinct_append (range_with_len 0 3) (all_slots sizes) (range_distinct 0 3) (slots_distinct sizes shape)
    (λ x c d. let a = (range_only 0 3 x c).1 in let b = slots_low sizes x d in absurd (omega arith)))
    (elim (cases_lt n 3) [
      | inl l ↦ Contains-append_left (range_with_len 0 3) (all_slots sizes) n
          (range_has 0 3 n (omega arith) (omega arith))
      | inr l ↦ Contains-append_right (range_with_len 0 3) (all_slots sizes) n (slots_has sizes shape n l high)
    ])

-- page 2 is a fragment page, and no system page
pub two_is_fragment : (file sizes : List ℕ) (flags : ℕ) → KnownHeads file sizes flags
    → is_fragment_page file 2 ≡ true
two_is_fragment file sizes flags h =
    let u = fragment_use file sizes flags h 2 (omega arith) in
    and_from (is_used file 2 && is_fragment_extent file (2 / 64)) (not (is_system_page 2))
    (and_from (is_used file 2) (is_fragment_extent file (2 / 64)) u.used u.fragment) refl
