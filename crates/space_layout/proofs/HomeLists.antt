-- Each extent of a built tablespace stands on its list, and the counts of used pages are right.
use Rattle.std.proofs.Common.{◌≡◌, ◌⊎◌, ℕ, ◌+◌, ◌-◌, ◌/◌, ◌%◌, ◌<◌, ◌≤◌, ◌==◌, ◌&&◌, nat_lt, true}
use Rattle.std.proofs.Common.{false, List, [], length, filter, sum_by, Contains, inl, inr}
use Rattle.std.proofs.Common.{sym, ap, ◌∙◌, subst, arith}
use Rattle.std.specs.List.{range_with_len}
use Rattle.std.proofs.lemmas.Bool.{cases_lt, eq-eqb, ne_eqb, lt-ltb, le-ltb, and_from, and_left, and_right}
use Rattle.std.proofs.lemmas.List.FromFn.{length-map-range_with_len, get_or-map-range_with_len}
use Rattle.page_source.specs.Lists.{HaveSameMembers}
use Rattle.page_source.proofs.Members.{range_has}
use Rattle.space_header.specs.declared.address.Base.{Base}
use Rattle.space_header.specs.declared.address.Node.{Node}
use Rattle.space_header.specs.declared.header.SpaceHeader.{SpaceHeader}
use Rattle.space_header.specs.Header.{head_of, extent_address}
use Rattle.space_header.specs.Linked.{node_in, Linked}
use Rattle.extent_map.specs.Extents.{extent_of, extent_count, extent_state, extent_node, extent_nodes, used_count}
use Rattle.space_audit.specs.Lists.{extents_in_state, is_extent_of, segment_extents, free_extents, not_full_extents}
use Rattle.space_audit.specs.Lists.{full_extents, HomeList, free_list, free_frag_list, full_frag_list}
use Rattle.space_audit.specs.Lists.{segment_free_list}
use Rattle.space_audit.specs.Lists.{segment_not_full_list, segment_full_list, HasHome, HoldsHome, HoldThree}
use Rattle.space_audit.specs.Audit.{HasFragmentCount, HasNotFullCount}
use Rattle.space_layout.specs.Numbers.{own_of, used_fragments, fragment_extents, extent_start}
use Rattle.space_layout.specs.Numbers.{extents_needed, size_at, IsShape}
use Rattle.space_layout.specs.declared.runs.Run.{Run}
use Rattle.space_layout.specs.Runs.{members_of, no_run, base_of, node_of}
use Rattle.space_layout.specs.Fields.{full_fragments, open_fragments, full_of, open_of, header, inode_place}
use Rattle.space_layout.proofs.Known.{KnownHeads}
use Rattle.space_layout.proofs.PageNumbers.{extent_counts, extents_none, own_end}
use Rattle.space_layout.proofs.RunLists.{filter_run, filter_none, run_linked}
use Rattle.space_layout.proofs.Ranges.{sum_few}
use Rattle.space_layout.proofs.Given.{Given, given_state, given_id, given_node, given_count}
use Rattle.space_layout.proofs.Spaces.{extent_total, full_fragment, open_fragment, full_own, open_own}
use Rattle.space_layout.proofs.Spaces.{fragment_given, own_given, own_extent_at}
use Rattle.space_layout.proofs.Inodes.{segment_is, inode_used, inode_free, inode_not_full, inode_full, ids_are}

-- the base of the list of a run, and the extents whose home it is
pub holds_run : (nodes : List Node) (list : HomeList) (run : Run) → list.base ≡ base_of run → list.home ≡ members_of run
    → ((e : ℕ) → run.first ≤ e → e < run.first + run.count → (e < length nodes) × (node_in nodes e ≡ node_of run e))
    → HoldsHome nodes list
holds_run nodes list run base home each = (
  members_of run,
  subst (λ (b : Base). Linked b (node_in nodes) extent_address (λ e. e < length nodes) (members_of run)) (sym base)
      (run_linked run (node_in nodes) (λ e. e < length nodes) (λ e l r. (each e l r).1) (λ e l r. (each e l r).0)),
  subst (λ (xs : List ℕ). HaveSameMembers (members_of run) xs) (sym home) (λ n. (λ c. c, λ c. c)),
)

nodes_count : (file : List ℕ) → length (extent_nodes file) ≡ extent_count file
unfolding extent_nodes
nodes_count file = length-map-range_with_len (extent_node file) 0 (extent_count file)

-- the node of an extent whose descriptor is known
node_given : (file : List ℕ) (e id state : ℕ) (run : Run) (count : ℕ) → Given file e id state run count
    → (e < length (extent_nodes file)) × (node_in (extent_nodes file) e ≡ node_of run e)
unfolding extent_nodes
node_given file e id state run count g =
    let below = g.below in (
      (let size = nodes_count file in omega arith),
      get_or-map-range_with_len (extent_node file) 0 (extent_count file) e e _ g.below (omega arith)
          ∙ given_node file e id state run count g,
    )

-- the states of extents
state_of_fragment : (file sizes : List ℕ) (flags : ℕ) → KnownHeads file sizes flags → (e : ℕ)
    → e < fragment_extents sizes → (extent_state file e ≡ 2) ⊎ (extent_state file e ≡ 3)
state_of_fragment file sizes flags h e l =
    let f = fragment_given file sizes flags h e l in
    let s = given_state file e 0 f.state f.is.run f.is.count f.is.given in
    elim f.kind [ inl two ↦ inl (s ∙ two) | inr three ↦ inr (s ∙ three) ]

pub state_of_own : (file sizes : List ℕ) (flags : ℕ) → KnownHeads file sizes flags → (e : ℕ)
    → fragment_extents sizes ≤ e
    → e < extents_needed sizes → extent_state file e ≡ 4
state_of_own file sizes flags h e low high =
    let p = own_extent_at sizes e low high in
    let o = own_given file sizes flags h p.piece p.at p.below p.inside in
    ap (extent_state file) (sym p.there)
    ∙ given_state file (extent_start sizes p.piece + p.at) (p.piece + 1) 4 o.is.run o.is.count o.is.given

-- a test for another state fails
other_state : (file : List ℕ) (e state other : ℕ) → extent_state file e ≡ state → (state ≡ other → ⊥)
    → (extent_state file e == other) ≡ false
other_state file e state other is h = rw is (ne_eqb state other h)

same_state : (file : List ℕ) (e state : ℕ) → extent_state file e ≡ state → (extent_state file e == state) ≡ true
same_state file e state is = eq-eqb (extent_state file e) state is

-- the extents in each state
none_free : (file sizes : List ℕ) (flags : ℕ) → KnownHeads file sizes flags → extents_in_state file 1 ≡ []
unfolding extents_in_state
none_free file sizes flags h =
    let all = extent_total file sizes flags h in
    filter_none (λ e. extent_state file e == 1) 0 (extent_count file)
    (λ e low high. elim (cases_lt e (fragment_extents sizes)) [
      | inl f ↦ elim (state_of_fragment file sizes flags h e f) [
        | inl two ↦ other_state file e 2 1 two (λ q. absurd (omega arith))
        | inr three ↦ other_state file e 3 1 three (λ q. absurd (omega arith))
      ]
      | inr o ↦ other_state file e 4 1 (state_of_own file sizes flags h e o (omega arith)) (λ q. absurd (omega arith))
    ])

open_are : (file sizes : List ℕ) (flags : ℕ) → KnownHeads file sizes flags
    → extents_in_state file 2 ≡ members_of (open_fragments sizes)
unfolding extents_in_state
open_are file sizes flags h =
    let all = extent_total file sizes flags h in
    filter_run (λ e. extent_state file e == 2) 0 (extent_count file) (open_fragments sizes) (record {
      low = omega arith;
      high = omega arith;
      before = λ e l m.
          other_state file e 3 2 (given_state file e 0 3 (full_fragments sizes) 64
          (full_fragment file sizes flags h e m))
          (λ q. absurd (omega arith));
      within = λ e l m.
          same_state file e 2 (given_state file e 0 2 (open_fragments sizes) (used_fragments sizes % 64)
          (open_fragment file sizes flags h e l (omega arith)));
      behind = λ e l m.
          other_state file e 4 2 (state_of_own file sizes flags h e (omega arith) (omega arith))
          (λ q. absurd (omega arith));
    })

full_are : (file sizes : List ℕ) (flags : ℕ) → KnownHeads file sizes flags
    → extents_in_state file 3 ≡ members_of (full_fragments sizes)
unfolding extents_in_state
full_are file sizes flags h =
    let all = extent_total file sizes flags h in
    filter_run (λ e. extent_state file e == 3) 0 (extent_count file) (full_fragments sizes) (record {
      low = omega arith;
      high = omega arith;
      before = λ e l m. absurd (omega arith);
      within = λ e l m.
          same_state file e 3 (given_state file e 0 3 (full_fragments sizes) 64
          (full_fragment file sizes flags h e (omega arith)));
      behind = λ e l m. elim (cases_lt e (fragment_extents sizes)) [
        | inl f ↦ other_state file e 2 3 (given_state file e 0 2 (open_fragments sizes) (used_fragments sizes % 64)
            (open_fragment file sizes flags h e (omega arith) f)) (λ q. absurd (omega arith))
        | inr o ↦ other_state file e 4 3 (state_of_own file sizes flags h e o (omega arith)) (λ q. absurd (omega arith))
      ];
    })

-- the bases of the header
free_is : (file sizes : List ℕ) (flags : ℕ) → KnownHeads file sizes flags → (head_of file).free ≡ base_of no_run
unfolding header
free_is file sizes flags h = ap (λ (x : SpaceHeader). x.free) h.held.has_header

free_frag_is : (file sizes : List ℕ) (flags : ℕ) → KnownHeads file sizes flags
    → (head_of file).free_frag ≡ base_of (open_fragments sizes)
unfolding header
free_frag_is file sizes flags h = ap (λ (x : SpaceHeader). x.free_frag) h.held.has_header

full_frag_is : (file sizes : List ℕ) (flags : ℕ) → KnownHeads file sizes flags
    → (head_of file).full_frag ≡ base_of (full_fragments sizes)
unfolding header
full_frag_is file sizes flags h = ap (λ (x : SpaceHeader). x.full_frag) h.held.has_header

frag_used_is : (file sizes : List ℕ) (flags : ℕ) → KnownHeads file sizes flags
    → (head_of file).frag_used ≡ used_fragments sizes % 64
unfolding header
frag_used_is file sizes flags h = ap (λ (x : SpaceHeader). x.frag_used) h.held.has_header

-- the three lists of the space
pub space_lists : (file sizes : List ℕ) (flags : ℕ) → KnownHeads file sizes flags
    → HoldThree (extent_nodes file) (free_list file) (free_frag_list file) (full_frag_list file)
space_lists file sizes flags h = (
  holds_run (extent_nodes file) (free_list file) no_run (free_is file sizes flags h) (none_free file sizes flags h)
      (λ e l m. absurd (omega arith)),
  holds_run (extent_nodes file) (free_frag_list file) (open_fragments sizes) (free_frag_is file sizes flags h)
      (open_are file sizes flags h)
      (λ e l m. node_given file e 0 2 (open_fragments sizes) (used_fragments sizes % 64)
      (open_fragment file sizes flags h e l (omega arith))),
  holds_run (extent_nodes file) (full_frag_list file) (full_fragments sizes) (full_frag_is file sizes flags h)
      (full_are file sizes flags h)
      (λ e l m. node_given file e 0 3 (full_fragments sizes) 64 (full_fragment file sizes flags h e (omega arith))),
)

-- FRAG_N_USED
pub fragment_count : (file sizes : List ℕ) (flags : ℕ) → KnownHeads file sizes flags → HasFragmentCount file
fragment_count file sizes flags h =
    let run = open_fragments sizes in
    frag_used_is file sizes flags h
    ∙ sym (ap (λ (xs : List ℕ). sum_by (used_count file) xs) (open_are file sizes flags h)
    ∙ sum_few (used_count file) run.first run.count (used_fragments sizes % 64) (omega arith) (λ q. omega arith)
    (λ q. given_count file run.first 0 2 run (used_fragments sizes % 64)
    (open_fragment file sizes flags h run.first (omega arith) (omega arith))))

-- whether an extent is one of a segment
own_id : (file sizes : List ℕ) (flags : ℕ) → KnownHeads file sizes flags → (s k : ℕ) → s < length sizes
    → k < extent_counts sizes s
    → (extent_state file (extent_start sizes s + k) ≡ 4) × ((extent_of file (extent_start sizes s + k)).id ≡ s + 1)
own_id file sizes flags h s k sn l =
    let o = own_given file sizes flags h s k sn l in (
      given_state file (extent_start sizes s + k) (s + 1) 4 o.is.run o.is.count o.is.given,
      given_id file (extent_start sizes s + k) (s + 1) 4 o.is.run o.is.count o.is.given,
    )

is_own : (file sizes : List ℕ) (flags : ℕ) → KnownHeads file sizes flags → (s e : ℕ) → s < length sizes
    → extent_start sizes s ≤ e → e < extent_start sizes s + extent_counts sizes s → is_extent_of file (s + 1) e ≡ true
is_own file sizes flags h s e sn low high =
    let there : extent_start sizes s + (e - extent_start sizes s) ≡ e = omega arith in
    let r = own_id file sizes flags h s (e - extent_start sizes s) sn (omega arith) in
    let state : extent_state file e ≡ 4 = ap (extent_state file) (sym there) ∙ r.0 in
    let id : (extent_of file e).id ≡ s + 1 = ap (λ (x : ℕ). (extent_of file x).id) (sym there) ∙ r.1 in
    and_from (extent_state file e == 4) ((s + 1) == (extent_of file e).id) (same_state file e 4 state)
    (eq-eqb (s + 1) (extent_of file e).id (sym id))

not_own : (file sizes : List ℕ) (flags : ℕ) → KnownHeads file sizes flags → (s e : ℕ) → s < length sizes
    → e < extents_needed sizes → (extent_start sizes s ≤ e → e < extent_start sizes s + extent_counts sizes s → ⊥)
    → is_extent_of file (s + 1) e ≡ false
not_own file sizes flags h s e sn below out = elim (cases_lt e (fragment_extents sizes)) [
  | inl f ↦ and_left (extent_state file e == 4) ((s + 1) == (extent_of file e).id)
      (elim (state_of_fragment file sizes flags h e f) [
        | inl two ↦ other_state file e 2 4 two (λ q. absurd (omega arith))
        | inr three ↦ other_state file e 3 4 three (λ q. absurd (omega arith))
      ])
  | inr o ↦
      let p = own_extent_at sizes e o below in
      let r = own_id file sizes flags h p.piece p.at p.below p.inside in
      let id : (extent_of file e).id ≡ p.piece + 1 = ap (λ (x : ℕ). (extent_of file x).id) (sym p.there) ∙ r.1 in
      and_right (extent_state file e == 4) ((s + 1) == (extent_of file e).id)
      (ne_eqb (s + 1) (extent_of file e).id (λ same.
      let here : p.piece ≡ s = omega arith in
      let start : extent_start sizes p.piece ≡ extent_start sizes s = ap (extent_start sizes) here in
      let count : extent_counts sizes p.piece ≡ extent_counts sizes s = ap (extent_counts sizes) here in
      let there = p.there in let inside = p.inside in
      out (omega arith) (omega arith)))
]

-- the extents of a segment
pub own_are : (file sizes : List ℕ) (flags : ℕ) → KnownHeads file sizes flags → (s : ℕ) → s < length sizes
    → segment_extents file (inode_place s) ≡ range_with_len (extent_start sizes s) (extent_counts sizes s)
unfolding segment_extents
own_are file sizes flags h s sn =
    let all = extent_total file sizes flags h in
    let none = extents_none sizes in
    let end = own_end sizes s sn in
    let run : Run = record { first = extent_start sizes s; count = extent_counts sizes s } in
    ap (λ (id : ℕ). filter (is_extent_of file id) (range_with_len 0 (extent_count file)))
    (segment_is file sizes flags h s sn)
    ∙ filter_run (is_extent_of file (s + 1)) 0 (extent_count file) run (record {
      low = omega arith;
      high = omega arith;
      before = λ e l m. not_own file sizes flags h s e sn (omega arith) (λ low high. absurd (omega arith));
      within = λ e l m. is_own file sizes flags h s e sn l m;
      behind = λ e l m. not_own file sizes flags h s e sn (omega arith) (λ low high. absurd (omega arith));
    })

-- how many pages of each are used
full_count : (file sizes : List ℕ) (flags : ℕ) → KnownHeads file sizes flags → (s e : ℕ) → s < length sizes
    → extent_start sizes s ≤ e → e < extent_start sizes s + own_of (size_at sizes s) / 64
    → Given file e (s + 1) 4 (full_of sizes s) 64
full_count file sizes flags h s e sn low high =
    let there : extent_start sizes s + (e - extent_start sizes s) ≡ e = omega arith in
    subst (λ (x : ℕ). Given file x (s + 1) 4 (full_of sizes s) 64) there
    (full_own file sizes flags h s (e - extent_start sizes s) sn (omega arith))

open_count : (file sizes : List ℕ) (flags : ℕ) → KnownHeads file sizes flags → (s e : ℕ) → s < length sizes
    → extent_start sizes s + own_of (size_at sizes s) / 64 ≤ e → e < extent_start sizes s + extent_counts sizes s
    → Given file e (s + 1) 4 (open_of sizes s) (own_of (size_at sizes s) % 64)
open_count file sizes flags h s e sn low high =
    let there : extent_start sizes s + (e - extent_start sizes s) ≡ e = omega arith in
    subst (λ (x : ℕ). Given file x (s + 1) 4 (open_of sizes s) (own_of (size_at sizes s) % 64)) there
    (open_own file sizes flags h s (e - extent_start sizes s) sn (omega arith) (omega arith))

-- which is 64, or some number between
used_is : (file sizes : List ℕ) (flags : ℕ) → KnownHeads file sizes flags → (s e : ℕ) → s < length sizes
    → extent_start sizes s ≤ e → e < extent_start sizes s + extent_counts sizes s
    → ((e < extent_start sizes s + own_of (size_at sizes s) / 64) × (used_count file e ≡ 64))
    ⊎ ((extent_start sizes s + own_of (size_at sizes s) / 64 ≤ e) × (0 < used_count file e) × (used_count file e < 64))
used_is file sizes flags h s e sn low high = elim (cases_lt e (extent_start sizes s + own_of (size_at sizes s) / 64)) [
  | inl l ↦ inl (l, given_count file e (s + 1) 4 (full_of sizes s) 64 (full_count file sizes flags h s e sn low l))
  | inr l ↦
      let c = given_count file e (s + 1) 4 (open_of sizes s) (own_of (size_at sizes s) % 64)
      (open_count file sizes flags h s e sn l high) in
      inr (l, omega arith, omega arith)
]

no_free : (file sizes : List ℕ) (flags : ℕ) → KnownHeads file sizes flags → (s : ℕ) → s < length sizes
    → free_extents file (inode_place s) ≡ []
no_free file sizes flags h s sn =
    ap (λ (xs : List ℕ). filter (λ e. used_count file e == 0) xs) (own_are file sizes flags h s sn)
    ∙ filter_none (λ e. used_count file e == 0) (extent_start sizes s) (extent_counts sizes s)
    (λ e l m. elim (used_is file sizes flags h s e sn l m) [
      | inl full ↦ let c = full.1 in ne_eqb (used_count file e) 0 (λ q. absurd (omega arith))
      | inr part ↦ let c = part.1 in ne_eqb (used_count file e) 0 (λ q. absurd (omega arith))
    ])

not_full_are : (file sizes : List ℕ) (flags : ℕ) → KnownHeads file sizes flags → (s : ℕ) → s < length sizes
    → not_full_extents file (inode_place s) ≡ members_of (open_of sizes s)
not_full_are file sizes flags h s sn =
    let p = λ (e : ℕ). nat_lt 0 (used_count file e) && nat_lt (used_count file e) 64 in
    ap (λ (xs : List ℕ). filter p xs) (own_are file sizes flags h s sn)
    ∙ filter_run p (extent_start sizes s) (extent_counts sizes s) (open_of sizes s) (record {
      low = omega arith;
      high = omega arith;
      before = λ e l m. elim (used_is file sizes flags h s e sn l (omega arith)) [
        | inl full ↦ let c = full.1 in and_right (nat_lt 0 (used_count file e)) (nat_lt (used_count file e) 64)
            (le-ltb (used_count file e) 64 (omega arith))
        | inr part ↦ absurd (let c = part.0 in omega arith)
      ];
      within = λ e l m. elim (used_is file sizes flags h s e sn (omega arith) (omega arith)) [
        | inl full ↦ absurd (let c = full.0 in omega arith)
        | inr part ↦ and_from (nat_lt 0 (used_count file e)) (nat_lt (used_count file e) 64)
            (lt-ltb 0 (used_count file e) part.1) (lt-ltb (used_count file e) 64 part.2)
      ];
      behind = λ e l m. absurd (omega arith);
    })

all_full_are : (file sizes : List ℕ) (flags : ℕ) → KnownHeads file sizes flags → (s : ℕ) → s < length sizes
    → full_extents file (inode_place s) ≡ members_of (full_of sizes s)
all_full_are file sizes flags h s sn =
    let p = λ (e : ℕ). used_count file e == 64 in
    ap (λ (xs : List ℕ). filter p xs) (own_are file sizes flags h s sn)
    ∙ filter_run p (extent_start sizes s) (extent_counts sizes s) (full_of sizes s) (record {
      low = omega arith;
      high = omega arith;
      before = λ e l m. absurd (omega arith);
      within = λ e l m. elim (used_is file sizes flags h s e sn l (omega arith)) [
        | inl full ↦ eq-eqb (used_count file e) 64 full.1
        | inr part ↦ absurd (let c = part.0 in omega arith)
      ];
      behind = λ e l m. elim (used_is file sizes flags h s e sn (omega arith) m) [
        | inl full ↦ absurd (let c = full.0 in omega arith)
        | inr part ↦ let c = part.2 in ne_eqb (used_count file e) 64 (λ q. absurd (omega arith))
      ];
    })

-- the three lists of a segment
pub segment_lists : (file sizes : List ℕ) (flags : ℕ) → KnownHeads file sizes flags → (s : ℕ) → s < length sizes
    → HoldThree (extent_nodes file) (segment_free_list file (inode_place s))
    (segment_not_full_list file (inode_place s))
    (segment_full_list file (inode_place s))
segment_lists file sizes flags h s sn = (
  holds_run (extent_nodes file) (segment_free_list file (inode_place s)) no_run (inode_free file sizes flags h s sn)
      (no_free file sizes flags h s sn) (λ e l m. absurd (omega arith)),
  holds_run (extent_nodes file) (segment_not_full_list file (inode_place s)) (open_of sizes s)
      (inode_not_full file sizes flags h s sn) (not_full_are file sizes flags h s sn)
      (λ e l m. node_given file e (s + 1) 4 (open_of sizes s) (own_of (size_at sizes s) % 64)
      (open_count file sizes flags h s e sn l (omega arith))),
  holds_run (extent_nodes file) (segment_full_list file (inode_place s)) (full_of sizes s)
      (inode_full file sizes flags h s sn) (all_full_are file sizes flags h s sn)
      (λ e l m. node_given file e (s + 1) 4 (full_of sizes s) 64 (full_count file sizes flags h s e sn l m)),
)

-- NOT_FULL_N_USED
pub not_full_count : (file sizes : List ℕ) (flags : ℕ) → KnownHeads file sizes flags → (s : ℕ) → s < length sizes
    → HasNotFullCount file (inode_place s)
not_full_count file sizes flags h s sn =
    let run = open_of sizes s in
    inode_used file sizes flags h s sn
    ∙ sym (ap (λ (xs : List ℕ). sum_by (used_count file) xs) (not_full_are file sizes flags h s sn)
    ∙ sum_few (used_count file) run.first run.count (own_of (size_at sizes s) % 64) (omega arith) (λ q. omega arith)
    (λ q. given_count file run.first (s + 1) 4 run (own_of (size_at sizes s) % 64)
    (open_count file sizes flags h s run.first sn (omega arith) (omega arith))))

-- an extent of a segment has the id of one
pub has_home : (file sizes : List ℕ) (flags : ℕ) → IsShape sizes → KnownHeads file sizes flags → (e : ℕ)
    → e < extent_count file → HasHome file e
has_home file sizes flags shape h e l four =
    let all = extent_total file sizes flags h in
    elim (cases_lt e (fragment_extents sizes)) [
      | inl f ↦ absurd (elim (state_of_fragment file sizes flags h e f) [
        | inl two ↦ omega arith
        | inr three ↦ omega arith
      ])
      | inr o ↦
          let p = own_extent_at sizes e o (omega arith) in
          let r = own_id file sizes flags h p.piece p.at p.below p.inside in
          let id : (extent_of file e).id ≡ p.piece + 1 = ap (λ (x : ℕ). (extent_of file x).id) (sym p.there) ∙ r.1 in
          let below = p.below in
          subst (λ (xs : List ℕ). Contains xs (extent_of file e).id) (sym (ids_are file sizes flags shape h))
          (subst (λ (x : ℕ). Contains (range_with_len 1 (length sizes)) x) (sym id)
          (range_has 1 (length sizes) (p.piece + 1) (omega arith) (omega arith)))
    ]
