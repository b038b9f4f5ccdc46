-- What is known of a file that holds the head pages of a built tablespace.
use Rattle.std.proofs.Common.{◌≡◌, ◌⊎◌, ℕ, ◌+◌, ◌*◌, ◌/◌, ◌%◌, ◌<◌, ◌≤◌, true}
use Rattle.std.proofs.Common.{nat_lt, List, length, inl, inr, refl, sym, ap, ◌∙◌, arith}
use Rattle.std.proofs.lemmas.Bool.{cases_lt, lt-ltb, le-ltb, ltb-true}
use Rattle.page_source.specs.Pages.{page_of}
use Rattle.space_header.specs.declared.header.SpaceHeader.{SpaceHeader}
use Rattle.space_header.specs.Header.{header_of, size_of, limit_of, header_space, space_flags}
use Rattle.extent_map.specs.Extents.{extent_count, is_used, IsUsed}
use Rattle.extent_map.proofs.Used.{used_below}
use Rattle.space_layout.specs.Numbers.{own_of, used_fragments, fragment_extents, extent_start}
use Rattle.space_layout.specs.Numbers.{extents_needed, space_pages, size_at, IsShape}
use Rattle.space_layout.specs.declared.runs.Run.{Run}
use Rattle.space_layout.specs.Fields.{full_fragments, open_fragments, full_of, open_of, fragment_descriptor}
use Rattle.space_layout.specs.Fields.{own_descriptor, header}
use Rattle.space_layout.proofs.Known.{KnownHeads}
use Rattle.space_layout.proofs.FollowingPieces.{less_same, Place, some_place}
use Rattle.space_layout.proofs.PageNumbers.{extents_follow, extent_counts, own_below, extents_none, HasPlace}
use Rattle.space_layout.proofs.PageNumbers.{fragment_place, own_place}
use Rattle.space_layout.proofs.Given.{Given, given_used}

-- the numbers of the header
pub head_space : (file sizes : List ℕ) (flags : ℕ) → KnownHeads file sizes flags → header_space (page_of file 0) ≡ 1
unfolding header header_of
head_space file sizes flags h = ap (λ (x : SpaceHeader). x.space) h.held.has_header

pub head_size : (file sizes : List ℕ) (flags : ℕ) → KnownHeads file sizes flags → size_of file ≡ space_pages sizes
unfolding header header_of
head_size file sizes flags h = ap (λ (x : SpaceHeader). x.size) h.held.has_header

pub head_limit : (file sizes : List ℕ) (flags : ℕ) → KnownHeads file sizes flags → limit_of file ≡ space_pages sizes
unfolding header header_of
head_limit file sizes flags h = ap (λ (x : SpaceHeader). x.limit) h.held.has_header

pub head_flags : (file sizes : List ℕ) (flags : ℕ) → KnownHeads file sizes flags → space_flags (page_of file 0) ≡ flags
unfolding header header_of
head_flags file sizes flags h = ap (λ (x : SpaceHeader). x.flags) h.held.has_header

pub extent_total : (file sizes : List ℕ) (flags : ℕ) → KnownHeads file sizes flags
    → extent_count file ≡ extents_needed sizes
extent_total file sizes flags h = let e = head_limit file sizes flags h in omega arith

-- a fragment extent whose pages are all used, and the one in which some are free
pub full_fragment : (file sizes : List ℕ) (flags : ℕ) → KnownHeads file sizes flags → (e : ℕ)
    → e < used_fragments sizes / 64 → Given file e 0 3 (full_fragments sizes) 64
unfolding fragment_descriptor
full_fragment file sizes flags h e l =
    let all = extent_total file sizes flags h in
    record {
      bits = h.laws.bits;
      below = omega arith;
      same = h.held.fragments e (omega arith) ∙ rw (lt-ltb e (used_fragments sizes / 64) l) refl;
      first = omega arith;
      last = omega arith;
      some = omega arith;
      few = omega arith;
    }

pub open_fragment : (file sizes : List ℕ) (flags : ℕ) → KnownHeads file sizes flags → (e : ℕ)
    → used_fragments sizes / 64 ≤ e → e < fragment_extents sizes
    → Given file e 0 2 (open_fragments sizes) (used_fragments sizes % 64)
unfolding fragment_descriptor
open_fragment file sizes flags h e low high =
    let all = extent_total file sizes flags h in
    record {
      bits = h.laws.bits;
      below = omega arith;
      same = h.held.fragments e high ∙ rw (le-ltb e (used_fragments sizes / 64) low) refl;
      first = low;
      last = omega arith;
      some = omega arith;
      few = omega arith;
    }

-- an extent of a segment whose pages are all used, and the one in which some are free
pub full_own : (file sizes : List ℕ) (flags : ℕ) → KnownHeads file sizes flags → (s k : ℕ) → s < length sizes
    → k < own_of (size_at sizes s) / 64 → Given file (extent_start sizes s + k) (s + 1) 4 (full_of sizes s) 64
unfolding own_descriptor
full_own file sizes flags h s k sn l =
    let all = extent_total file sizes flags h in
    let below = own_below sizes s k sn (omega arith) in
    record {
      bits = h.laws.bits;
      below = omega arith;
      same = h.held.own s k sn (omega arith) ∙ rw (lt-ltb k (own_of (size_at sizes s) / 64) l) refl;
      first = omega arith;
      last = omega arith;
      some = omega arith;
      few = omega arith;
    }

pub open_own : (file sizes : List ℕ) (flags : ℕ) → KnownHeads file sizes flags → (s k : ℕ) → s < length sizes
    → own_of (size_at sizes s) / 64 ≤ k → k < extent_counts sizes s
    → Given file (extent_start sizes s + k) (s + 1) 4 (open_of sizes s) (own_of (size_at sizes s) % 64)
unfolding own_descriptor
open_own file sizes flags h s k sn low high =
    let all = extent_total file sizes flags h in
    let below = own_below sizes s k sn high in
    record {
      bits = h.laws.bits;
      below = omega arith;
      same = h.held.own s k sn high ∙ rw (le-ltb k (own_of (size_at sizes s) / 64) low) refl;
      first = omega arith;
      last = omega arith;
      some = omega arith;
      few = omega arith;
    }

-- some descriptor that an extent has
pub record IsGiven (file : List ℕ) (e id state : ℕ) : Type 0 where
  pub run : Run
  pub count : ℕ
  pub given : Given file e id state run count

-- the state of an extent, and how many of its pages are used
pub record IsFragment (file sizes : List ℕ) (e : ℕ) : Type 0 where
  pub state : ℕ
  pub kind : (state ≡ 2) ⊎ (state ≡ 3)
  pub is : IsGiven file e 0 state
  pub used : (j : ℕ) → j < 64 → is_used file (64 * e + j) ≡ nat_lt (64 * e + j) (used_fragments sizes)

pub fragment_given : (file sizes : List ℕ) (flags : ℕ) → KnownHeads file sizes flags → (e : ℕ)
    → e < fragment_extents sizes → IsFragment file sizes e
fragment_given file sizes flags h e l = elim (cases_lt e (used_fragments sizes / 64)) [
  | inl full ↦
      let g = full_fragment file sizes flags h e full in
      record {
        state = 3;
        kind = inr refl;
        is = record { run = full_fragments sizes; count = 64; given = g };
        used = λ j small. given_used file e 0 3 (full_fragments sizes) 64 g (64 * e + j) (omega arith)
            ∙ less_same ((64 * e + j) % 64) 64 (64 * e + j) (used_fragments sizes) (λ q. omega arith)
            (λ q. omega arith);
      }
  | inr part ↦
      let g = open_fragment file sizes flags h e part l in
      record {
        state = 2;
        kind = inl refl;
        is = record { run = open_fragments sizes; count = used_fragments sizes % 64; given = g };
        used = λ j small. given_used file e 0 2 (open_fragments sizes) (used_fragments sizes % 64) g (64 * e + j)
            (omega arith)
            ∙ less_same ((64 * e + j) % 64) (used_fragments sizes % 64) (64 * e + j) (used_fragments sizes)
            (λ q. omega arith) (λ q. omega arith);
      }
]

pub record IsOwn (file sizes : List ℕ) (s k : ℕ) : Type 0 where
  pub is : IsGiven file (extent_start sizes s + k) (s + 1) 4
  pub used : (j : ℕ) → j < 64
      → is_used file (64 * (extent_start sizes s + k) + j) ≡ nat_lt (64 * k + j) (own_of (size_at sizes s))

pub own_given : (file sizes : List ℕ) (flags : ℕ) → KnownHeads file sizes flags → (s k : ℕ) → s < length sizes
    → k < extent_counts sizes s → IsOwn file sizes s k
own_given file sizes flags h s k sn l =
    let e = extent_start sizes s + k in
    elim (cases_lt k (own_of (size_at sizes s) / 64)) [
      | inl full ↦
          let g = full_own file sizes flags h s k sn full in
          record {
            is = record { run = full_of sizes s; count = 64; given = g };
            used = λ j small. given_used file e (s + 1) 4 (full_of sizes s) 64 g (64 * e + j) (omega arith)
                ∙ less_same ((64 * e + j) % 64) 64 (64 * k + j) (own_of (size_at sizes s)) (λ q. omega arith)
                (λ q. omega arith);
          }
      | inr part ↦
          let g = open_own file sizes flags h s k sn part l in
          record {
            is = record { run = open_of sizes s; count = own_of (size_at sizes s) % 64; given = g };
            used = λ j small. given_used file e (s + 1) 4 (open_of sizes s) (own_of (size_at sizes s) % 64) g
                (64 * e + j)
                (omega arith)
                ∙ less_same ((64 * e + j) % 64) (own_of (size_at sizes s) % 64) (64 * k + j) (own_of (size_at sizes s))
                (λ q. omega arith) (λ q. omega arith);
          }
    ]

-- each extent behind the fragment extents is one of a segment
pub own_extent_at : (sizes : List ℕ) (e : ℕ) → fragment_extents sizes ≤ e → e < extents_needed sizes
    → Place (extent_start sizes) (extent_counts sizes) (length sizes) e
own_extent_at sizes e low high =
    let none = extents_none sizes in
    some_place (extent_start sizes) (extent_counts sizes) (length sizes) (extents_follow sizes) e (omega arith) high

-- the used pages are the first three, and those of the segments
pub used_place : (file sizes : List ℕ) (flags : ℕ) → IsShape sizes → KnownHeads file sizes flags → (n : ℕ)
    → IsUsed file n → 3 ≤ n → HasPlace sizes n
used_place file sizes flags shape h n used low = elim (cases_lt n (space_pages sizes)) [
  | inl inside ↦ elim (cases_lt (n / 64) (fragment_extents sizes)) [
    | inl fragment ↦
        let f = fragment_given file sizes flags h (n / 64) fragment in
        let split : 64 * (n / 64) + n % 64 ≡ n = omega arith in
        let test : nat_lt n (used_fragments sizes) ≡ true =
        ap (λ (k : ℕ). nat_lt k (used_fragments sizes)) (sym split)
        ∙ sym (f.used (n % 64) (omega arith)) ∙ ap (is_used file) split ∙ used in
        fragment_place sizes shape n low (ltb-true n (used_fragments sizes) test)
    | inr own ↦
        let p = own_extent_at sizes (n / 64) own (omega arith) in
        let o = own_given file sizes flags h p.piece p.at p.below p.inside in
        let there = p.there in
        let split : 64 * (extent_start sizes p.piece + p.at) + n % 64 ≡ n = omega arith in
        let test : nat_lt (64 * p.at + n % 64) (own_of (size_at sizes p.piece)) ≡ true =
        sym (o.used (n % 64) (omega arith)) ∙ ap (is_used file) split ∙ used in
        let q = own_place sizes p.piece p.at (n % 64) p.below (omega arith) (ltb-true _ _ test) in
        record {
          segment = p.piece;
          at = 32 + (64 * p.at + n % 64);
          is = record { below = q.below; inside = q.inside; there = q.there ∙ split };
        }
  ]
  | inr past ↦
      let limit = head_limit file sizes flags h in
      let below = used_below file n used in
      absurd (omega arith)
]
