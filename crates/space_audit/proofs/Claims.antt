-- The claims are a partition of the used pages.
use Rattle.std.proofs.Common.{◌≡◌, ℕ, ◌+◌, ◌*◌, ◌/◌, ◌%◌, ◌<◌, true, cond, not, ◌&&◌, ◌==◌, eqb, List, ◌++◌, map}
use Rattle.std.proofs.Common.{flat_map, sum_by, All, Contains, refl, sym, ◌∙◌, ap, subst, inl, inr, arith, ltb-true}
use Rattle.std.specs.List.{range_with_len}
use Rattle.std.proofs.lemmas.Bool.{false≢true}
use Rattle.std.proofs.lemmas.Bool.Decides.{eqb_tells}
use Rattle.std.proofs.lemmas.List.Elements.{All-contains, Contains-append_cases}
use Rattle.page_source.specs.Pages.{fil_null}
use Rattle.page_source.specs.Lists.{AreDistinct, times_in}
use Rattle.page_source.proofs.Members.{filter_contains, contains_range, range_contains, distinct_range}
use Rattle.page_source.proofs.Members.{contains_flat_map, all_members}
use Rattle.page_source.proofs.Times.{one_if, times_append, times_flat_map, times_filter, times_once, times_none}
use Rattle.page_source.proofs.Times.{times_map, sum_by_same, sum_by_none, sum_by_plus}
use Rattle.space_header.specs.declared.address.Address.{Address}
use Rattle.space_header.specs.Header.{limit_of, size_of}
use Rattle.extent_map.specs.Extents.{extent_of, extent_count, extent_state, IsUsed, used_in, used_count}
use Rattle.extent_map.specs.Extents.{is_fragment_extent, is_fragment_page, is_system_page}
use Rattle.extent_map.specs.Descriptors.{IsExtent}
use Rattle.extent_map.specs.Laws.{UsedPagesAreOfExtents}
use Rattle.extent_map.proofs.Used.{used_below}
use Rattle.inode_segments.specs.Inodes.{inode_of, inode_pages, full_pages, free_pages, segments, segment_id, slot_pages}
use Rattle.inode_segments.specs.InodeChecks.{IsInodePage}
use Rattle.space_audit.specs.Lists.{is_extent_of, segment_extents, HasHome}
use Rattle.space_audit.specs.Owners.{system_pages, claim_of, claims, IsPartition}
use Rattle.space_audit.specs.Audit.{IsFragmentUse, IsSlot, IsUsedFragment, fragment_claims}
use Rattle.space_audit.proofs.Fragments.{used_extent, fragment_used, fragment_extent, fragment_not_own}
use Rattle.space_audit.proofs.Fragments.{state_fragment}

-- a used page is among those of its extent, and not in another
pub used_in_has : (file : List ℕ) → UsedPagesAreOfExtents → (n : ℕ) → IsUsed file n
    → Contains (used_in file (n / 64)) n
used_in_has file law n u = ((law file (n / 64)).members n).1 (refl, u)

pub used_in_only : (file : List ℕ) → UsedPagesAreOfExtents → (e n : ℕ) → Contains (used_in file e) n
    → (n / 64 ≡ e) × IsUsed file n
used_in_only file law e n c = ((law file e).members n).0 c

-- and stands there once
used_times : (file : List ℕ) → UsedPagesAreOfExtents → (n : ℕ) → IsUsed file n → (e : ℕ)
    → times_in (used_in file e) n ≡ one_if (eqb e (n / 64))
used_times file law n u e = elim (eqb_tells e (n / 64)) [
  | inl q ↦ rw q.0 (times_once (used_in file e) n (law file e).distinct
      (((law file e).members n).1 (sym q.1, u)))
  | inr q ↦ rw q.0 (times_none (used_in file e) n (λ c. q.1 (sym (((law file e).members n).0 c).0)))
]

used_some : (file : List ℕ) → UsedPagesAreOfExtents → (n : ℕ) → IsUsed file n → 0 < used_count file (n / 64)
used_some file law n u = let c = used_in_has file law n u in omega (arith, c.1)

-- how often an extent stands among those of a segment
extents_times : (file : List ℕ) (place : Address) (e : ℕ) → e < extent_count file
    → times_in (segment_extents file place) e ≡ one_if (is_extent_of file (segment_id file place) e)
unfolding segment_extents
extents_times file place e h =
    times_filter (is_extent_of file (segment_id file place)) (range_with_len 0 (extent_count file)) e
    ∙ ap (λ k. cond (is_extent_of file (segment_id file place) e) k 0)
    (times_once (range_with_len 0 (extent_count file)) e (distinct_range (extent_count file))
    (contains_range (extent_count file) e h))

-- and a used page among its claims
claim_times : (file : List ℕ) → UsedPagesAreOfExtents → (n : ℕ) → IsUsed file n
    → n / 64 < extent_count file → (place : Address)
    → times_in (claim_of file place) n ≡ times_in (slot_pages file place) n + one_if
    (is_extent_of file (segment_id file place) (n / 64))
unfolding claim_of
claim_times file law n u h place =
    times_append (slot_pages file place) (flat_map (used_in file) (segment_extents file place)) n
    ∙ ap (λ k. times_in (slot_pages file place) n + k)
    (times_flat_map (used_in file) (segment_extents file place) n
    ∙ (sum_by_same (λ e. times_in (used_in file e) n) (λ e. one_if (eqb e (n / 64))) (used_times file law n u)
    (segment_extents file place)
    ∙ extents_times file place (n / 64) h))

-- in how many segments' extents a page lies
abbrev pub times_owned : List ℕ → ℕ → ℕ
times_owned file n = sum_by (λ place. one_if (is_extent_of file (segment_id file place) (n / 64))) (segments file)

pub claims_times : (file : List ℕ) → UsedPagesAreOfExtents → (n : ℕ) → IsUsed file n → n / 64 < extent_count file
    → times_in (claims file) n ≡ times_in (fragment_claims file) n + times_owned file n
unfolding claims fragment_claims
claims_times file law n u h =
    let a = times_append (system_pages file ++ inode_pages file) (flat_map (claim_of file) (segments file)) n in
    let b = times_append (system_pages file ++ inode_pages file) (flat_map (slot_pages file) (segments file)) n in
    let e = times_flat_map (claim_of file) (segments file) n in
    let f = times_flat_map (slot_pages file) (segments file) n in
    let s = sum_by_same (λ place. times_in (claim_of file place) n)
    (λ place. times_in (slot_pages file place) n + one_if (is_extent_of file (segment_id file place) (n / 64)))
    (claim_times file law n u h) (segments file) in
    let p = sum_by_plus (λ place. times_in (slot_pages file place) n)
    (λ place. one_if (is_extent_of file (segment_id file place) (n / 64))) (segments file) in
    omega (arith, a, b, e, f, s, p)

pub owned_none : (file : List ℕ) (n : ℕ) → ¬ (extent_state file (n / 64) ≡ 4) → times_owned file n ≡ 0
owned_none file n h = elim (eqb_tells (extent_state file (n / 64)) 4) [
  | inl q ↦ absurd (h q.1)
  | inr q ↦ sum_by_none (λ place. one_if (is_extent_of file (segment_id file place) (n / 64)))
      (λ place. ap (λ b. one_if (b && (segment_id file place == (extent_of file (n / 64)).id))) q.0) (segments file)
]

pub owned_once : (file : List ℕ) (n : ℕ) → extent_state file (n / 64) ≡ 4
    → AreDistinct (map (segment_id file) (segments file)) → HasHome file (n / 64) → times_owned file n ≡ 1
owned_once file n s d h =
    let t : eqb (extent_state file (n / 64)) 4 ≡ true = ap (λ k. k == 4) s in
    sum_by_same (λ place. one_if (is_extent_of file (segment_id file place) (n / 64)))
    (λ place. one_if (eqb (segment_id file place) (extent_of file (n / 64)).id))
    (λ place. ap (λ b. one_if (b && (segment_id file place == (extent_of file (n / 64)).id))) t) (segments file)
    ∙ (sym (times_map (segment_id file) (segments file) (extent_of file (n / 64)).id)
    ∙ times_once (map (segment_id file) (segments file)) (extent_of file (n / 64)).id d (h s))

-- what is known of the space before its claims are counted
pub record HasClaims (file : List ℕ) : Type 0 where
  pub used_pages : UsedPagesAreOfExtents
  pub whole : limit_of file % 64 ≡ 0
  pub extents : (e : ℕ) → e < extent_count file → IsExtent file e
  pub full : All (IsInodePage file (is_fragment_page file)) (full_pages file)
  pub free : All (IsInodePage file (is_fragment_page file)) (free_pages file)
  pub distinct : AreDistinct (map (segment_id file) (segments file))
  pub homes : (e : ℕ) → e < extent_count file → HasHome file e
  pub slots : All (λ place. All (IsSlot file) (inode_of file place).slots) (segments file)

used_inside : (file : List ℕ) → HasClaims file → (n : ℕ) → IsUsed file n → n / 64 < extent_count file
used_inside file h n u = used_extent file n h.whole (used_below file n u)

pub used_within : (file : List ℕ) → HasClaims file → (n : ℕ) → IsUsed file n → n < size_of file
used_within file h n u = All-contains (λ m. m < size_of file) (used_in file (n / 64)) n
    (h.extents (n / 64) (used_inside file h n u)).within (used_in_has file h.used_pages n u)

system_use : (file : List ℕ) → HasClaims file → (n : ℕ) → n < limit_of file → n % 16384 < 2 → IsFragmentUse file n
system_use file h n l s =
    let e : n / 64 < extent_count file = used_extent file n h.whole l in
    let system = (h.extents (n / 64) e).system (omega arith) in
    let used : IsUsed file n = elim (eqb_tells n (64 * (n / 64))) [
      | inl q ↦ subst (λ k. IsUsed file k) (sym q.1) system.descriptor
      | inr q ↦ let there : 64 * (n / 64) + 1 ≡ n = omega (arith, q.1) in subst (λ k. IsUsed file k) there
          system.bitmap
    ] in
    record { below = used_within file h n used; used = used; fragment = system.fragment }

slot_use : (file : List ℕ) → HasClaims file → (place : Address) (n : ℕ) → Contains (segments file) place
    → Contains (slot_pages file place) n → IsFragmentUse file n
unfolding slot_pages
slot_use file h place n p c =
    let r = filter_contains (λ slot. not (slot == fil_null)) (inode_of file place).slots n c in
    let own : All (IsSlot file) (inode_of file place).slots = All-contains
    (λ q. All (IsSlot file) (inode_of file q).slots) (segments file) place h.slots p in
    All-contains (IsSlot file) (inode_of file place).slots n own r.0
    (elim (eqb_tells n fil_null) [ inl q ↦ absurd (false≢true (ap not (sym q.0) ∙ r.1)) | inr q ↦ q.1 ])

-- what is claimed by itself is a used page of a fragment extent
pub system_or_inode_use : (file : List ℕ) → HasClaims file → (n : ℕ)
    → Contains (system_pages file ++ inode_pages file) n → IsFragmentUse file n
unfolding system_pages
system_or_inode_use file h n c = elim (Contains-append_cases (system_pages file) (inode_pages file) n c) [
  | inl system ↦
      let r = filter_contains is_system_page (range_with_len 0 (limit_of file)) n system in
      system_use file h n (range_contains (limit_of file) n r.0) (ltb-true (n % 16384) 2 r.1)
  | inr inode ↦
      let is : IsInodePage file (is_fragment_page file) n = elim
      (Contains-append_cases (full_pages file) (free_pages file) n inode) [
        | inl k ↦ All-contains (IsInodePage file (is_fragment_page file)) (full_pages file) n h.full k
        | inr k ↦ All-contains (IsInodePage file (is_fragment_page file)) (free_pages file) n h.free k
      ] in
      record {
        below = is.below;
        used = fragment_used file n is.fragment;
        fragment = fragment_extent file n
            is.fragment;
      }
]

pub fragment_use : (file : List ℕ) → HasClaims file → (n : ℕ) → Contains (fragment_claims file) n
    → IsFragmentUse file n
unfolding fragment_claims
fragment_use file h n c = elim (Contains-append_cases (system_pages file ++ inode_pages file)
    (flat_map (slot_pages file) (segments file)) n c) [
      | inl first ↦ system_or_inode_use file h n first
      | inr slot ↦ let p = contains_flat_map (slot_pages file) (segments file) n slot in slot_use file h p.piece n
          p.among p.member
    ]

-- a used page of an extent that isn't a segment's lies in a fragment extent
used_kind : (file : List ℕ) → HasClaims file → (n : ℕ) → IsUsed file n → ¬ (extent_state file (n / 64) ≡ 4)
    → is_fragment_extent file (n / 64) ≡ true
used_kind file h n u s =
    let e = h.extents (n / 64) (used_inside file h n u) in
    state_fragment file (n / 64) e.state.0 e.state.1 (λ one. let none = e.fits.free one in let some = used_some file
    h.used_pages n u in omega arith) s

pub claimed_once : (file : List ℕ) → HasClaims file
    → ((n : ℕ) → n < limit_of file → IsUsedFragment file n → times_in (fragment_claims file) n ≡ 1)
    → (n : ℕ) → IsUsed file n → times_in (claims file) n ≡ 1
claimed_once file h c n u =
    let inside = used_inside file h n u in
    let t = claims_times file h.used_pages n u inside in
    elim (eqb_tells (extent_state file (n / 64)) 4) [
      | inl q ↦
          let own = owned_once file n q.1 h.distinct (h.homes (n / 64) inside) in
          let none = times_none (fragment_claims file) n (λ k. fragment_not_own file (n / 64)
          (fragment_use file h n k).fragment q.1) in
          omega (arith, t, own, none)
      | inr q ↦
          let own = owned_none file n q.1 in
          let once = c n (used_below file n u) (u, used_kind file h n u q.1) in
          omega (arith, t, own, once)
    ]

-- and the other way round
pub fragment_once : (file : List ℕ) → HasClaims file → ((n : ℕ) → IsUsed file n → times_in (claims file) n ≡ 1)
    → (n : ℕ) → IsUsedFragment file n → times_in (fragment_claims file) n ≡ 1
fragment_once file h c n u =
    let t = claims_times file h.used_pages n u.0 (used_inside file h n u.0) in
    let own = owned_none file n (fragment_not_own file (n / 64) u.1) in
    let once = c n u.0 in
    omega (arith, t, own, once)

claim_used : (file : List ℕ) → HasClaims file → (n : ℕ) → Contains (claims file) n
    → (n < size_of file) × IsUsed file n
unfolding claims claim_of
claim_used file h n c = elim (Contains-append_cases (system_pages file ++ inode_pages file)
    (flat_map (claim_of file) (segments file)) n c) [
      | inl first ↦ let r = system_or_inode_use file h n first in (r.below, r.used)
      | inr own ↦
          let p = contains_flat_map (claim_of file) (segments file) n own in
          elim (Contains-append_cases (slot_pages file p.piece) (flat_map (used_in file) (segment_extents file p.piece))
          n p.member) [
            | inl slot ↦ let r = slot_use file h p.piece n p.among slot in (r.below, r.used)
            | inr page ↦ let q = contains_flat_map (used_in file) (segment_extents file p.piece) n page in let u =
                (used_in_only file h.used_pages q.piece n q.member).1 in (used_within file h n u, u)
          ]
    ]

pub partition : (file : List ℕ) → HasClaims file
    → ((n : ℕ) → n < limit_of file → IsUsedFragment file n → times_in (fragment_claims file) n ≡ 1) → IsPartition file
partition file h c =
    record {
      once = λ n l u. claimed_once file h c n u;
      used = all_members (λ n. (n < size_of file) × IsUsed file n)
          (claims file) (claim_used file h);
    }
