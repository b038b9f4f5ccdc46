-- The owner of a page, as it is found.
use Rattle.std.proofs.Common.{◌≡◌, ◌≢◌, ℕ, suc, ◌+◌, ◌-◌, ◌*◌, ◌/◌, ◌%◌, ◌<◌, ◌≤◌, Bool, true, false, cond, nat_lt}
use Rattle.std.proofs.Common.{◌==◌, List, length, get_or, slice_get, map, Contains, Some, refl, sym, ◌∙◌, ap, subst}
use Rattle.std.proofs.Common.{inl, inr, arith, lt-ltb}
use Rattle.std.specs.List.{list_any}
use lib.ListN.{get_or-map}
use Rattle.std.proofs.lemmas.Bool.Decides.{Decides-eqb, eqb_tells, leb_tells}
use Rattle.std.proofs.lemmas.List.{length-map}
use Rattle.std.proofs.lemmas.List.Sums.{prefix_len-le-length}
use Rattle.std.proofs.lemmas.List.Elements.{Contains-append_right, Contains-get_or}
use Rattle.page_source.specs.Lists.{times_in}
use Rattle.page_source.proofs.Times.{one_if}
use Rattle.space_header.specs.declared.address.Address.{Address}
use Rattle.space_header.specs.Header.{limit_of}
use Rattle.extent_map.specs.declared.extent.Extent.{Extent}
use Rattle.extent_map.specs.Extents.{extent_of, extent_count, extent_state, used_count, is_used, is_system_page}
use Rattle.extent_map.proofs.Readers.{extents_count}
use Rattle.space_audit.proofs.Fragments.{state_fragment}
use Rattle.inode_segments.specs.Inodes.{inode_pages, segments, slot_pages}
use Rattle.inode_segments.specs.Kept.{InodesView}
use Rattle.space_audit.specs.declared.owner.Owner.{Owner}
use Rattle.space_audit.specs.declared.owner.Owner.TheVariants.{System, InodePage, Used, Spare, FragmentFree, FreeExtent}
use Rattle.space_audit.specs.declared.owner.Owner.TheVariants.{Beyond}
use Rattle.space_audit.specs.Owners.{system_pages, owner_of, owner_in_segment, owner_in_fragment, segment_with_id}
use Rattle.space_audit.specs.Owners.{segment_with_slot, owner_by, owner_by_holder, owner_at_home, IsSmall}
use Rattle.space_audit.specs.Audit.{fragment_claims}
use Rattle.space_audit.specs.Lists.{home_part}
use Rattle.space_audit.specs.Holders.{inode_holder, no_holder, many_holders, held_after, claims_in}
use Rattle.space_audit.specs.Read.{IsOwned}
use Rattle.space_audit.proofs.OwnerFacts.{get_at, by_slot, no_other, not_any, contains_any}
use Rattle.space_audit.proofs.HomeNumbers.{home_at, number_own, part_small}
use Rattle.space_audit.proofs.ListSteps.{get_other}
use Rattle.space_audit.proofs.Held.{claimed_pages, held_one}
use Rattle.space_audit.proofs.HeldOwners.{fragment_times, whose}
use Rattle.space_audit.proofs.ReadExtents.{extent_is}
use Rattle.space_audit.proofs.SoundAudit.{claims_sound}

position_few : (file : List ℕ) (id : ℕ) → segment_with_id file id ≤ length (segments file)
position_few file id = prefix_len-le-length _ (segments file)

slot_few : (file : List ℕ) (n : ℕ) → segment_with_slot file n ≤ length (segments file)
slot_few file n = prefix_len-le-length _ (segments file)

-- a used page of a fragment extent that is no system page, by its one holder
no_inode : (file : List ℕ) (n : ℕ) (place : Address) → Contains (segments file) place
    → times_in (fragment_claims file) n ≡ 1 → Contains (slot_pages file place) n → ¬ (Contains (inode_pages file) n)
no_inode file n place p once c other = no_other file n place p once c
    (Contains-append_right (system_pages file) (inode_pages file) n other)

by_holder : (file : List ℕ) (n holder : ℕ) → length (segments file) < many_holders → n < limit_of file
    → is_system_page n ≡ false → times_in (fragment_claims file) n ≡ 1
    → holder ≡ held_after no_holder (claims_in file) n
    → cond (holder == inode_holder) InodePage (Used holder) ≡ cond (list_any (λ m. m == n) (inode_pages file))
    InodePage (Used (segment_with_slot file n))
by_holder file n holder few l s once e =
    let t = fragment_times file n l in
    let one : times_in (claimed_pages (claims_in file)) n ≡ 1 = (let z = ap one_if s in omega (arith, t, once, z)) in
    let r = held_one (claims_in file) n one in
    elim (whose file r.claim r.among) [
      | inl inode ↦
          let h : (holder == inode_holder) ≡ true = (Decides-eqb holder inode_holder).1 (e ∙ (r.who_is ∙ inode.0)) in
          let a : list_any (λ m. m == n) (inode_pages file) ≡ true = contains_any n (inode_pages file)
          (subst (λ k. Contains (inode_pages file) k) r.page_is inode.1) in
          rw (h, a) refl
      | inr slot ↦
          let here : Contains (slot_pages file slot.place) n = subst (λ k. Contains (slot_pages file slot.place) k)
          r.page_is slot.slot in
          let at = get_at (segments file) slot.at slot.place slot.place_is in
          let who : holder ≡ slot.at = omega (arith, e ∙ r.who_is, slot.who_is) in
          let pos : segment_with_slot file n ≡ slot.at = by_slot file n slot.at slot.place slot.place_is once here in
          let h : (holder == inode_holder) ≡ false = elim (eqb_tells holder inode_holder)
          [ inl q ↦ absurd (omega (arith, q.1, who, at.0, few)) | inr q ↦ q.0 ] in
          let a : list_any (λ m. m == n) (inode_pages file) ≡ false = not_any n (inode_pages file)
          (list_any (λ m. m == n) (inode_pages file)) refl (λ c. no_inode file n slot.place
          (subst (λ q. Contains (segments file) q) (at.1 slot.place)
          (Contains-get_or (segments file) slot.at slot.place at.0)) once here c) in
          rw (h, a) (ap Used (who ∙ sym pos))
    ]

system_same : (file : List ℕ) (n holder : ℕ) → length (segments file) < many_holders → n < limit_of file
    → (system : Bool) → is_system_page n ≡ system → times_in (fragment_claims file) n ≡ 1
    → holder ≡ held_after no_holder (claims_in file) n
    → cond system System (cond (holder == inode_holder) InodePage (Used holder)) ≡ cond system System
    (cond (list_any (λ m. m == n) (inode_pages file)) InodePage (Used (segment_with_slot file n)))
system_same file n holder few l true s once e = refl
system_same file n holder few l false s once e = by_holder file n holder few l s once e

fragment_same : (file : List ℕ) (n holder : ℕ) → length (segments file) < many_holders → n < limit_of file
    → (used : Bool) → is_used file n ≡ used → (used ≡ true → times_in (fragment_claims file) n ≡ 1)
    → holder ≡ held_after no_holder (claims_in file) n → owner_by_holder n holder used ≡ owner_in_fragment file n
fragment_same file n holder few l false u once e = rw u refl
fragment_same file n holder few l true u once e = rw u (system_same file n holder few l (is_system_page n) refl
    (once refl) e)

not_below : (n limit : ℕ) → limit ≤ n → nat_lt n limit ≡ false
not_below n limit h = elim (leb_tells (suc n) limit) [ inl q ↦ absurd (omega (arith, q.1)) | inr q ↦ q.0 ]

-- what the file makes of it
file_beyond : (file : List ℕ) (n : ℕ) → limit_of file ≤ n → owner_of file n ≡ Beyond
unfolding owner_of
file_beyond file n h = rw (not_below n (limit_of file) h) refl

file_free : (file : List ℕ) (n : ℕ) → n < limit_of file → (extent_state file (n / 64) == 1) ≡ true
    → owner_of file n ≡ FreeExtent
unfolding owner_of
file_free file n h a = rw (lt-ltb n (limit_of file) h, a) refl

file_own : (file : List ℕ) (n : ℕ) → n < limit_of file → (extent_state file (n / 64) == 1) ≡ false
    → (extent_state file (n / 64) == 4) ≡ true → owner_of file n ≡ owner_in_segment file n
unfolding owner_of
file_own file n h a b = rw (lt-ltb n (limit_of file) h, a, b) refl

file_fragment : (file : List ℕ) (n : ℕ) → n < limit_of file → (extent_state file (n / 64) == 1) ≡ false
    → (extent_state file (n / 64) == 4) ≡ false → owner_of file n ≡ owner_in_fragment file n
unfolding owner_of
file_fragment file n h a b = rw (lt-ltb n (limit_of file) h, a, b) refl

-- by the state of its extent
pub found_beyond : (file : List ℕ) (extents : List Extent) (inodes : InodesView) (homes : List ℕ) (n : ℕ)
    → IsOwned file extents inodes homes
    → length extents ≤ n / 64 → Beyond ≡ owner_of file n
found_beyond file extents inodes homes n h l =
    sym (file_beyond file n (omega (
      arith,
      l,
      extents_count file extents h.read.extents_are,
      h.read.extents_are.whole,
    )))

inside : (file : List ℕ) (n : ℕ) → limit_of file % 64 ≡ 0 → n / 64 < extent_count file → n < limit_of file
inside file n whole l = omega (arith, whole, l)

state_is : (file : List ℕ) (e : ℕ) (x : Extent) → extent_of file e ≡ x → (state : ℕ) → x.state ≡ state
    → extent_state file e ≡ state
state_is file e x is state s = ap (λ (y : Extent). y.state) is ∙ s

pub found_free : (file : List ℕ) (extents : List Extent) (inodes : InodesView) (homes : List ℕ) (n : ℕ) (x : Extent)
    → IsOwned file extents inodes homes
    → slice_get extents (n / 64) ≡ Some x → x.state ≡ 1 → FreeExtent ≡ owner_of file n
found_free file extents inodes homes n x h at s =
    let is = extent_is file extents (n / 64) x h.read.extents_are at in
    sym (file_free file n (inside file n h.read.extents_are.whole is.0)
    ((Decides-eqb _ 1).1 (state_is file (n / 64) x is.1 1 s)))

pub found_own : (file : List ℕ) (extents : List Extent) (inodes : InodesView) (homes : List ℕ) (n : ℕ) (x : Extent)
    (used : Bool) → IsOwned file extents inodes homes
    → slice_get extents (n / 64) ≡ Some x → x.state ≡ 4 → used ≡ is_used file n
    → owner_at_home (get_or homes (n / 64) 0) used ≡ owner_of file n
found_own file extents inodes homes n x used h at s u =
    let is = extent_is file extents (n / 64) x h.read.extents_are at in
    let four = state_is file (n / 64) x is.1 4 s in
    let pos = segment_with_id file (extent_of file (n / 64)).id in
    let home : get_or homes (n / 64) 0 ≡ 3 + (3 * pos + home_part (used_count file (n / 64))) =
    ap (λ xs. get_or xs (n / 64) 0) h.homes_are ∙ (home_at file (n / 64) is.0 ∙ number_own file (n / 64) four) in
    let number : (get_or homes (n / 64) 0 - 3) / 3 ≡ pos = omega
    (arith, home, part_small (used_count file (n / 64))) in
    ap (λ s. cond used (Used s) (Spare s)) number
    ∙ (ap (λ b. cond b (Used pos) (Spare pos)) u
    ∙ sym (file_own file n (inside file n h.read.extents_are.whole is.0) (ap (λ k. k == 1) four)
    (ap (λ k. k == 4) four)))

pub found_fragment : (file : List ℕ) (extents : List Extent) (inodes : InodesView) (homes : List ℕ) (n holder : ℕ)
    (x : Extent) (used : Bool)
    → IsOwned file extents inodes homes → slice_get extents (n / 64) ≡ Some x → x.state ≢ 1 → x.state ≢ 4
    → used ≡ is_used file n
    → holder ≡ held_after no_holder (claims_in file) n → owner_by_holder n holder used ≡ owner_of file n
found_fragment file extents inodes homes n holder x used h at one four u e =
    let is = extent_is file extents (n / 64) x h.read.extents_are at in
    let below = inside file n h.read.extents_are.whole is.0 in
    let state : extent_state file (n / 64) ≡ x.state = state_is file (n / 64) x is.1 x.state refl in
    let not_one : ¬ (extent_state file (n / 64) ≡ 1) = λ q. one (sym state ∙ q) in
    let not_four : ¬ (extent_state file (n / 64) ≡ 4) = λ q. four (sym state ∙ q) in
    let range = (h.read.extents_sound (n / 64) is.0).state in
    let f = state_fragment file (n / 64) range.0 range.1 not_one not_four in
    let a : (extent_state file (n / 64) == 1) ≡ false = elim (eqb_tells (extent_state file (n / 64)) 1)
    [ inl q ↦ absurd (not_one q.1) | inr q ↦ q.0 ] in
    let b : (extent_state file (n / 64) == 4) ≡ false = elim (eqb_tells (extent_state file (n / 64)) 4)
    [ inl q ↦ absurd (not_four q.1) | inr q ↦ q.0 ] in
    let few : length (segments file) < many_holders = omega (arith, h.few) in
    ap (λ c. owner_by_holder n holder c) u
    ∙ (fragment_same file n holder few below (is_used file n) refl (λ t. claims_sound file h.uses n below (t, f)) e
    ∙ sym (file_fragment file n below a b))

-- an owner's segment is small
small_of : (below free own used system inode : Bool) (x y : ℕ) → x ≤ 356515840 → y ≤ 356515840
    → IsSmall (cond below (cond free FreeExtent (cond own (cond used (Used x) (Spare x))
    (cond used (cond system System (cond inode InodePage (Used y))) FragmentFree))) Beyond)
small_of false free own used system inode x y l m = tt
small_of true true own used system inode x y l m = tt
small_of true false true true system inode x y l m = l
small_of true false true false system inode x y l m = l
small_of true false false false system inode x y l m = tt
small_of true false false true true inode x y l m = tt
small_of true false false true false true x y l m = tt
small_of true false false true false false x y l m = m

pub owner_small : (file : List ℕ) (n : ℕ) → length (segments file) ≤ 356515840 → IsSmall (owner_of file n)
unfolding owner_of
owner_small file n few =
    small_of (nat_lt n (limit_of file)) (extent_state file (n / 64) == 1) (extent_state file (n / 64) == 4)
    (is_used file n)
    (is_system_page n) (list_any (λ m. m == n) (inode_pages file))
    (segment_with_id file (extent_of file (n / 64)).id) (segment_with_slot file n)
    (omega (arith, few, position_few file (extent_of file (n / 64)).id)) (omega (arith, few, slot_few file n))

-- the number that was kept stands for the owner
pub owner_kept : (numbers : List ℕ) (n d : ℕ) (e : Owner) → n < length numbers
    → get_or (map owner_by numbers) n e ≡ owner_by (get_or numbers n d)
owner_kept numbers n d e h =
    get_other (map owner_by numbers) n e (owner_by d) (subst (λ k. n < k) (sym (length-map numbers owner_by)) h)
    ∙ get_or-map owner_by numbers n d
