-- The claims of slots, segment by segment, and the check of each page's holder.
use Rattle.std.proofs.Common.{◌≡◌, ◌≢◌, ◌↔◌, ℕ, zero, suc, ◌+◌, ◌/◌, ◌%◌, ◌<◌, ◌≤◌, Bool, true, false, cond, ◌&&◌}
use Rattle.std.proofs.Common.{List, [], ◌∷◌, ◌++◌, length, get_or, slice_get, map, take, take_all, Contains}
use Rattle.std.proofs.Common.{Option, Some, None, refl, sym, ◌∙◌, ap, subst, inl, inr, arith, add-one, append-nil}
use Rattle.std.proofs.Common.{append_assoc}
use Rattle.std.specs.List.{range_with_len}
use Rattle.std.proofs.lemmas.Bool.{cases_lt, false≢true}
use Rattle.std.proofs.lemmas.List.Elements.{All-contains, Contains-append_cases}
use Rattle.std.proofs.lemmas.List.FromFn.{length-map-range_with_len, get_or-map-range_with_len}
use Rattle.page_source.specs.declared.rule.Fault.{Fault}
use Rattle.page_source.specs.Pages.{fil_null}
use Rattle.page_source.specs.Lists.{times_in, flag_in}
use Rattle.page_source.specs.Verdict.{EachOf}
use Rattle.page_source.proofs.Members.{all_members}
use Rattle.page_source.proofs.Times.{times_append, times_none, times_once}
use Rattle.space_header.specs.declared.address.Address.{Address}
use Rattle.space_header.specs.Header.{size_of, limit_of}
use Rattle.extent_map.specs.declared.extent.Extent.{Extent}
use Rattle.extent_map.specs.Extents.{extent_count, is_used, IsUsed, used_in, is_fragment_extent}
use Rattle.extent_map.specs.Extents.{is_fragment_page, is_system_page}
use Rattle.extent_map.specs.Descriptors.{IsExtent}
use Rattle.extent_map.specs.Laws.{UsedPagesAreOfExtents}
use Rattle.extent_map.proofs.Used.{used_below}
use Rattle.inode_segments.specs.declared.inode.Inode.{Inode}
use Rattle.inode_segments.specs.Inodes.{inode_of, inode_pages, full_pages, free_pages, segments}
use Rattle.inode_segments.specs.InodeChecks.{AreInodes}
use Rattle.inode_segments.specs.Kept.{InodesView, AreKept}
use Rattle.space_audit.specs.Audit.{IsFragmentUse, IsSlot, SlotCheck, SlotsCheck, fragment_claims}
use Rattle.space_audit.specs.Holders.{Claim, inode_holder, no_holder, many_holders, held_after, AreHeld, claims_of}
use Rattle.space_audit.specs.Holders.{claims_from, claims_in, inode_claims, first_holder, IsOnce, IsHeld}
use Rattle.space_audit.proofs.ListSteps.{get_other, inode_there}
use Rattle.space_audit.proofs.OwnerFacts.{get_at}
use Rattle.space_audit.proofs.Fragments.{and_left, and_right, both_true, used_extent}
use Rattle.space_audit.proofs.Claims.{used_in_has}
use Rattle.space_audit.proofs.Held.{claimed_pages, Holders, held_one, held_none}
use Rattle.space_audit.proofs.HeldOwners.{pages_claimed, mapped, whose, once_is_claimed}

pub slot_holds : (file : List ℕ) (n size : ℕ) (b : Bool) → b ≡ (is_used file n && is_fragment_extent file (n / 64))
    → b ≡ true
    → n < size → size ≡ size_of file → IsFragmentUse file n
slot_holds file n size b e t l s =
    let both = sym e ∙ t in
    record {
      below = omega (arith, l, s);
      used = and_left (is_used file n) (is_fragment_extent file (n / 64)) both;
      fragment = and_right (is_used file n) (is_fragment_extent file (n / 64)) both;
    }

pub slot_breaks : (file : List ℕ) (n size : ℕ) (b : Bool) → b ≡ (is_used file n && is_fragment_extent file (n / 64))
    → b ≡ false
    → n ≢ fil_null → ¬ (IsSlot file n)
slot_breaks file n size b e t some h =
    let is = h some in
    false≢true (sym t ∙ (e ∙ both_true (is_used file n) (is_fragment_extent file (n / 64)) is.used is.fragment))

pub slot_past : (file : List ℕ) (n size : ℕ) → size ≤ n → size ≡ size_of file → n ≢ fil_null → ¬ (IsSlot file n)
slot_past file n size l s some h = let is = h some in absurd (omega (arith, is.below, l, s))

-- what is read of a segment
pub record IsSegment (file : List ℕ) (s : ℕ) (place : Address) (inode : Inode) : Type 0 where
  pub inside : s < length (segments file)
  pub inode_is : inode ≡ inode_of file place
  pub place_is : (d : Address) → get_or (segments file) s d ≡ place

pub segment_read : (file : List ℕ) (inodes : InodesView) (s : ℕ) (place : Address) (inode : Inode)
    → AreKept file inodes
    → slice_get inodes.places s ≡ Some place → slice_get inodes.inodes s ≡ Some inode → IsSegment file s place inode
segment_read file inodes s place inode are p i =
    let at_place = get_at inodes.places s place p in
    let at_inode = get_at inodes.inodes s inode i in
    let inside : s < length (segments file) = subst (λ xs. s < length xs) are.places at_place.0 in
    let place_is : (d : Address) → get_or (segments file) s d ≡ place =
    λ d. sym (ap (λ xs. get_or xs s d) are.places) ∙ at_place.1 d in
    record {
      inside = inside;
      inode_is = sym (at_inode.1 inode) ∙ (ap (λ xs. get_or xs s inode) are.inodes
          ∙ (inode_there file s inode place inside
          ∙ ap (inode_of file) (place_is place)));
      place_is = place_is;
    }

pub slots_checked : (file : List ℕ) (s : ℕ) (place : Address) (inode : Inode) (before : List Address)
    → IsSegment file s place inode
    → (v : Option Fault) → EachOf inode.slots (SlotCheck file place) v → (d : Address)
    → SlotsCheck file before (get_or (segments file) s d) v
slots_checked file s place inode before is v x d =
    subst (λ q. SlotsCheck file before q v) (sym (is.place_is d))
    (subst (λ (i : Inode). EachOf i.slots (SlotCheck file place) v) is.inode_is x)

-- the claims of one more segment
claims_more : (file : List ℕ) (a : ℕ) (places : List Address) (s : ℕ) (d : Address) → s < length places
    → claims_from file a (take (suc s) places)
    ≡ claims_from file a (take s places) ++ claims_of (a + s) (inode_of file (get_or places s d)).slots
claims_more file a [] s d h = absurd (omega (arith, h))
claims_more file a (p ∷ places) zero d h =
    append-nil (claims_of a (inode_of file p).slots) ∙ ap (λ k. claims_of k (inode_of file p).slots) (omega arith)
claims_more file a (p ∷ places) (suc s) d h =
    let here = claims_of a (inode_of file p).slots in
    let more = claims_more file (suc a) places s d (omega (arith, h)) in
    let number : suc a + s ≡ a + suc s = omega arith in
    ap (λ xs. here ++ xs) more
    ∙ (sym (append_assoc here (claims_from file (suc a) (take s places))
    (claims_of (suc a + s) (inode_of file (get_or places s d)).slots))
    ∙ ap (λ k. (here ++ claims_from file (suc a) (take s places)) ++ claims_of k
    (inode_of file (get_or places s d)).slots) number)

pub segment_claims : (file : List ℕ) (s : ℕ) (place : Address) (inode : Inode) (claims : List Claim)
    → IsSegment file s place inode
    → (claims ++ claims_from file 0 (take s (segments file))) ++ claims_of s inode.slots
    ≡ claims ++ claims_from file 0 (take (s + 1) (segments file))
segment_claims file s place inode claims is =
    let so_far = claims_from file 0 (take s (segments file)) in
    let number : 0 + s ≡ s = omega arith in
    append_assoc claims so_far (claims_of s inode.slots)
    ∙ ap (λ xs. claims ++ xs) (
    ap (λ (i : Inode). so_far ++ claims_of s i.slots) (is.inode_is ∙ ap (inode_of file) (sym (is.place_is place)))
    ∙ (ap (λ k. so_far ++ claims_of k (inode_of file (get_or (segments file) s place)).slots) (sym number)
    ∙ (sym (claims_more file 0 (segments file) s place is.inside)
    ∙ ap (λ k. claims_from file 0 (take k (segments file))) (sym (add-one s)))))

-- the inode pages are claimed once each
inode_times : (file : List ℕ) (n : ℕ) → AreInodes file (is_fragment_page file) → Contains (inode_pages file) n
    → times_in (inode_pages file) n ≡ 1
inode_times file n a c =
    let both = times_append (full_pages file) (free_pages file) n in
    elim (Contains-append_cases (full_pages file) (free_pages file) n c) [
      | inl full ↦
          let one = times_once (full_pages file) n a.full.distinct full in
          let none = times_none (free_pages file) n (a.apart n full) in
          omega (arith, both, one, none)
      | inr free ↦
          let one = times_once (free_pages file) n a.free.distinct free in
          let none = times_none (full_pages file) n (λ k. a.apart n k free) in
          omega (arith, both, one, none)
    ]

first_claims : (file : List ℕ) (n : ℕ) (b : Bool) → AreInodes file (is_fragment_page file)
    → (b ≡ true → Contains (inode_pages file) n)
    → (Contains (inode_pages file) n → b ≡ true)
    → cond b inode_holder no_holder ≡ held_after no_holder (inode_claims (inode_pages file)) n
first_claims file n true a to from =
    let one : times_in (claimed_pages (inode_claims (inode_pages file))) n ≡ 1 =
    ap (λ xs. times_in xs n) (pages_claimed inode_holder (inode_pages file)) ∙ inode_times file n a (to refl) in
    let r = held_one (inode_claims (inode_pages file)) n one in
    let m = mapped inode_holder (inode_pages file) r.claim r.among in
    sym (r.who_is ∙ m.0)
first_claims file n false a to from =
    let none : times_in (claimed_pages (inode_claims (inode_pages file))) n ≡ 0 =
    ap (λ xs. times_in xs n) (pages_claimed inode_holder (inode_pages file))
    ∙ times_none (inode_pages file) n (λ c. false≢true (from c)) in
    sym (held_none (inode_claims (inode_pages file)) no_holder n none)

pub first_held : (file : List ℕ) (inodes : InodesView) (size : ℕ) (holders : List ℕ) → AreKept file inodes
    → AreInodes file (is_fragment_page file)
    → holders ≡ map (first_holder inodes.pages) (range_with_len 0 size)
    → AreHeld holders (inode_claims (inode_pages file))
first_held file inodes size holders are a same = λ n l.
    let inside : n < size = subst (λ k. n < k) (ap length same
    ∙ length-map-range_with_len (first_holder inodes.pages) 0 size) l in
    ap (λ xs. get_or xs n 0) same
    ∙ (get_or-map-range_with_len (first_holder inodes.pages) 0 size n n 0 inside (omega arith)
    ∙ first_claims file n (flag_in inodes.pages n) a ((are.pages n).0) ((are.pages n).1))

pub claims_all : (file : List ℕ) (s : ℕ) (holders : List ℕ) → length (segments file) ≤ s
    → AreHeld holders (inode_claims (inode_pages file) ++ claims_from file 0 (take s (segments file)))
    → AreHeld holders (claims_in file)
unfolding claims_in
claims_all file s holders l h =
    subst (λ xs. AreHeld holders (inode_claims (inode_pages file) ++ claims_from file 0 xs))
    (take_all s (segments file) l) h

-- no segment's number stands for no holder or many
whose_few : (file : List ℕ) → length (segments file) ≤ 356515840 → (c : Claim) → Contains (claims_in file) c
    → (c.who ≢ no_holder) × (c.who ≢ many_holders)
whose_few file few c among = elim (whose file c among) [
  | inl inode ↦ ((λ e. absurd (omega (arith, e, inode.0))), (λ e. absurd (omega (arith, e, inode.0))))
  | inr slot ↦
      let at = get_at (segments file) slot.at slot.place slot.place_is in (
        (λ e. absurd (omega (arith, e, slot.who_is, at.0, few))),
        (λ e. absurd (omega (arith, e, slot.who_is, at.0, few))),
      )
]

pub holders_few : (file : List ℕ) → length (segments file) ≤ 356515840 → Holders (claims_in file)
holders_few file few = record {
  some = all_members (λ (c : Claim). c.who ≢ no_holder) (claims_in file) (λ c among. (whose_few file few c among).0);
  few = all_members (λ (c : Claim). c.who ≢ many_holders) (claims_in file)
      (λ c among. (whose_few file few c among).1);
}

-- a used page is below the size
pub used_in_size : (file : List ℕ) → UsedPagesAreOfExtents → limit_of file % 64 ≡ 0
    → ((e : ℕ) → e < extent_count file → IsExtent file e)
    → (n : ℕ) → IsUsed file n → n < size_of file
used_in_size file law whole sound n u =
    All-contains (λ m. m < size_of file) (used_in file (n / 64)) n
    (sound (n / 64) (used_extent file n whole (used_below file n u))).within (used_in_has file law n u)

-- the holder of a page says whether it is claimed once
pub holder_tells : (file : List ℕ) (extents : List Extent) (holders : List ℕ) (n : ℕ) → IsHeld file extents holders
    → n < length holders → IsUsed file n
    → IsOnce (is_system_page n) (get_or holders n 0) ↔ (times_in (fragment_claims file) n ≡ 1)
holder_tells file extents holders n h l u =
    once_is_claimed file n (get_or holders n 0) (used_below file n u) (holders_few file h.few) (h.held n l)

-- one more slot
pub slots_more : (file : List ℕ) (slots : List ℕ) (k : ℕ) → k < length slots
    → ((j d : ℕ) → j < k → IsSlot file (get_or slots j d))
    → IsSlot file (get_or slots k 0) → (j d : ℕ) → j < k + 1 → IsSlot file (get_or slots j d)
slots_more file slots k m h x j d l = elim (cases_lt j k) [
  | inl below ↦ h j d below
  | inr above ↦
      let e : k ≡ j = omega (arith, l, above) in
      subst (λ i. IsSlot file (get_or slots i d)) e (subst (λ y. IsSlot file y) (get_other slots k 0 d m) x)
]

-- one more segment
pub segments_more : (file : List ℕ) (s : ℕ)
    → ((j : ℕ) (d : Address) → j < s → SlotsCheck file (take j (segments file)) (get_or (segments file) j d) None)
    → ((d : Address) → SlotsCheck file (take s (segments file)) (get_or (segments file) s d) None)
    → (j : ℕ) (d : Address) → j < s + 1 → SlotsCheck file (take j (segments file)) (get_or (segments file) j d) None
segments_more file s h x j d l = elim (cases_lt j s) [
  | inl below ↦ h j d below
  | inr above ↦
      let e : s ≡ j = omega (arith, l, above) in
      subst (λ i. SlotsCheck file (take i (segments file)) (get_or (segments file) i d) None) e (x d)
]
