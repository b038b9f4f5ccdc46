-- Who owns each page of a built tablespace.
use Rattle.std.proofs.Common.{◌≡◌, ℕ, ◌+◌, ◌-◌, ◌*◌, ◌/◌, ◌%◌, ◌<◌, ◌==◌, ◌||◌, ◌⊎◌, nat_lt}
use Rattle.std.proofs.Common.{Bool, true, false, cond, List, length, flat_map, Contains, inl, inr, refl, sym, ap}
use Rattle.std.proofs.Common.{◌∙◌, subst, arith}
use Rattle.std.specs.List.{list_any}
use Rattle.std.proofs.lemmas.Bool.{cases_lt, cases_Bool, lt-ltb, false≢true}
use Rattle.std.proofs.lemmas.Bool.Decides.{eqb_tells}
use Rattle.std.proofs.lemmas.List.Elements.{Contains-append_left, Contains-append_right}
use Rattle.page_source.proofs.Members.{flat_map_contains, range_has}
use Rattle.space_header.specs.Header.{limit_of}
use Rattle.extent_map.specs.Extents.{extent_of, extent_state, is_used, IsUsed, used_in}
use Rattle.extent_map.specs.Extents.{is_fragment_extent, is_system_page}
use Rattle.inode_segments.specs.Inodes.{slot_pages, inode_pages}
use Rattle.space_audit.specs.declared.owner.Owner.{Owner}
use Rattle.space_audit.specs.declared.owner.Owner.TheVariants.{System, InodePage, Used, Spare, FragmentFree}
use Rattle.space_audit.specs.declared.owner.Owner.TheVariants.{FreeExtent, Beyond}
use Rattle.space_audit.specs.Lists.{segment_extents}
use Rattle.space_audit.specs.Owners.{claim_of, owner_of, owner_in_segment, owner_in_fragment, segment_with_id}
use Rattle.space_audit.specs.Owners.{segment_with_slot, IsUsedBy}
use Rattle.space_audit.specs.Laws.{AreAllClaimed}
use Rattle.space_layout.specs.Numbers.{fragments_of, own_of, used_fragments, extent_start, segment_page}
use Rattle.space_layout.specs.Numbers.{size_at, IsShape}
use Rattle.space_layout.specs.Fields.{inode_place}
use Rattle.space_layout.specs.Numbers.{IsPlace}
use Rattle.space_layout.proofs.Known.{KnownHeads}
use Rattle.space_layout.proofs.PageNumbers.{extent_counts, page_fragment, page_own}
use Rattle.space_layout.proofs.PageNumbers.{fragment_high, own_extent_of}
use Rattle.space_layout.proofs.Ranges.{in_range}
use Rattle.space_layout.proofs.Spaces.{head_limit, head_size, own_given, used_place}
use Rattle.space_layout.proofs.Inodes.{segment_there, inode_page_two}
use Rattle.space_layout.proofs.HomeLists.{own_are}
use Rattle.space_layout.proofs.SlotPages.{slots_are, fragment_use}

-- page i of segment s is used
pub page_used : (file sizes : List ℕ) (flags : ℕ) → IsShape sizes → KnownHeads file sizes flags → (s i : ℕ)
    → s < length sizes → i < size_at sizes s → IsUsed file (segment_page sizes s i)
page_used file sizes flags shape h s i sn inside = elim (cases_lt i 32) [
  | inl few ↦
      let e = page_fragment sizes s i few in
      let high = fragment_high sizes shape s i sn (omega arith) in
      (fragment_use file sizes flags h (segment_page sizes s i) (omega arith)).used
  | inr many ↦
      let e = page_own sizes s i many in
      let k = (i - 32) / 64 in
      let r = own_extent_of sizes s i many inside in
      let o = own_given file sizes flags h s k sn r.1 in
      let j = (i - 32) % 64 in
      let split : segment_page sizes s i ≡ 64 * (extent_start sizes s + k) + j = omega arith in
      ap (is_used file) split ∙ o.used j (omega arith) ∙ lt-ltb (64 * k + j) (own_of (size_at sizes s)) (omega arith)
]

-- and segment s claims it
pub page_claimed : (file sizes : List ℕ) (flags : ℕ) → IsShape sizes → KnownHeads file sizes flags → (s i : ℕ)
    → s < length sizes → i < size_at sizes s → Contains (claim_of file (inode_place s)) (segment_page sizes s i)
unfolding claim_of
page_claimed file sizes flags shape h s i sn inside =
    let n = segment_page sizes s i in
    let slots = slot_pages file (inode_place s) in
    let others = flat_map (used_in file) (segment_extents file (inode_place s)) in
    elim (cases_lt i 32) [
      | inl few ↦ Contains-append_left slots others n
          (subst (λ (xs : List ℕ). Contains xs n) (sym (slots_are file sizes flags shape h s sn))
          (in_range (segment_page sizes s) 0 (fragments_of (size_at sizes s)) i (omega arith) (omega arith)))
      | inr many ↦
          let r = own_extent_of sizes s i many inside in
          let extent = r.0 in
          let below = r.1 in
          Contains-append_right slots others n
          (flat_map_contains (used_in file) (segment_extents file (inode_place s)) (n / 64) n
          (subst (λ (xs : List ℕ). Contains xs (n / 64)) (sym (own_are file sizes flags h s sn))
          (range_has (extent_start sizes s) (extent_counts sizes s) (n / 64) (omega arith) (omega arith)))
          (((h.laws.extents file (n / 64)).members n).1 (refl, page_used file sizes flags shape h s i sn inside)))
    ]

-- so segment s owns it
pub page_owned : (file sizes : List ℕ) (flags : ℕ) → IsShape sizes → KnownHeads file sizes flags → AreAllClaimed file
    → (s i : ℕ) → s < length sizes → i < size_at sizes s → IsUsedBy file s (segment_page sizes s i)
page_owned file sizes flags shape h claims s i sn inside =
    (claims.uses (segment_page sizes s i) s).1 record {
      place = inode_place s;
      there = segment_there file sizes flags shape h s sn;
      claimed = page_claimed file sizes flags shape h s i sn inside;
      used = page_used file sizes flags shape h s i sn inside;
    }

-- a fragment extent is in another state than that of a free extent, or of one of a segment
other_state : (file : List ℕ) (e state : ℕ) → is_fragment_extent file e ≡ true
    → ((state == 2) || (state == 3)) ≡ false → (extent_state file e == state) ≡ false
other_state file e state fragment other = elim (eqb_tells (extent_state file e) state) [
  | inl same ↦ absurd (false≢true (sym other
      ∙ subst (λ (k : ℕ). ((k == 2) || (k == 3)) ≡ true) same.1 fragment))
  | inr differ ↦ differ.0
]

-- the owners of the first three pages
fragment_owner : (file sizes : List ℕ) (flags : ℕ) → KnownHeads file sizes flags → (n : ℕ) → n < used_fragments sizes
    → owner_of file n ≡ cond (is_system_page n) System
    (cond (list_any (λ m. m == n) (inode_pages file)) InodePage (Used (segment_with_slot file n)))
unfolding owner_of
fragment_owner file sizes flags h n l =
    let limit = head_limit file sizes flags h in
    let size = head_size file sizes flags h in
    let u = fragment_use file sizes flags h n l in
    let below = u.below in
    rw (
      lt-ltb n (limit_of file) (omega arith),
      other_state file (n / 64) 1 u.fragment refl,
      other_state file (n / 64) 4 u.fragment refl,
      u.used,
    )
    refl

pub head_owner : (file sizes : List ℕ) (flags : ℕ) → KnownHeads file sizes flags → owner_of file 0 ≡ System
head_owner file sizes flags h = fragment_owner file sizes flags h 0 (omega arith)

pub bitmap_owner : (file sizes : List ℕ) (flags : ℕ) → KnownHeads file sizes flags → owner_of file 1 ≡ System
bitmap_owner file sizes flags h = fragment_owner file sizes flags h 1 (omega arith)

pub inode_owner : (file sizes : List ℕ) (flags : ℕ) → KnownHeads file sizes flags → owner_of file 2 ≡ InodePage
inode_owner file sizes flags h =
    fragment_owner file sizes flags h 2 (omega arith)
    ∙ ap (λ (xs : List ℕ). cond (list_any (λ m. m == 2) xs) InodePage (Used (segment_with_slot file 2)))
    (inode_page_two file sizes flags h)

-- which branch an owner came from
own_branch : (below free own : Bool) (a b : Owner) (s : ℕ)
    → cond below (cond free FreeExtent (cond own a b)) Beyond ≡ Used s → (a ≡ Used s) ⊎ (b ≡ Used s)
own_branch true true own a b s is = cc
own_branch true false true a b s is = inl is
own_branch true false false a b s is = inr is
own_branch false free own a b s is = cc

-- a segment owns no unused page
unused_owner : (file : List ℕ) (n s : ℕ) → is_used file n ≡ false → IsUsedBy file s n → ⊥
unfolding owner_of
unused_owner file n s unused own =
    let r = own_branch (nat_lt n (limit_of file)) (extent_state file (n / 64) == 1) (extent_state file (n / 64) == 4)
    (owner_in_segment file n) (owner_in_fragment file n) s own in
    elim r [
      | inl a ↦
          let spare : owner_in_segment file n ≡ Spare (segment_with_id file (extent_of file (n / 64)).id) =
          rw unused refl in
          let same : Spare (segment_with_id file (extent_of file (n / 64)).id) ≡ Used s = sym spare ∙ a in cc
      | inr a ↦
          let free : owner_in_fragment file n ≡ FragmentFree = rw unused refl in
          let same : FragmentFree ≡ Used s = sym free ∙ a in cc
    ]

-- what a segment owns is one of its pages
pub owned_place : (file sizes : List ℕ) (flags : ℕ) → IsShape sizes → KnownHeads file sizes flags → AreAllClaimed file
    → (n s : ℕ) → IsUsedBy file s n → (i : ℕ) × IsPlace sizes s i n
owned_place file sizes flags shape h claims n s own = elim (cases_Bool (is_used file n)) [
  | inl used ↦ elim (cases_lt n 3) [
    | inl few ↦ absurd (elim (cases_lt n 1) [
      | inl none ↦
          let e : n ≡ 0 = omega arith in
          let same : System ≡ Used s = sym (head_owner file sizes flags h) ∙ ap (owner_of file) (sym e) ∙ own in cc
      | inr more ↦ elim (cases_lt n 2) [
        | inl one ↦
            let e : n ≡ 1 = omega arith in
            let same : System ≡ Used s = sym (bitmap_owner file sizes flags h) ∙ ap (owner_of file) (sym e) ∙ own in cc
        | inr two ↦
            let e : n ≡ 2 = omega arith in
            let same : InodePage ≡ Used s = sym (inode_owner file sizes flags h) ∙ ap (owner_of file) (sym e)
            ∙ own in cc
      ]
    ])
    | inr many ↦
        let r = used_place file sizes flags shape h n used many in
        let also : IsUsedBy file r.segment n =
        subst (λ (m : ℕ). IsUsedBy file r.segment m) r.is.there
        (page_owned file sizes flags shape h claims r.segment r.at r.is.below r.is.inside) in
        let both : Used r.segment ≡ Used s = sym also ∙ own in
        let same : r.segment ≡ s = cc in
        (r.at, subst (λ (t : ℕ). IsPlace sizes t r.at n) same r.is)
  ]
  | inr unused ↦ absurd (unused_owner file n s unused own)
]
