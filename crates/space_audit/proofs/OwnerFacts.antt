-- A segment uses exactly the used pages that it claims.
use Rattle.std.proofs.Common.{◌≡◌, ◌⊎◌, ℕ, zero, suc, ◌+◌, ◌/◌, ◌<◌, Bool, true, false, cond, ◌||◌, nat_lt, ◌==◌}
use Rattle.std.proofs.Common.{List, [], ◌∷◌, ◌++◌, length, get_or, slice_get, map, flat_map, sum_by, Contains, Some}
use Rattle.std.proofs.Common.{refl, sym, ◌∙◌, ap, subst, inl, inr, arith, lt-ltb}
use Rattle.std.specs.List.{range_with_len, list_any, position_or_len}
use lib.ListN.{get_or-map}
use Rattle.std.proofs.lemmas.List.{length-map}
use Rattle.std.proofs.lemmas.Bool.{false≢true}
use Rattle.std.proofs.lemmas.Bool.Decides.{Decides-eqb, eqb_tells}
use Rattle.std.proofs.lemmas.List.Sums.{position_or_len_is, passes_at_first}
use Rattle.std.proofs.lemmas.List.Elements.{Contains-get_or, Contains-append_cases, Contains-append_left}
use Rattle.std.proofs.lemmas.List.Elements.{Contains-append_right}
use Rattle.std.proofs.lemmas.Option.{slice_get_read}
use Rattle.page_source.specs.Lists.{AreDistinct, times_in}
use Rattle.page_source.proofs.Members.{contains_none, contains_here, contains_there, contains_cases, contains_filter}
use Rattle.page_source.proofs.Members.{filter_contains, contains_range, Piece, contains_flat_map, flat_map_contains}
use Rattle.page_source.proofs.Times.{times_append, times_flat_map, times_some, contains_times}
use Rattle.page_source.proofs.Lists.{two_places}
use Rattle.space_header.specs.declared.address.Address.{Address}
use Rattle.space_header.specs.Header.{limit_of}
use Rattle.extent_map.specs.Extents.{extent_of, extent_count, extent_state, is_used, IsUsed, used_in}
use Rattle.extent_map.specs.Extents.{is_fragment_extent, is_system_page}
use Rattle.extent_map.proofs.Used.{used_below}
use Rattle.space_audit.proofs.Fragments.{and_left, and_right, fragment_not_own}
use Rattle.inode_segments.specs.Inodes.{inode_pages, segments, segment_id, slot_pages}
use Rattle.space_audit.specs.declared.owner.Owner.{Owner}
use Rattle.space_audit.specs.declared.owner.Owner.TheVariants.{System, InodePage, Used, Spare, FragmentFree, FreeExtent}
use Rattle.space_audit.specs.declared.owner.Owner.TheVariants.{Beyond}
use Rattle.space_audit.specs.Lists.{is_extent_of, segment_extents}
use Rattle.space_audit.specs.Owners.{system_pages, claim_of, claims, owner_of, owner_in_segment, owner_in_fragment}
use Rattle.space_audit.specs.Owners.{segment_with_id, segment_with_slot, IsUsedBy, IsClaimedBy}
use Rattle.space_audit.specs.Laws.{UseClaims}
use Rattle.space_audit.specs.Audit.{IsFragmentUse, IsUsedFragment, fragment_claims}
use Rattle.space_audit.proofs.Claims.{HasClaims, fragment_use, system_or_inode_use, claimed_once, used_in_only}

-- the member at a place
pub get_at : {X : Type 0} (xs : List X) (s : ℕ) (x : X) → slice_get xs s ≡ Some x
    → (s < length xs) × ((d : X) → get_or xs s d ≡ x)
get_at [] s x h = cc
get_at (y ∷ ys) zero x h = let e : y ≡ x = cc in (omega arith, λ d. e)
get_at (y ∷ ys) (suc s) x h = let r = get_at ys s x h in (omega (arith, r.0), r.1)

-- a test that some member passes
pub any_contains : (n : ℕ) (xs : List ℕ) → list_any (λ m. m == n) xs ≡ true → Contains xs n
any_contains n [] h = absurd (false≢true h)
any_contains n (x ∷ xs) h = elim (eqb_tells x n) [
  | inl q ↦ subst (λ k. Contains (x ∷ xs) k) q.1 (contains_here x xs)
  | inr q ↦ contains_there x xs n (any_contains n xs (ap (λ b. b || list_any (λ m. m == n) xs) (sym q.0) ∙ h))
]

pub contains_any : (n : ℕ) (xs : List ℕ) → Contains xs n → list_any (λ m. m == n) xs ≡ true
contains_any n [] h = absurd (contains_none n h)
contains_any n (x ∷ xs) h = elim (eqb_tells x n) [
  | inl q ↦ ap (λ b. b || list_any (λ m. m == n) xs) q.0
  | inr q ↦ ap (λ b. b || list_any (λ m. m == n) xs) q.0
      ∙ contains_any n xs (elim (contains_cases x xs n h) [ inl e ↦ absurd (q.1 e) | inr k ↦ k ])
]

pub not_any : (n : ℕ) (xs : List ℕ) (b : Bool) → list_any (λ m. m == n) xs ≡ b → (¬ (Contains xs n))
    → list_any (λ m. m == n) xs ≡ false
not_any n xs true e h = absurd (h (any_contains n xs e))
not_any n xs false e h = e

-- which branch an owner came from
pub own_branch : (below free own : Bool) (a b : Owner) (s : ℕ)
    → cond below (cond free FreeExtent (cond own a b)) Beyond ≡ Used s
    → (below ≡ true) × (free ≡ false) × (((own ≡ true) × (a ≡ Used s)) ⊎ ((own ≡ false) × (b ≡ Used s)))
own_branch true true own a b s h = cc
own_branch true false true a b s h = (refl, refl, inl (refl, h))
own_branch true false false a b s h = (refl, refl, inr (refl, h))
own_branch false free own a b s h = cc

spare_branch : (used : Bool) (p s : ℕ) → cond used (Used p) (Spare p) ≡ Used s → (used ≡ true) × (p ≡ s)
spare_branch true p s h = let e : p ≡ s = cc in (refl, e)
spare_branch false p s h = cc

slot_branch : (used system inode : Bool) (p s : ℕ)
    → cond used (cond system System (cond inode InodePage (Used p))) FragmentFree ≡ Used s → (used ≡ true) × (p ≡ s)
slot_branch true true inode p s h = cc
slot_branch true false true p s h = cc
slot_branch true false false p s h = let e : p ≡ s = cc in (refl, e)
slot_branch false system inode p s h = cc

slot_alone : (used system inode : Bool) (p s : ℕ)
    → cond used (cond system System (cond inode InodePage (Used p))) FragmentFree ≡ Used s
    → (system ≡ false) × (inode ≡ false)
slot_alone true true inode p s h = cc
slot_alone true false true p s h = cc
slot_alone true false false p s h = (refl, refl)
slot_alone false system inode p s h = cc

-- the member at the first place that passes
pub passes_there : {X : Type 0} (p : X → Bool) (xs : List X) (s : ℕ) (x : X) → slice_get xs s ≡ Some x
    → position_or_len p xs ≡ s → p x ≡ true
passes_there p xs s x h e =
    let r = get_at xs s x h in
    let t = passes_at_first p xs x (omega (arith, r.0, e)) in
    subst (λ y. p y ≡ true) (ap (λ k. get_or xs k x) e ∙ r.1 x) t

-- the first place that passes is one that passes, where no other does
only_there : {X : Type 0} (p : X → Bool) (xs : List X) (s : ℕ) (x : X) → slice_get xs s ≡ Some x → p x ≡ true
    → ((k : ℕ) → k < s → p (get_or xs k x) ≡ false) → position_or_len p xs ≡ s
only_there p xs s x g t h =
    let r = get_at xs s x g in
    position_or_len_is p xs s x (omega (arith, r.0)) h (λ _. subst (λ y. p y ≡ true) (sym (r.1 x)) t)

pub by_id : (file : List ℕ) → AreDistinct (map (segment_id file) (segments file)) → (id s : ℕ) (place : Address)
    → slice_get (segments file) s ≡ Some place → segment_id file place ≡ id → segment_with_id file id ≡ s
by_id file h id s place g e =
    let r = get_at (segments file) s place g in
    only_there (λ q. segment_id file q == id) (segments file) s place g ((Decides-eqb (segment_id file place) id).1 e)
    (λ k l. elim (eqb_tells (segment_id file (get_or (segments file) k place)) id) [
      | inl q ↦ absurd (h k s (segment_id file place) l (subst (λ m. s < m)
          (sym (length-map (segments file) (segment_id file))) r.0)
          (get_or-map (segment_id file) (segments file) k place
          ∙ (q.1 ∙ (sym e ∙ (ap (segment_id file) (sym (r.1 place))
          ∙ sym (get_or-map (segment_id file) (segments file) s place))))))
      | inr q ↦ q.0
    ])

-- of the claims on a page of a fragment extent, those of slots
pub slots_times : (file : List ℕ) (n : ℕ)
    → times_in (fragment_claims file) n ≡ times_in (system_pages file ++ inode_pages file) n + sum_by
    (λ place. times_in (slot_pages file place) n) (segments file)
unfolding fragment_claims
slots_times file n =
    times_append (system_pages file ++ inode_pages file) (flat_map (slot_pages file) (segments file)) n
    ∙ ap (λ k. times_in (system_pages file ++ inode_pages file) n + k)
    (times_flat_map (slot_pages file) (segments file) n)

pub by_slot : (file : List ℕ) (n s : ℕ) (place : Address) → slice_get (segments file) s ≡ Some place
    → times_in (fragment_claims file) n ≡ 1 → Contains (slot_pages file place) n → segment_with_slot file n ≡ s
by_slot file n s place g once c =
    let r = get_at (segments file) s place g in
    let some : 0 < times_in (slot_pages file (get_or (segments file) s place)) n = times_some
    (slot_pages file (get_or (segments file) s place)) n (subst (λ q. Contains (slot_pages file q) n)
    (sym (r.1 place)) c) in
    only_there (λ q. list_any (λ m. m == n) (slot_pages file q)) (segments file) s place g
    (contains_any n (slot_pages file place) c)
    (λ k l. not_any n (slot_pages file (get_or (segments file) k place))
    (list_any (λ m. m == n) (slot_pages file (get_or (segments file) k place))) refl (λ other.
    let also = times_some (slot_pages file (get_or (segments file) k place)) n other in
    let both = two_places (λ q. times_in (slot_pages file q) n) (segments file) k s place l r.0 in
    let all = slots_times file n in
    omega arith))

-- a page in a slot is no system page and no inode page
pub no_other : (file : List ℕ) (n : ℕ) (place : Address) → Contains (segments file) place
    → times_in (fragment_claims file) n ≡ 1 → Contains (slot_pages file place) n
    → ¬ (Contains (system_pages file ++ inode_pages file) n)
no_other file n place p once c other =
    let a = times_some (system_pages file ++ inode_pages file) n other in
    let b = times_some (flat_map (slot_pages file) (segments file)) n
    (flat_map_contains (slot_pages file) (segments file) place n p c) in
    let f = times_flat_map (slot_pages file) (segments file) n in
    let all = slots_times file n in
    omega arith

system_has : (file : List ℕ) (n : ℕ) → n < limit_of file → is_system_page n ≡ true → Contains (system_pages file) n
unfolding system_pages
system_has file n l t = contains_filter is_system_page (range_with_len 0 (limit_of file)) n
    (contains_range (limit_of file) n l) t

not_system : (file : List ℕ) (n : ℕ) (b : Bool) → is_system_page n ≡ b → n < limit_of file
    → (¬ (Contains (system_pages file) n)) → is_system_page n ≡ false
not_system file n true e l h = absurd (h (system_has file n l e))
not_system file n false e l h = e

pub not_one : (file : List ℕ) (e : ℕ) → is_fragment_extent file e ≡ true → (extent_state file e == 1) ≡ false
not_one file e h = elim (eqb_tells (extent_state file e) 1) [
  | inl q ↦ absurd
      (false≢true (subst (λ k. ((k == 2) || (k == 3)) ≡ true) q.1 h))
  | inr q ↦ q.0
]

pub not_four : (file : List ℕ) (e : ℕ) → is_fragment_extent file e ≡ true → (extent_state file e == 4) ≡ false
not_four file e h = elim (eqb_tells (extent_state file e) 4)
    [ inl q ↦ absurd (fragment_not_own file e h q.1) | inr q ↦ q.0 ]

slot_owner : (file : List ℕ) → HasClaims file
    → ((n : ℕ) → n < limit_of file → IsUsedFragment file n → times_in (fragment_claims file) n ≡ 1)
    → (n s : ℕ) (place : Address) → slice_get (segments file) s ≡ Some place → IsFragmentUse file n
    → Contains (slot_pages file place) n → IsUsedBy file s n
unfolding owner_of
slot_owner file h c n s place g u k =
    let below = used_below file n u.used in
    let once = c n below (u.used, u.fragment) in
    let r = get_at (segments file) s place g in
    let among = subst (λ q. Contains (segments file) q) (r.1 place) (Contains-get_or (segments file) s place r.0) in
    let none = no_other file n place among once k in
    let t1 = lt-ltb n (limit_of file) below in
    let t2 = not_one file (n / 64) u.fragment in
    let t3 = not_four file (n / 64) u.fragment in
    let t4 = not_system file n (is_system_page n) refl below
    (λ q. none (Contains-append_left (system_pages file) (inode_pages file) n q)) in
    let t5 = not_any n (inode_pages file) (list_any (λ m. m == n) (inode_pages file)) refl
    (λ q. none (Contains-append_right (system_pages file) (inode_pages file) n q)) in
    let e = by_slot file n s place g once k in
    rw (t1, t2, t3, u.used, t4, t5, e) refl

extent_owner : (file : List ℕ) → HasClaims file → (n s : ℕ) (place : Address)
    → slice_get (segments file) s ≡ Some place → IsUsed file n
    → is_extent_of file (segment_id file place) (n / 64) ≡ true → IsUsedBy file s n
unfolding owner_of
extent_owner file h n s place g u t =
    let four = and_left (extent_state file (n / 64) == 4) (segment_id file place == (extent_of file (n / 64)).id) t in
    let same = (Decides-eqb (segment_id file place) (extent_of file (n / 64)).id).0
    (and_right (extent_state file (n / 64) == 4) (segment_id file place == (extent_of file (n / 64)).id) t) in
    let one : (extent_state file (n / 64) == 1) ≡ false = ap (λ k. k == 1)
    ((Decides-eqb (extent_state file (n / 64)) 4).0 four) in
    let e = by_id file h.distinct (extent_of file (n / 64)).id s place g same in
    rw (lt-ltb n (limit_of file) (used_below file n u), one, four, u, e) refl

slot_in_claims : (file : List ℕ) (n : ℕ) (place : Address) → Contains (segments file) place
    → Contains (slot_pages file place) n → Contains (fragment_claims file) n
unfolding fragment_claims
slot_in_claims file n place p c = Contains-append_right (system_pages file ++ inode_pages file)
    (flat_map (slot_pages file) (segments file)) n (flat_map_contains (slot_pages file) (segments file) place n p c)

claimed_is_used : (file : List ℕ) → HasClaims file
    → ((n : ℕ) → n < limit_of file → IsUsedFragment file n → times_in (fragment_claims file) n ≡ 1)
    → (n s : ℕ) (place : Address) → slice_get (segments file) s ≡ Some place → Contains (claim_of file place) n
    → IsUsed file n → IsUsedBy file s n
unfolding claim_of segment_extents
claimed_is_used file h c n s place g k u =
    let r = get_at (segments file) s place g in
    let among = subst (λ q. Contains (segments file) q) (r.1 place) (Contains-get_or (segments file) s place r.0) in
    elim (Contains-append_cases (slot_pages file place) (flat_map (used_in file) (segment_extents file place)) n k) [
      | inl slot ↦ slot_owner file h c n s place g (fragment_use file h n (slot_in_claims file n place among slot))
          slot
      | inr page ↦
          let q = contains_flat_map (used_in file) (segment_extents file place) n page in
          let e = (used_in_only file h.used_pages q.piece n q.member).0 in
          let t = (filter_contains (is_extent_of file (segment_id file place))
          (range_with_len 0 (extent_count file)) q.piece q.among).1 in
          extent_owner file h n s place g u (subst (λ x. is_extent_of file (segment_id file place) x ≡ true) (sym e)
          t)
    ]

-- a page that a segment uses is a used one, and neither a system page nor an inode page
pub used_by : (file : List ℕ) (n s : ℕ) → IsUsedBy file s n → IsUsed file n
unfolding owner_of
used_by file n s o =
    let r = own_branch (nat_lt n (limit_of file)) (extent_state file (n / 64) == 1)
    (extent_state file (n / 64) == 4) (owner_in_segment file n) (owner_in_fragment file n) s o in
    elim r.2 [
      | inl own ↦ (spare_branch (is_used file n) (segment_with_id file (extent_of file (n / 64)).id) s own.1).0
      | inr slot ↦ (slot_branch (is_used file n) (is_system_page n) (list_any (λ m. m == n) (inode_pages file))
          (segment_with_slot file n) s slot.1).0
    ]

in_no_slot : (file : List ℕ) (n : ℕ) → Contains (system_pages file ++ inode_pages file) n
    → (is_system_page n ≡ true) ⊎ (list_any (λ m. m == n) (inode_pages file) ≡ true)
unfolding system_pages
in_no_slot file n c = elim (Contains-append_cases (system_pages file) (inode_pages file) n c) [
  | inl system ↦ inl (filter_contains is_system_page (range_with_len 0 (limit_of file)) n system).1
  | inr inode ↦ inr (contains_any n (inode_pages file) inode)
]

not_first : (file : List ℕ) → HasClaims file → (n s : ℕ) → IsUsedBy file s n
    → ¬ (Contains (system_pages file ++ inode_pages file) n)
unfolding owner_of
not_first file h n s o c =
    let u = system_or_inode_use file h n c in
    let r = own_branch (nat_lt n (limit_of file)) (extent_state file (n / 64) == 1)
    (extent_state file (n / 64) == 4) (owner_in_segment file n) (owner_in_fragment file n) s o in
    elim r.2 [
      | inl own ↦ fragment_not_own file (n / 64) u.fragment ((Decides-eqb (extent_state file (n / 64)) 4).0 own.0)
      | inr slot ↦
          let b = slot_alone (is_used file n) (is_system_page n) (list_any (λ m. m == n) (inode_pages file))
          (segment_with_slot file n) s slot.1 in
          elim (in_no_slot file n c) [
            | inl system ↦ false≢true (sym b.0 ∙ system)
            | inr inode ↦ false≢true (sym b.1 ∙ inode)
          ]
    ]

-- what is claimed otherwise a segment claims
of_segment : (file : List ℕ) (n : ℕ) → Contains (claims file) n
    → Contains (system_pages file ++ inode_pages file) n ⊎ Piece (claim_of file) (segments file) n
unfolding claims
of_segment file n c = elim (Contains-append_cases (system_pages file ++ inode_pages file)
    (flat_map (claim_of file) (segments file)) n c)
    [ inl first ↦ inl first | inr own ↦ inr (contains_flat_map (claim_of file) (segments file) n own) ]

pub used_is_claimed : (file : List ℕ) → HasClaims file
    → ((n : ℕ) → n < limit_of file → IsUsedFragment file n → times_in (fragment_claims file) n ≡ 1)
    → (n s : ℕ) → IsUsedBy file s n → IsClaimedBy file s n
used_is_claimed file h c n s o =
    let u = used_by file n s o in
    let once = claimed_once file h c n u in
    elim (of_segment file n (contains_times (claims file) n (omega (arith, once)))) [
      | inl first ↦ absurd (not_first file h n s o first)
      | inr own ↦
          let k = own.among.0 in
          let there : slice_get (segments file) k ≡ Some own.piece =
          slice_get_read (segments file) (length (segments file)) k own.piece refl own.among.1 (sym own.among.2) in
          let also = claimed_is_used file h c n k own.piece there own.member u in
          let both : Used k ≡ Used s = sym also ∙ o in
          let same : k ≡ s = cc in
          record {
            place = own.piece;
            there = subst (λ (t : ℕ). slice_get (segments file) t ≡ Some own.piece) same there;
            claimed = own.member;
            used = u;
          }
    ]

pub uses_are_claims : (file : List ℕ) → HasClaims file
    → ((n : ℕ) → n < limit_of file → IsUsedFragment file n → times_in (fragment_claims file) n ≡ 1) → UseClaims file
uses_are_claims file h c n s = (
  used_is_claimed file h c n s,
  λ w. claimed_is_used file h c n s w.place w.there w.claimed w.used,
)
