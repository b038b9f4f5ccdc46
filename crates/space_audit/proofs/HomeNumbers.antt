-- The extents with the number of a list are those whose home it is.
use Rattle.std.proofs.Common.{◌≡◌, ℕ, zero, suc, [], ◌∷◌, ◌+◌, ◌-◌, ◌*◌, ◌<◌, ◌≤◌, Bool, true, ◌==◌, ◌&&◌, nat_lt, List}
use Rattle.std.proofs.Common.{length, get_or, slice_get, map, filter, Contains, Option, Some, None, refl, sym, ◌∙◌, ap}
use Rattle.std.proofs.Common.{subst, inl, inr, arith, lt-ltb, ltb-true}
use Rattle.std.specs.List.{range_with_len, position_or_len}
use Rattle.std.proofs.lemmas.List.FromFn.{length-map-range_with_len, get_or-map-range_with_len}
use Rattle.std.proofs.lemmas.List.{length-map}
use Rattle.std.proofs.lemmas.List.Sums.{passes_at_first, fails_before_first}
use Rattle.std.proofs.lemmas.Bool.{cases_lt, false≢true}
use Rattle.std.proofs.lemmas.Bool.Decides.{Decides-eqb, eqb_tells}
use Rattle.page_source.specs.declared.rule.Fault.{Fault}
use Rattle.page_source.specs.Lists.{AreDistinct, HaveSameMembers}
use Rattle.page_source.proofs.Members.{contains_filter, filter_contains, contains_range, range_contains, contains_there}
use Rattle.space_header.specs.declared.address.Address.{Address}
use Rattle.space_header.specs.declared.address.Base.{Base}
use Rattle.space_header.specs.declared.address.Node.{Node}
use Rattle.extent_map.specs.Extents.{extent_of, extent_count, extent_state, used_count}
use Rattle.extent_map.specs.Descriptors.{IsExtent}
use Rattle.space_audit.proofs.Fragments.{and_left, and_right, both_true}
use Rattle.inode_segments.specs.Inodes.{segments, segment_id}
use Rattle.space_audit.specs.Lists.{HomeListChecks, at_home, extents_in_state, is_extent_of, segment_extents, home_part}
use Rattle.space_audit.specs.Lists.{home_number, homes_of}
use Rattle.space_audit.proofs.AtHome.{has_home, home_of_member}
use Rattle.space_audit.proofs.OwnerFacts.{by_id, passes_there}

pub homes_length : (file : List ℕ) → length (homes_of file) ≡ extent_count file
unfolding homes_of
homes_length file = length-map-range_with_len (home_number file) 0 (extent_count file)

pub home_at : (file : List ℕ) (e : ℕ) → e < extent_count file → get_or (homes_of file) e 0 ≡ home_number file e
unfolding homes_of
home_at file e h = get_or-map-range_with_len (home_number file) 0 (extent_count file) e e 0 h (omega arith)

-- the extents with a number, by what its list's extents are
numbered : (file : List ℕ) (home : ℕ) (xs : List ℕ)
    → ((e : ℕ) → Contains xs e → (e < extent_count file) × (home_number file e ≡ home))
    → ((e : ℕ) → e < extent_count file → home_number file e ≡ home → Contains xs e)
    → HaveSameMembers (at_home (homes_of file) home) xs
numbered file home xs a b = λ e. (
  λ c.
      let inside : e < extent_count file = subst (λ n. e < n) (homes_length file)
      (range_contains (length (homes_of file)) e (filter_contains (λ k. get_or (homes_of file) k 0 == home)
      (range_with_len 0 (length (homes_of file))) e c).0) in
      b e inside (sym (home_at file e inside) ∙ home_of_member (homes_of file) home e c),
  λ c. let r = a e c in has_home (homes_of file) home e (subst (λ n. e < n) (sym (homes_length file)) r.0)
      (home_at file e r.0 ∙ r.1),
)

pub number_own : (file : List ℕ) (e : ℕ) → extent_state file e ≡ 4
    → home_number file e ≡ 3 + (3 * position_or_len (λ place. segment_id file place == (extent_of file e).id)
    (segments file) + home_part (used_count file e))
unfolding home_number
number_own file e s = let t : (extent_state file e == 4) ≡ true = ap (λ k. k == 4) s in rw t refl

pub number_space : (file : List ℕ) (e : ℕ) → ¬ (extent_state file e ≡ 4)
    → home_number file e ≡ extent_state file e - 1
unfolding home_number
number_space file e s = elim (eqb_tells (extent_state file e) 4) [ inl q ↦ absurd (s q.1) | inr q ↦ rw q.0 refl ]

-- the extents of a list of the space
pub space_home : (file : List ℕ) → ((e : ℕ) → e < extent_count file → IsExtent file e) → (state : ℕ) → 1 ≤ state
    → state < 4
    → HaveSameMembers (at_home (homes_of file) (state - 1)) (extents_in_state file state)
unfolding extents_in_state
space_home file x state l u =
    numbered file (state - 1) (filter (λ e. extent_state file e == state) (range_with_len 0 (extent_count file)))
    (λ e c.
    let r = filter_contains (λ k. extent_state file k == state) (range_with_len 0 (extent_count file)) e c in
    let s = (Decides-eqb (extent_state file e) state).0 r.1 in (
      range_contains (extent_count file) e r.0,
      number_space file e (λ four. absurd (omega arith))
          ∙ ap (λ k. k - 1) s,
    ))
    (λ e h n.
    contains_filter (λ k. extent_state file k == state) (range_with_len 0 (extent_count file)) e
    (contains_range (extent_count file) e h)
    ((Decides-eqb (extent_state file e) state).1 (elim (eqb_tells (extent_state file e) 4) [
      | inl q ↦ absurd (let own = number_own file e q.1 in omega (arith, own, n))
      | inr q ↦ let space = number_space file e q.1 in let range = (x e h).state in omega (arith, space, n, range.0)
    ])))

pub part_small : (count : ℕ) → home_part count ≤ 2
part_small count = elim (eqb_tells count 0) [
  | inl p ↦ rw p.0 (omega arith)
  | inr p ↦ elim (eqb_tells count 64)
      [ inl q ↦ rw (p.0, q.0) (omega arith) | inr q ↦ rw (p.0, q.0) (omega arith) ]
]

pub part_free : (count : ℕ) → home_part count ≡ 0 → count ≡ 0
part_free count h = elim (eqb_tells count 0) [
  | inl p ↦ p.1
  | inr p ↦ elim (eqb_tells count 64) [
    | inl q ↦ absurd (let w = rw (p.0, q.0) at h in omega (arith, w))
    | inr q ↦ absurd
        (let w = rw (p.0, q.0) at h in omega (arith, w))
  ]
]

pub part_full : (count : ℕ) → home_part count ≡ 2 → count ≡ 64
part_full count h = elim (eqb_tells count 0) [
  | inl p ↦ absurd (let w = rw p.0 at h in omega (arith, w))
  | inr p ↦
      elim (eqb_tells count 64) [ inl q ↦ q.1 | inr q ↦ absurd (let w = rw (p.0, q.0) at h in omega (arith, w)) ]
]

-- the extents of a segment, by their numbers
own_number : (file : List ℕ) → AreDistinct (map (segment_id file) (segments file)) → (s : ℕ) (place : Address)
    → slice_get (segments file) s ≡ Some place
    → (e : ℕ) → Contains (segment_extents file place) e
    → (e < extent_count file) × (home_number file e ≡ 3 + (3 * s + home_part (used_count file e)))
unfolding segment_extents
own_number file d s place g e c =
    let r = filter_contains (is_extent_of file (segment_id file place)) (range_with_len 0 (extent_count file)) e c in
    let four = (Decides-eqb (extent_state file e) 4).0 (and_left (extent_state file e == 4)
    (segment_id file place == (extent_of file e).id) r.1) in
    let same = (Decides-eqb (segment_id file place) (extent_of file e).id).0
    (and_right (extent_state file e == 4) (segment_id file place == (extent_of file e).id) r.1) in
    let there = by_id file d (extent_of file e).id s place g same in (
      range_contains (extent_count file) e r.0,
      number_own file e four
          ∙ ap (λ k. 3 + (3 * k + home_part (used_count file e))) there,
    )

own_extent : (file : List ℕ) → ((e : ℕ) → e < extent_count file → IsExtent file e) → (s : ℕ) (place : Address)
    → slice_get (segments file) s ≡ Some place
    → (e part : ℕ) → e < extent_count file → part ≤ 2 → home_number file e ≡ 3 + (3 * s + part)
    → Contains (segment_extents file place) e × (home_part (used_count file e) ≡ part)
unfolding segment_extents
own_extent file x s place g e part h p n = elim (eqb_tells (extent_state file e) 4) [
  | inr q ↦ absurd (let space = number_space file e q.1 in let range = (x e h).state in omega
      (arith, space, n, range.1, q.1))
  | inl q ↦
      let own = number_own file e q.1 in
      let small = part_small (used_count file e) in
      let pos : position_or_len (λ o. segment_id file o == (extent_of file e).id) (segments file) ≡ s = omega
      (arith, own, n, small, p) in
      let same = passes_there (λ o. segment_id file o == (extent_of file e).id) (segments file) s place g pos in (
        contains_filter (is_extent_of file (segment_id file place)) (range_with_len 0 (extent_count file)) e
            (contains_range (extent_count file) e h)
            (both_true (extent_state file e == 4) (segment_id file place == (extent_of file e).id) q.0 same),
        omega (arith, own, n, small, p, pos),
      )
]

-- a segment's list, by a test on the number of used pages
pub own_home : (file : List ℕ) → ((e : ℕ) → e < extent_count file → IsExtent file e)
    → AreDistinct (map (segment_id file) (segments file)) → (s : ℕ) (place : Address)
    → slice_get (segments file) s ≡ Some place
    → (part : ℕ) (test : ℕ → Bool) → part ≤ 2 → ((k : ℕ) → test k ≡ true → home_part k ≡ part)
    → ((k : ℕ) → home_part k ≡ part → k ≤ 64 → test k ≡ true)
    → ((e : ℕ) → used_count file e ≤ 64)
    → HaveSameMembers (at_home (homes_of file) (3 + (3 * s + part)))
    (filter (λ e. test (used_count file e)) (segment_extents file place))
own_home file x d s place g part test p a b few =
    numbered file (3 + (3 * s + part)) (filter (λ e. test (used_count file e)) (segment_extents file place))
    (λ e c.
    let r = filter_contains (λ k. test (used_count file k)) (segment_extents file place) e c in
    let o = own_number file d s place g e r.0 in
    (o.0, o.1 ∙ ap (λ k. 3 + (3 * s + k)) (a (used_count file e) r.1)))
    (λ e h n.
    let o = own_extent file x s place g e part h p n in
    contains_filter (λ k. test (used_count file k)) (segment_extents file place) e o.0
    (b (used_count file e) o.1 (few e)))

pub part_of_free : (k : ℕ) → (k == 0) ≡ true → home_part k ≡ 0
part_of_free k t = rw t refl

pub part_of_full : (k : ℕ) → (k == 64) ≡ true → home_part k ≡ 2
part_of_full k t = let e = (Decides-eqb k 64).0 t in subst (λ j. home_part j ≡ 2) (sym e) refl

pub part_of_some : (k : ℕ) → (nat_lt 0 k && nat_lt k 64) ≡ true → home_part k ≡ 1
part_of_some k t =
    let low = ltb-true 0 k (and_left (nat_lt 0 k) (nat_lt k 64) t) in
    let high = ltb-true k 64 (and_right (nat_lt 0 k) (nat_lt k 64) t) in
    elim (eqb_tells k 0) [
      | inl p ↦ absurd (omega (arith, p.1))
      | inr p ↦ elim (eqb_tells k 64)
          [ inl q ↦ absurd (omega (arith, q.1)) | inr q ↦ rw (p.0, q.0) refl ]
    ]

pub some_of_part : (k : ℕ) → home_part k ≡ 1 → k ≤ 64 → (nat_lt 0 k && nat_lt k 64) ≡ true
some_of_part k h l = elim (eqb_tells k 0) [
  | inl p ↦ absurd (let w = rw p.0 at h in omega (arith, w))
  | inr p ↦ elim (eqb_tells k 64) [
    | inl q ↦ absurd (let w = rw (p.0, q.0) at h in omega (arith, w))
    | inr q ↦ both_true (nat_lt 0 k) (nat_lt k 64) (lt-ltb 0 k (omega (arith, p.1)))
        (lt-ltb k 64 (omega (arith, q.1)))
  ]
]

-- two homes with the same members have the same checks
pub same_home_checks : (nodes : List Node) (base : Base) (holder : ℕ) (xs ys : List ℕ) → HaveSameMembers xs ys
    → (v : Option Fault)
    → HomeListChecks nodes (record { base = base; holder = holder; home = xs }) v
    → HomeListChecks nodes (record { base = base; holder = holder; home = ys }) v
unfolding HomeListChecks
same_home_checks nodes base holder xs ys s None h = (
  h.0,
  (
    h.1.0,
    h.1.1,
    λ n.
        (λ c. (s n).0 ((h.1.2 n).0 c), λ c. (h.1.2 n).1 ((s n).1 c)),
  ),
)
same_home_checks nodes base holder xs ys s (Some fault) h = elim h [
  | inl a ↦ inl a
  | inr b ↦ inr (b.0, (λ w. b.1.0 (w.0, w.1, λ n. (λ c. (s n).1 ((w.2 n).0 c), λ c. (w.2 n).1 ((s n).0 c))), b.1.1))
]

map_contains : {X : Type 0} (f : X → ℕ) (xs : List X) (k : ℕ) (d : X) (n : ℕ) → k < length xs
    → f (get_or xs k d) ≡ n → Contains (map f xs) n
map_contains f [] k d n h e = absurd (omega arith)
map_contains f (x ∷ xs) zero d n h e = (0, omega arith, e)
map_contains f (x ∷ xs) (suc k) d n h e = let r = map_contains f xs k d n (omega arith) e in contains_there (f x)
    (map f xs) n r

member_of_map : {X : Type 0} (f : X → ℕ) (xs : List X) (k : ℕ) (d : X) (n : ℕ) → k < length xs
    → get_or (map f xs) k n ≡ n → f (get_or xs k d) ≡ n
member_of_map f [] k d n h e = absurd (omega arith)
member_of_map f (x ∷ xs) zero d n h e = e
member_of_map f (x ∷ xs) (suc k) d n h e = member_of_map f xs k d n (omega arith) e

-- an extent has a home where its number is that of a list
pub home_from_number : (file : List ℕ) (e : ℕ) → home_number file e < 3 + 3 * length (segments file)
    → extent_state file e ≡ 4 → Contains (map (segment_id file) (segments file)) (extent_of file e).id
home_from_number file e h s =
    let own = number_own file e s in
    let pos = position_or_len (λ o. segment_id file o == (extent_of file e).id) (segments file) in
    let inside : pos < length (segments file) = omega (arith, own, h) in
    let t = passes_at_first (λ o. segment_id file o == (extent_of file e).id) (segments file)
    (record { page = 0; offset = 0 }) inside in
    map_contains (segment_id file) (segments file) pos (record { page = 0; offset = 0 }) (extent_of file e).id
    inside ((Decides-eqb _ (extent_of file e).id).0 t)

pub number_from_home : (file : List ℕ) (e : ℕ) → IsExtent file e
    → (extent_state file e ≡ 4 → Contains (map (segment_id file) (segments file)) (extent_of file e).id)
    → home_number file e < 3 + 3 * length (segments file)
number_from_home file e x h = elim (eqb_tells (extent_state file e) 4) [
  | inr q ↦ let n = number_space file e q.1 in let r = x.state.1 in omega (arith, n, r, q.1)
  | inl q ↦
      let c = h q.1 in
      let inside : c.0 < length (segments file) = subst (λ n. c.0 < n)
      (length-map (segments file) (segment_id file)) c.1 in
      let n = number_own file e q.1 in
      let small = part_small (used_count file e) in
      let there : segment_id file (get_or (segments file) c.0 (record { page = 0; offset = 0 })) ≡
      (extent_of file e).id = member_of_map (segment_id file) (segments file) c.0 (record { page = 0; offset = 0 })
      (extent_of file e).id inside c.2 in
      elim (cases_lt c.0 (position_or_len (λ o. segment_id file o == (extent_of file e).id) (segments file))) [
        | inl later ↦ absurd (false≢true (sym (fails_before_first (λ o. segment_id file o == (extent_of file e).id)
            (segments file) c.0 (record { page = 0; offset = 0 }) later)
            ∙ (Decides-eqb _ (extent_of file e).id).1 there))
        | inr within ↦ omega (arith, n, small, inside, within)
      ]
]
