-- The used pages of the extents with a home.
use Rattle.std.proofs.Common.{◌≡◌, ℕ, ◌+◌, ◌*◌, ◌<◌, Bool, true, false, cond, ◌&&◌, nat_lt, ◌==◌, List, [], ◌∷◌, get_or}
use Rattle.std.proofs.Common.{slice_get, filter, sum_by, take, Contains, Some, None, refl, sym, ◌∙◌, ap, subst, inl}
use Rattle.std.proofs.Common.{inr, arith}
use Rattle.std.specs.List.{range_with_len}
use Rattle.std.proofs.lemmas.Bool.{cases_lt}
use Rattle.std.proofs.lemmas.List.Sums.{sum_by-cons}
use Rattle.page_source.specs.Lists.{HaveSameMembers}
use Rattle.page_source.proofs.Members.{contains_here, contains_there, contains_filter, filter_contains, range_contains}
use Rattle.space_header.specs.declared.address.Address.{Address}
use Rattle.extent_map.specs.declared.extent.Extent.{Extent}
use Rattle.extent_map.specs.Extents.{extent_count, used_count}
use Rattle.extent_map.specs.Laws.{UsedPagesAreOfExtents}
use Rattle.inode_segments.specs.declared.inode.Inode.{Inode}
use Rattle.inode_segments.specs.Inodes.{segments, segment_id}
use Rattle.inode_segments.specs.Kept.{InodesView}
use Rattle.space_audit.specs.Lists.{HomesView, AreHomes, at_home, homes_of, uses_of, used_at_home, extents_in_state}
use Rattle.space_audit.specs.Lists.{is_extent_of, segment_extents, not_full_extents}
use Rattle.space_audit.specs.Audit.{HasNotFullCount, CountCheck}
use Rattle.space_audit.specs.Read.{IsRead}
use Rattle.space_audit.proofs.HomeNumbers.{space_home, own_home, homes_length, part_of_some, some_of_part}
use Rattle.space_audit.proofs.ListSteps.{get_some}
use Rattle.space_audit.proofs.ReadExtents.{use_at}
use Rattle.space_audit.proofs.ClaimSteps.{IsSegment}

bool_same : (a b : Bool) → (a ≡ true → b ≡ true) → (b ≡ true → a ≡ true) → a ≡ b
bool_same true b f g = sym (f refl)
bool_same false true f g = g refl
bool_same false false f g = refl

filter_same : (p q : ℕ → Bool) (xs : List ℕ) → ((n : ℕ) → Contains xs n → p n ≡ q n) → filter p xs ≡ filter q xs
filter_same p q [] h = refl
filter_same p q (x ∷ xs) h =
    let rest = filter_same p q xs (λ n c. h n (contains_there x xs n c)) in
    ap (λ b. cond b (x ∷ filter p xs) (filter p xs)) (h x (contains_here x xs))
    ∙ ap (λ ys. cond (q x) (x ∷ ys) ys) rest

same_filters : (p q : ℕ → Bool) (xs : List ℕ) → HaveSameMembers (filter p xs) (filter q xs)
    → filter p xs ≡ filter q xs
same_filters p q xs h = filter_same p q xs (λ n c. bool_same (p n) (q n)
    (λ t. (filter_contains q xs n ((h n).0 (contains_filter p xs n c t))).1)
    (λ t. (filter_contains p xs n ((h n).1 (contains_filter q xs n c t))).1))

twice_more : (p q : ℕ → Bool) (x : ℕ) (xs : List ℕ) → filter p (filter q xs) ≡ filter (λ n. q n && p n) xs
    → (a : Bool) → (b : Bool) → p x ≡ b
    → filter p (cond a (x ∷ filter q xs) (filter q xs)) ≡ cond (a && b) (x ∷ filter (λ n. q n && p n) xs)
    (filter (λ n. q n && p n) xs)
twice_more p q x xs rest false b f = rest
twice_more p q x xs rest true true f = rw f (ap (λ ys. x ∷ ys) rest)
twice_more p q x xs rest true false f = rw f rest

filter_twice : (p q : ℕ → Bool) (xs : List ℕ) → filter p (filter q xs) ≡ filter (λ n. q n && p n) xs
filter_twice p q [] = refl
filter_twice p q (x ∷ xs) = twice_more p q x xs (filter_twice p q xs) (q x) (p x) refl

sum_same : (f g : ℕ → ℕ) (xs : List ℕ) → ((n : ℕ) → Contains xs n → f n ≡ g n) → sum_by f xs ≡ sum_by g xs
sum_same f g [] h = refl
sum_same f g (x ∷ xs) h =
    let rest = sum_same f g xs (λ n c. h n (contains_there x xs n c)) in
    let here = h x (contains_here x xs) in
    sum_by-cons f x xs ∙ (omega (arith, rest, here) ∙ sym (sum_by-cons g x xs))

-- the sum over a home, where its extents are those of the file that pass a test
home_sum : (file : List ℕ) (homes : HomesView) (home : ℕ) (p : ℕ → Bool) → AreHomes file homes
    → HaveSameMembers (at_home (homes_of file) home) (filter p (range_with_len 0 (extent_count file)))
    → used_at_home homes home ≡ sum_by (used_count file) (filter p (range_with_len 0 (extent_count file)))
home_sum file homes home p are same =
    let all = range_with_len 0 (extent_count file) in
    let q = λ (e : ℕ). get_or (homes_of file) e 0 == home in
    let here : at_home (homes_of file) home ≡ filter q all = ap (λ n. filter q (range_with_len 0 n))
    (homes_length file) in
    let list : filter q all ≡ filter p all = same_filters q p all
    (subst (λ xs. HaveSameMembers xs (filter p all)) here same) in
    ap (λ xs. sum_by (λ e. get_or homes.uses e 0) (at_home xs home)) are.numbers_are
    ∙ (ap (λ ys. sum_by (λ e. get_or ys e 0) (at_home (homes_of file) home)) are.uses_are
    ∙ (ap (λ xs. sum_by (λ e. get_or (uses_of file) e 0) xs) (here ∙ list)
    ∙ sum_same (λ e. get_or (uses_of file) e 0) (used_count file) (filter p all)
    (λ n c. use_at file n 0 (range_contains (extent_count file) n (filter_contains p all n c).0))))

pub fragment_sum : (file : List ℕ) (extents : List Extent) (inodes : InodesView) (homes : HomesView)
    → IsRead file extents inodes → AreHomes file homes
    → used_at_home homes 1 ≡ sum_by (used_count file) (extents_in_state file 2)
unfolding extents_in_state
fragment_sum file extents inodes homes h are =
    home_sum file homes 1 _ are (space_home file h.extents_sound 2 (omega arith) (omega arith))

pub not_full_sum : (file : List ℕ) → UsedPagesAreOfExtents → (extents : List Extent) (inodes : InodesView)
    (homes : HomesView) (s : ℕ)
    (place : Address)
    → IsRead file extents inodes → AreHomes file homes → slice_get (segments file) s ≡ Some place
    → used_at_home homes (3 + 3 * s + 1) ≡ sum_by (used_count file) (not_full_extents file place)
unfolding segment_extents
not_full_sum file law extents inodes homes s place h are g =
    let test = λ (k : ℕ). nat_lt 0 k && nat_lt k 64 in
    let all = range_with_len 0 (extent_count file) in
    let own = is_extent_of file (segment_id file place) in
    let members = own_home file h.extents_sound h.inodes_sound.distinct s place g 1 test (omega arith) part_of_some
    some_of_part (λ e. (law file e).few) in
    let list : filter (λ e. test (used_count file e)) (filter own all) ≡ filter
    (λ e. own e && test (used_count file e)) all =
    filter_twice (λ e. test (used_count file e)) own all in
    let home : 3 + (3 * s + 1) ≡ 3 + 3 * s + 1 = omega arith in
    home_sum file homes (3 + 3 * s + 1) (λ e. own e && test (used_count file e)) are
    (subst (λ k. HaveSameMembers (at_home (homes_of file) k) (filter (λ e. own e && test (used_count file e)) all))
    home
    (subst (λ xs. HaveSameMembers (at_home (homes_of file) (3 + (3 * s + 1))) xs) list members))
    ∙ ap (λ xs. sum_by (used_count file) xs) (sym list)

-- the stated count of a segment
pub segment_sum : (file : List ℕ) → UsedPagesAreOfExtents → (extents : List Extent) (inodes : InodesView)
    (homes : HomesView) (s : ℕ)
    (place : Address) (inode : Inode)
    → IsRead file extents inodes → AreHomes file homes → IsSegment file s place inode
    → (stated : ℕ) → stated ≡ used_at_home homes (3 + 3 * s + 1)
    → (HasNotFullCount file place → inode.not_full_used ≡ stated)
    × (inode.not_full_used ≡ stated → HasNotFullCount file place)
segment_sum file law extents inodes homes s place inode h are is stated e =
    let g : slice_get (segments file) s ≡ Some place =
    get_some (segments file) s place is.inside ∙ ap (λ p. Some p) (is.place_is place) in
    let sum = e ∙ not_full_sum file law extents inodes homes s place h are g in
    let number = ap (λ (i : Inode). i.not_full_used) is.inode_is in
    ((λ has. number ∙ (has ∙ sym sum)), (λ same. sym number ∙ (same ∙ sum)))

pub counts_more : (file : List ℕ) (s : ℕ)
    → ((j : ℕ) (d : Address) → j < s → CountCheck file (take j (segments file)) (get_or (segments file) j d) None)
    → ((d : Address) → CountCheck file (take s (segments file)) (get_or (segments file) s d) None)
    → (j : ℕ) (d : Address) → j < s + 1 → CountCheck file (take j (segments file)) (get_or (segments file) j d) None
counts_more file s h x j d l = elim (cases_lt j s) [
  | inl below ↦ h j d below
  | inr above ↦
      let e : s ≡ j = omega (arith, l, above) in
      subst (λ i. CountCheck file (take i (segments file)) (get_or (segments file) i d) None) e (x d)
]
