-- What is read of the extents, against the file.
use Rattle.std.proofs.Common.{◌≡◌, ℕ, ◌+◌, ◌/◌, ◌<◌, ◌≤◌, Bool, true, false, cond, not, ◌==◌, eqb, List}
use Rattle.std.proofs.Common.{[], ◌∷◌, ◌++◌, length, get_or, set, slice_get, map, filter, sum_by, Some, refl, sym, ◌∙◌}
use Rattle.std.proofs.Common.{ap, subst, inl, inr, arith, get_or-set_same, get_or-set_other}
use Rattle.std.proofs.Common.{length-set}
use Rattle.std.specs.List.{range_with_len, position_or_len, prefix_len}
use Rattle.std.proofs.lemmas.Bool.{cases_lt}
use lib.ListN.{get_or-eq_default}
use Rattle.std.proofs.lemmas.Bool.Decides.{Decides-eqb, eqb_tells}
use Rattle.std.proofs.lemmas.List.FromFn.{get_or-map-range_with_len, map-range_with_len_more}
use Rattle.std.proofs.lemmas.List.Elements.{filter-append}
use Rattle.std.proofs.lemmas.List.Sums.{sum_by-append, prefix_len-le-length}
use Rattle.page_source.proofs.Members.{range_more}
use Rattle.space_header.specs.declared.address.Address.{Address}
use Rattle.extent_map.specs.declared.extent.Extent.{Extent}
use Rattle.extent_map.specs.Extents.{AreExtents, extents_of, extent_of, extent_count, extent_state}
use Rattle.extent_map.specs.Extents.{used_count}
use Rattle.extent_map.proofs.Readers.{extents_count}
use Rattle.inode_segments.specs.Inodes.{segments, segment_id}
use Rattle.space_audit.specs.Numbering.{place_in}
use Rattle.space_audit.specs.Lists.{home_by, home_number, homes_of, uses_of}
use Rattle.space_audit.proofs.OwnerFacts.{get_at}

pub extent_is : (file : List ℕ) (extents : List Extent) (e : ℕ) (x : Extent) → AreExtents file extents
    → slice_get extents e ≡ Some x → (e < extent_count file) × (extent_of file e ≡ x)
unfolding extents_of
extent_is file extents e x are at =
    let there = get_at extents e x at in
    let below : e < extent_count file = subst (λ n. e < n) (extents_count file extents are) there.0 in (
      below,
      sym (get_or-map-range_with_len (extent_of file) 0 (extent_count file) e e x below (omega arith))
          ∙ (ap (λ xs. get_or xs e x) (sym are.same) ∙ there.1 x),
    )

pub uses_more : (file : List ℕ) (n : ℕ)
    → map (used_count file) (range_with_len 0 (n + 1)) ≡ map (used_count file) (range_with_len 0 n) ++ used_count
    file n ∷ []
uses_more file n = map-range_with_len_more (used_count file) 0 n n (omega arith)

pub homes_more : (file : List ℕ) (n : ℕ)
    → map (home_number file) (range_with_len 0 (n + 1)) ≡ map (home_number file) (range_with_len 0 n) ++ home_number
    file n ∷ []
homes_more file n = map-range_with_len_more (home_number file) 0 n n (omega arith)

pub uses_is : (file uses : List ℕ) (n : ℕ)
    → uses ≡ map (used_count file) (range_with_len 0 n) → n ≡ extent_count file
    → uses ≡ uses_of file
unfolding uses_of
uses_is file uses n h all = h ∙ ap (λ k. map (used_count file) (range_with_len 0 k)) all

pub homes_are : (file homes : List ℕ) (n : ℕ) → homes ≡ map (home_number file) (range_with_len 0 n)
    → n ≡ extent_count file → homes ≡ homes_of file
unfolding homes_of
homes_are file homes n h all = h ∙ ap (λ k. map (home_number file) (range_with_len 0 k)) all

-- the place of an id among those of the segments
place_mapped : (file : List ℕ) (id : ℕ) (places : List Address)
    → place_in (map (segment_id file) places) id ≡ position_or_len (λ place. segment_id file place == id) places
place_mapped file id [] = refl
place_mapped file id (x ∷ places) = ap (λ n. cond (not (segment_id file x == id)) (1 + n) 0)
    (place_mapped file id places)

pub home_is : (file : List ℕ) (e : ℕ) (x : Extent) (ids : List ℕ) (used : ℕ) → extent_of file e ≡ x
    → used ≡ used_count file e
    → ids ≡ map (segment_id file) (segments file) → home_by x.state (place_in ids x.id) used ≡ home_number file e
unfolding home_number
home_is file e x ids used is same all =
    let place : place_in ids x.id ≡ position_or_len (λ place. segment_id file place == x.id) (segments file) =
    ap (λ keys. place_in keys x.id) all ∙ place_mapped file x.id (segments file) in
    ap (λ k. home_by x.state k used) place
    ∙ (ap (λ k. home_by x.state (position_or_len (λ place. segment_id file place == x.id) (segments file)) k) same
    ∙ ap (λ (y : Extent). home_by y.state (position_or_len (λ place. segment_id file place == y.id) (segments file))
    (used_count file e)) (sym is))

pub use_at : (file : List ℕ) (e d : ℕ) → e < extent_count file → get_or (uses_of file) e d ≡ used_count file e
unfolding uses_of
use_at file e d h = get_or-map-range_with_len (used_count file) 0 (extent_count file) e e d h (omega arith)

-- the sums of all homes so far
abbrev pub Summed : List ℕ → List ℕ → List ℕ → ℕ → ℕ → Type 0
Summed homes uses sums lists i = (home : ℕ) → home < lists
    → get_or sums home 0 ≡ sum_by (λ e. get_or uses e 0) (filter (λ e. get_or homes e 0 == home) (range_with_len 0 i))

one_summed : (f : ℕ → ℕ) (n : ℕ) (b : Bool) → sum_by f (cond b (n ∷ []) []) ≡ cond b (f n) 0
one_summed f n true = omega arith
one_summed f n false = refl

summed_more : (homes uses : List ℕ) (home n : ℕ) (b : Bool) → (get_or homes n 0 == home) ≡ b
    → sum_by (λ e. get_or uses e 0) (filter (λ e. get_or homes e 0 == home) (range_with_len 0 (n + 1)))
    ≡ sum_by (λ e. get_or uses e 0) (filter (λ e. get_or homes e 0 == home) (range_with_len 0 n)) + cond b
    (get_or uses n 0) 0
summed_more homes uses home n b t =
    let f = λ (e : ℕ). get_or uses e 0 in
    let p = λ (e : ℕ). get_or homes e 0 == home in
    let more : filter p (range_with_len 0 (n + 1)) ≡ filter p (range_with_len 0 n) ++ cond b (n ∷ []) [] =
    ap (filter p) (range_more n) ∙ (filter-append p (range_with_len 0 n) (n ∷ [])
    ∙ ap (λ c. filter p (range_with_len 0 n) ++ cond c (n ∷ []) []) t) in
    ap (sum_by f) more ∙ (sum_by-append f (filter p (range_with_len 0 n)) (cond b (n ∷ []) [])
    ∙ ap (λ k. sum_by f (filter p (range_with_len 0 n)) + k) (one_summed f n b))

pub summed_here : (homes uses sums : List ℕ) (lists i v : ℕ) → Summed homes uses sums lists i
    → get_or homes i 0 < lists
    → length sums ≡ lists → v ≡ get_or sums (get_or homes i 0) 0 + get_or uses i 0
    → Summed homes uses (set sums (get_or homes i 0) v) lists (i + 1)
summed_here homes uses sums lists i v h l r e = λ home m. elim (eqb_tells (get_or homes i 0) home) [
  | inl q ↦ subst (λ k. get_or (set sums (get_or homes i 0) v) k 0
      ≡ sum_by (λ e. get_or uses e 0) (filter (λ e. get_or homes e 0 == k) (range_with_len 0 (i + 1)))) q.1
      (get_or-set_same sums (get_or homes i 0) v 0 (omega arith) ∙ (e
      ∙ (ap (λ k. k + get_or uses i 0) (h (get_or homes i 0) l)
      ∙ sym (summed_more homes uses (get_or homes i 0) i true
      ((Decides-eqb (get_or homes i 0) (get_or homes i 0)).1 refl)))))
  | inr q ↦ get_or-set_other sums (get_or homes i 0) home v 0 (λ s. q.1 (sym s))
      ∙ (h home m ∙ (omega arith ∙ sym (summed_more homes uses home i false q.0)))
]

pub summed_past : (homes uses sums : List ℕ) (lists i : ℕ) → Summed homes uses sums lists i → lists ≤ get_or homes i 0
    → Summed homes uses sums lists (i + 1)
summed_past homes uses sums lists i h l = λ home m. elim (eqb_tells (get_or homes i 0) home) [
  | inl q ↦ absurd (omega (arith, q.1, m, l))
  | inr q ↦ h home m ∙ (omega arith ∙ sym (summed_more homes uses home i false q.0))
]

-- all sums are small
pub small_set : (sums : List ℕ) (i v m n : ℕ) → ((k : ℕ) → get_or sums k 0 ≤ m) → v ≤ n → m ≤ n → (k : ℕ)
    → get_or (set sums i v) k 0 ≤ n
small_set sums i v m n h l w k = elim (eqb_tells i k) [
  | inr q ↦ let other = get_or-set_other sums i k v 0 (λ s. q.1 (sym s)) in omega (arith, other, h k, w)
  | inl q ↦ elim (cases_lt i (length sums)) [
    | inl inside ↦ subst (λ j. get_or (set sums i v) j 0 ≤ n) q.1
        (let same = get_or-set_same sums i v 0 inside in omega (arith, same, l))
    | inr past ↦ let end : length (set sums i v) ≤ k = omega (arith, length-set sums i v, past, q.1) in
        let none = get_or-eq_default (set sums i v) 0 end in omega (arith, none)
  ]
]
