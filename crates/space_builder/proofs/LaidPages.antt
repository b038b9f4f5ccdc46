-- The pages of a level, one after another, and their numbers.
use Rattle.std.proofs.Common.{◌≡◌, ℕ, zero, suc, ◌+◌, ◌*◌, ◌<◌, ◌≤◌, cond, true, false, List, [], ◌∷◌, ◌++◌}
use Rattle.std.proofs.Common.{length, map, get_or, Contains, Option, Some, None, IfSome}
use Rattle.std.proofs.Common.{refl, sym, ap, ◌∙◌, subst, arith, inl, inr}
use Rattle.std.specs.List.{range_with_len}
use Rattle.std.proofs.lemmas.List.{length_push, get_or_append_left, get_or_push}
use Rattle.std.proofs.lemmas.Simd.{map-map}
use Rattle.std.proofs.lemmas.List.FromFn.{map-range_with_len_more, length-map-range_with_len, get_or-map-range_with_len}
use Rattle.page_source.specs.declared.objects.PageStore.{Ghosts as StoreOf}
use Rattle.page_source.proofs.Members.{contains_none, contains_cases}
use Rattle.page_packer.specs.Entries.{Entry}
use Rattle.space_layout.specs.Numbers.{size_at, segment_page, space_pages}
use Rattle.space_layout.specs.NumberedPages.{Numbered}
use Rattle.tree_layout.specs.Division.{Level}
use Rattle.tree_layout.specs.Places.{is_leaf_row, segment_for, place_for}
use Rattle.tree_layout.specs.PlaceLaws.{StandApart}
use Rattle.space_builder.specs.declared.tree_plan.TreePlan.{TreePlan}
use Rattle.space_builder.specs.build.Puts.{numbers_of, CanPutAt}
use Rattle.space_builder.specs.calls.PutLaws.{PutLaws}
use Rattle.space_builder.specs.calls.TreePlan.{width_in, number_in, first_numbers, HasPage, spot_in, packed_at}
use Rattle.space_builder.specs.calls.TreePlan.{laid_pages, IsPlan, HasRoomFor}
use Rattle.space_builder.proofs.layout.Laid.{contains_mapped}
use Rattle.space_builder.proofs.Puts.{HaveOtherNumbers, AreAmong}

-- a map over a range
pub map_same : {A : Type 0} (f g : ℕ → A) (from count : ℕ) → ((i : ℕ) → from ≤ i → i < from + count → f i ≡ g i)
    → map f (range_with_len from count) ≡ map g (range_with_len from count)
map_same f g from zero same = refl
map_same f g from (suc count) same =
    let here = same from (omega arith) (omega arith) in
    let rest = map_same f g (from + 1) count (λ i low high. same i (omega arith) (omega arith)) in
    rw (here, rest) refl

-- one page more

abbrev pub laid_page : TreePlan → ℕ → ℕ → List Entry → Numbered
laid_page plan l k entries = (number_in plan l k, packed_at plan l k entries (spot_in plan l k))

abbrev laid_at : TreePlan → ℕ → Level → ℕ → Numbered
laid_at plan l pages k = laid_page plan l k (get_or pages k [])

pub none_laid : (plan : TreePlan) (l : ℕ) → laid_pages plan l [] ≡ []
unfolding laid_pages
none_laid plan l = refl

pub laid_push : (plan : TreePlan) (l : ℕ) (pages : Level) (page : List Entry)
    → laid_pages plan l (pages ++ page ∷ []) ≡ laid_pages plan l pages ++ laid_page plan l (length pages) page ∷ []
unfolding laid_pages
laid_push plan l pages page =
    let n = length pages in
    let all = pages ++ page ∷ [] in
    ap (λ m. map (laid_at plan l all) (range_with_len 0 m)) (length_push pages page)
    ∙ map-range_with_len_more (laid_at plan l all) 0 n n (omega arith)
    ∙ ap (λ (xs : List Numbered). xs ++ laid_at plan l all n ∷ [])
    (map_same (laid_at plan l all) (laid_at plan l pages) 0 n
    (λ i low high. ap (laid_page plan l i) (get_or_append_left pages (page ∷ []) [] i (omega arith))))
    ∙ ap (λ (entries : List Entry). map (laid_at plan l pages) (range_with_len 0 n) ++ laid_page plan l n entries ∷ [])
    (get_or_push pages page [] n refl)

-- their numbers

pub numbers_laid : (plan : TreePlan) (l : ℕ) (pages : Level)
    → numbers_of (laid_pages plan l pages) ≡ first_numbers plan l (length pages)
unfolding laid_pages
numbers_laid plan l pages =
    map-map (λ (entry : Numbered). entry.0) (laid_at plan l pages) (range_with_len 0 (length pages))

-- a number of a page of a level
pub record IsNumberOf (plan : TreePlan) (l width n : ℕ) : Type 0 where
  pub k : ℕ
  pub within : k < width
  pub number : number_in plan l k ≡ n

pub number_found : (plan : TreePlan) (l width n : ℕ) → Contains (first_numbers plan l width) n
    → IsNumberOf plan l width n
number_found plan l width n has =
    let size = length-map-range_with_len (number_in plan l) 0 width in
    let below = has.1 in
    let within : has.0 < width = omega arith in
    record {
      k = has.0;
      within = within;
      number = sym (get_or-map-range_with_len (number_in plan l) 0 width has.0 has.0 n within (omega arith)) ∙ has.2;
    }

pub number_there : (plan : TreePlan) (l width k : ℕ) → k < width
    → Contains (first_numbers plan l width) (number_in plan l k)
number_there plan l width k within = contains_mapped (number_in plan l) width k within

pub laid_among : (plan : TreePlan) (l : ℕ) (pages others : Level) → length pages ≤ length others
    → AreAmong (numbers_of (laid_pages plan l pages)) (numbers_of (laid_pages plan l others))
laid_among plan l pages others fewer n has =
    let found = number_found plan l (length pages) n
    (subst (λ numbers. Contains numbers n) (numbers_laid plan l pages) has) in
    let within = found.within in
    subst (λ numbers. Contains numbers n) (sym (numbers_laid plan l others))
    (subst (Contains (first_numbers plan l (length others))) found.number
    (number_there plan l (length others) found.k (omega arith)))

only_number : (n m : ℕ) → Contains (n ∷ []) m → n ≡ m
only_number n m has =
    elim (contains_cases n [] m has) [ inl same ↦ same | inr none ↦ absurd (contains_none m none) ]

pub page_among : (plan : TreePlan) (l k : ℕ) (page : List ℕ) (others : Level) → k < length others
    → AreAmong (numbers_of ((number_in plan l k, page) ∷ [])) (numbers_of (laid_pages plan l others))
page_among plan l k page others within n has =
    subst (λ numbers. Contains numbers n) (sym (numbers_laid plan l others))
    (subst (Contains (first_numbers plan l (length others))) (only_number (number_in plan l k) n has)
    (number_there plan l (length others) k within))

-- each number is that of one page, below the number of all pages

module _ (laws : PutLaws) (plan : TreePlan) (is_plan : IsPlan plan) where
  pub apart : StandApart (segment_page plan.sizes.now) (size_at plan.sizes.now) plan.counts.now plan.index
  apart =
      laws.different (segment_page plan.sizes.now) (size_at plan.sizes.now) plan.counts.now plan.index
      (laws.numbers plan.sizes.now is_plan.shape).one is_plan.fits

  segment_below : (l : ℕ) → segment_for plan.counts.now plan.index l < length plan.sizes.now
  segment_below l =
      let both = is_plan.index in
      elim (is_leaf_row plan.counts.now l) as (λ leaves. cond leaves (2 * plan.index + 1) (2 * plan.index)
      < length plan.sizes.now) [ true ↦ omega arith | false ↦ omega arith ]

  pub number_high : (l k : ℕ) → HasPage plan l k → number_in plan l k < space_pages plan.sizes.now
  unfolding number_in
  number_high l k page =
      (laws.numbers plan.sizes.now is_plan.shape).high (segment_for plan.counts.now plan.index l)
      (place_for plan.counts.now l k)
      (segment_page plan.sizes.now (segment_for plan.counts.now plan.index l) (place_for plan.counts.now l k)) record {
        below = segment_below l;
        inside = apart.within l k page.inside page.within;
        there = refl;
      }

  pub one_page : (l k m i : ℕ) → HasPage plan l k → HasPage plan m i → number_in plan l k ≡ number_in plan m i
      → (l ≡ m) × (k ≡ i)
  unfolding number_in
  one_page l k m i page other same = apart.different l k page.inside page.within m i other.inside other.within same

  pub can_put : {T : Type 0} (g : StoreOf T) (store : T) (l k : ℕ) → HasRoomFor g store plan → HasPage plan l k
      → CanPutAt g store (number_in plan l k)
  can_put g store l k room page = below (g.told store).size room
    where
      below : (size : Option ℕ) → IfSome size (λ size. space_pages plan.sizes.now ≤ size)
          → IfSome size (λ size. number_in plan l k < size)
      below None room = tt
      below (Some size) room = omega (arith, room, number_high l k page)

  pub page_differs : (l : ℕ) (pages : Level) (page : List ℕ) → l < length plan.counts.now
      → length pages < width_in plan l
      → HaveOtherNumbers (laid_pages plan l pages) ((number_in plan l (length pages), page) ∷ [])
  page_differs l pages page inside within n has other =
      let found = number_found plan l (length pages) n
      (subst (λ numbers. Contains numbers n) (numbers_laid plan l pages) has) in
      let before = found.within in
      let same = one_page l found.k l (length pages) record { inside = inside; within = omega arith }
      record { inside = inside; within = within }
      (found.number ∙ sym (only_number (number_in plan l (length pages)) n other)) in
      let is = same.1 in
      absurd (omega arith)
