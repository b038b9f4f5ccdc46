-- The neighbours of a page on its level.
use Rattle.std.proofs.Common.{◌≡◌, ℕ, zero, suc, ◌+◌, ◌-◌, ◌<◌, ◌≤◌, cond, true, false, List, Option, IfSome}
use Rattle.std.proofs.Common.{sym, ap, ◌∙◌, subst, arith}
use Rattle.std.proofs.lemmas.List.{get_or_past}
use Rattle.std.proofs.lemmas.List.FromFn.{get_or-map-range_with_len, length-map-range_with_len}
use Rattle.page_source.specs.Pages.{fil_null}
use Rattle.tree_walk.specs.TreeChecks.{before, after}
use Rattle.page_source.specs.declared.objects.PageStore.{Ghosts as StoreOf}
use Rattle.space_layout.specs.Numbers.{space_pages}
use Rattle.space_layout.specs.NumberedPages.{Numbered}
use Rattle.tree_layout.specs.Places.{is_leaf_row, segment_for, place_for, pages_above}
use Rattle.space_builder.specs.declared.tree_pages.TreeSpot.{TreeSpot}
use Rattle.space_builder.specs.declared.tree_plan.TreePlan.{TreePlan}
use Rattle.space_builder.specs.build.Puts.{CanPutAt}
use Rattle.space_builder.specs.calls.PutLaws.{PutLaws}
use Rattle.space_builder.specs.calls.TreePlan.{number_in, first_numbers, spot_in, IsPlan, HasPage, HasRoomFor}
use Rattle.space_builder.proofs.layout.Sizes.{size_small}
use Rattle.space_builder.proofs.Puts.{ArePut}
use Rattle.space_builder.proofs.LaidPages.{apart, can_put}

pub before_is : (plan : TreePlan) (l width k : ℕ) → 0 < k → k < width
    → before (first_numbers plan l width) k ≡ number_in plan l (k - 1)
before_is plan l width zero some inside = absurd (omega arith)
before_is plan l width (suc k) some inside =
    let back : suc k - 1 ≡ k = omega arith in
    get_or-map-range_with_len (number_in plan l) 0 width k k fil_null (omega arith) (omega arith)
    ∙ ap (number_in plan l) (sym back)

pub after_is : (plan : TreePlan) (l width k : ℕ) → k + 1 < width
    → after (first_numbers plan l width) k ≡ number_in plan l (k + 1)
after_is plan l width k inside =
    get_or-map-range_with_len (number_in plan l) 0 width (k + 1) (k + 1) fil_null inside (omega arith)

pub none_after : (plan : TreePlan) (l width k : ℕ) → width ≤ k + 1 → after (first_numbers plan l width) k ≡ fil_null
none_after plan l width k past =
    let size = length-map-range_with_len (number_in plan l) 0 width in
    get_or_past (first_numbers plan l width) (k + 1) fil_null (omega arith)

-- the spot of the last of some pages
pub spot_is : (plan : TreePlan) (l from n m : ℕ) (spot : TreeSpot) → spot ≡ spot_in plan from (n - 1) → from ≡ l → n ≡ m
    → spot ≡ spot_in plan l (m - 1)
spot_is plan l from n m spot made level count =
    made ∙ ap (λ l. spot_in plan l (n - 1)) level ∙ ap (λ n. spot_in plan l (n - 1)) count

-- a spot of the tree is one of the first 16 indexes, and its page may be put
pub spot_index : (plan : TreePlan) → IsPlan plan → (l k : ℕ) → (spot_in plan l k).index < 16
unfolding spot_in
spot_index plan is_plan l k = let index = is_plan.index in let few = is_plan.shape.few in omega arith

pub spot_below : {T : Type 0} (laws : PutLaws) (plan : TreePlan) (g : StoreOf T) (store : T) → IsPlan plan
    → HasRoomFor g store plan → (l k : ℕ) → HasPage plan l k → CanPutAt g store (spot_in plan l k).number
unfolding spot_in
spot_below laws plan g store is_plan room l k page = can_put laws plan is_plan g store l k room page

-- so many pages of a level come before it
pub page_low : (laws : PutLaws) (plan : TreePlan) → IsPlan plan → (l k : ℕ) → HasPage plan l k → k < 4294967296
page_low laws plan is_plan l k page =
    let small = size_small plan.sizes.now (segment_for plan.counts.now plan.index l) is_plan.shape.fits in
    let within = (apart laws plan is_plan).within l k page.inside page.within in
    let behind : k ≤ place_for plan.counts.now l k = elim (is_leaf_row plan.counts.now l)
    as (λ leaves. k ≤ cond leaves k (pages_above plan.counts.now l + k)) [ true ↦ omega arith | false ↦ omega arith ] in
    omega arith

-- a store that keeps its size keeps its room
pub room_kept : {T : Type 0} (g : StoreOf T) (plan : TreePlan) (old now : T) (pages : List Numbered)
    → ArePut g old now pages → HasRoomFor g old plan → HasRoomFor g now plan
room_kept g plan old now pages put room =
    subst (λ (size : Option ℕ). IfSome size (λ size. space_pages plan.sizes.now ≤ size)) (sym put.others.sizes.size)
    room
