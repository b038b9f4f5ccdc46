-- How the room for one more record was made, or wasn't.
use Rattle.std.proofs.Common.{◌≡◌, ℕ, ◌-◌, Bool, true, false, List, [], ◌∷◌, length, Result, Err, IsErrAnd}
use Rattle.std.proofs.Common.{sym, ap, ◌∙◌, subst}
use Rattle.std.proofs.lemmas.Bool.{false≢true}
use Rattle.std.proofs.lemmas.Result.{err_from_is_err_and}
use Rattle.page_source.specs.declared.objects.PageStore.{Ghosts as StoreOf}
use Rattle.page_packer.specs.Packing.{Packing}
use Rattle.space_layout.specs.NumberedPages.{Numbered}
use Rattle.space_builder.specs.declared.built.PutStop.{PutStop}
use Rattle.space_builder.specs.declared.tree_pages.TreeSpot.{TreeSpot}
use Rattle.space_builder.specs.declared.tree_plan.TreePlan.{TreePlan}
use Rattle.space_builder.specs.layout.TreeSpot.{page_at_spot}
use Rattle.space_builder.specs.build.Puts.{PutsPages}
use Rattle.space_builder.specs.calls.TreePlan.{number_in, spot_in}
use Rattle.space_builder.specs.calls.MakesRoom.{TurnsPage, MakesRoom}

-- the page that is packed
abbrev pub open_page : TreePlan → ℕ → Packing → List ℕ → Numbered
open_page plan l packing starts =
    (number_in plan l (length starts - 1), page_at_spot packing (spot_in plan l (length starts - 1)))

-- it is put at its spot
pub put_at_spot : {T A : Type 0} (g : StoreOf T) (plan : TreePlan) (l : ℕ) (old new : T) (packing : Packing)
    (starts : List ℕ) (spot : TreeSpot) (result : Result A PutStop) → spot ≡ spot_in plan l (length starts - 1)
    → PutsPages g old new ((spot.number, page_at_spot packing spot) ∷ []) result
    → PutsPages g old new (open_page plan l packing starts ∷ []) result
unfolding spot_in
put_at_spot g plan l old new packing starts spot result is puts =
    subst (λ (spot : TreeSpot). PutsPages g old new ((spot.number, page_at_spot packing spot) ∷ []) result) is puts

-- it couldn't be put, or memory ran out behind it
pub turn_failed : {T : Type 0} (g : StoreOf T) (plan : TreePlan) (l k : ℕ) (old new : T) (packing next : Packing)
    (starts more : List ℕ) (result : Result (Unit {0}) PutStop) (stop : PutStop)
    → IsErrAnd result (λ found. found ≡ stop)
    → PutsPages {A = Unit {0}} g old new (open_page plan l packing starts ∷ []) (Err stop)
    → TurnsPage g plan l k old new packing next starts more result
turn_failed g plan l k old new packing next starts more result stop is puts =
    let r = err_from_is_err_and result is in
    subst (λ (result : Result (Unit {0}) PutStop). TurnsPage g plan l k old new packing next starts more result)
    (sym (r.1 ∙ ap (λ (stop : PutStop). Err stop) r.2)) record { puts = puts; packed = tt; begins = tt }

-- no room was made
pub room_failed : {T : Type 0} (g : StoreOf T) (plan : TreePlan) (l k : ℕ) (fits : Bool) (old new : T)
    (packing next : Packing) (starts more : List ℕ) (stop : PutStop)
    → MakesRoom g plan l k fits old new packing next starts more (Err stop)
    → PutsPages {A = Unit {0}} g old new (open_page plan l packing starts ∷ []) (Err stop)
room_failed g plan l k true old new packing next starts more stop made = absurd (false≢true made.ok)
room_failed g plan l k false old new packing next starts more stop made = made.puts
