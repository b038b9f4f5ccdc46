-- Room for one more record of a level: on the page where it fits, and else on the next one.
use Rattle.std.specs.Prelude.{◌≡◌, ℕ, ◌-◌, ◌<◌, ◌≤◌, Bool, true, false, List, [], ◌∷◌, ◌++◌, length, Result, IsOk, OnOk}
use Rattle.page_source.specs.declared.objects.PageStore.{Ghosts as StoreOf}
use Rattle.page_packer.specs.Packing.{Packing, none_packed}
use Rattle.space_builder.specs.declared.built.PutStop.{PutStop}
use Rattle.space_builder.specs.declared.tree_plan.TreePlan.{TreePlan}
use Rattle.space_builder.specs.layout.TreeSpot.{page_at_spot}
use Rattle.space_builder.specs.build.Puts.{PutsPages}
use Rattle.space_builder.specs.calls.TreePlan.{IsPlan, HasRoomFor, width_in, number_in, spot_in}

-- pages of this level may be put, of which the last begins with the last of these entries
pub record HasRoomHere {T : Type 0} (g : StoreOf T) (store : T) (plan : TreePlan) (l : ℕ) (starts : List ℕ)
    : Type 0 where
  pub is_plan : IsPlan plan
  pub room : HasRoomFor g store plan
  pub inside : l < length plan.counts.now
  pub some : 0 < length starts
  pub within : length starts ≤ width_in plan l

-- nothing changes
pub record GoesOnHere {T : Type 0} (old new : T) (packing next : Packing) (starts more : List ℕ)
    (result : Result (Unit {0}) PutStop) : Type 0 where
  pub ok : IsOk result
  pub store : new ≡ old
  pub packed : next ≡ packing
  pub begins : more ≡ starts

-- the page is put, and the next one begins with entry k
pub record TurnsPage {T : Type 0} (g : StoreOf T) (plan : TreePlan) (l k : ℕ) (old new : T) (packing next : Packing)
    (starts more : List ℕ) (result : Result (Unit {0}) PutStop) : Type 0 where
  pub puts : PutsPages g old new
      ((number_in plan l (length starts - 1), page_at_spot packing (spot_in plan l (length starts - 1))) ∷ []) result
  pub packed : OnOk result (next ≡ none_packed l)
  pub begins : OnOk result (more ≡ starts ++ k ∷ [])

-- nothing changes if the record fits; otherwise the page is put, and the next one begins with entry k
abbrev pub MakesRoom : {T : Type 0} → StoreOf T → TreePlan → ℕ → ℕ → Bool → T → T → Packing → Packing → List ℕ
    → List ℕ → Result (Unit {0}) PutStop → Type 0
MakesRoom g plan l k true old new packing next starts more result = GoesOnHere old new packing next starts more result
MakesRoom g plan l k false old new packing next starts more result =
    TurnsPage g plan l k old new packing next starts more result
