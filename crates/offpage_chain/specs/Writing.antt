-- What is written where a value is put into a store.
use Rattle.std.specs.Prelude.{◌≡◌, ℕ, ◌<◌, List, length, slice_index, Contains, All, Option, Some, None, IfSome}
use Rattle.std.specs.Prelude.{Result, OnOk}
use Rattle.std.specs.FinMap.{get}
use Rattle.page_source.specs.declared.objects.PageStore.{Ghosts as StoreOf}
use Rattle.page_source.specs.Faults.{HasCause}
use Rattle.page_source.specs.Objects.{PageMap, Store, KeepsSizes}
use Rattle.offpage_chain.specs.ValuePage.{value_page}

-- these pages lie below the size that the store tells
abbrev pub AreBelow : {T : Type 0} → StoreOf T → T → List ℕ → Type 0
AreBelow g store numbers = IfSome (g.told store).size (λ size. All (λ n. n < size) numbers)

-- the first parts of the value, so many, are held on their pages
abbrev pub HoldsParts : PageMap → ℕ → List ℕ → List ℕ → ℕ → Type 0
HoldsParts held space numbers bytes count =
    (k : ℕ) → k < count → get held (slice_index numbers k) ≡ Some (value_page space numbers bytes k)

-- at each number but these the map holds what it held
abbrev pub HoldsAllBut : List ℕ → Option PageMap → Option PageMap → Type 0
HoldsAllBut numbers None new = new ≡ None
HoldsAllBut numbers (Some old) new =
    (now : PageMap) × (new ≡ Some now) × ((m : ℕ) → ¬ (Contains numbers m) → get now m ≡ get old m)

-- the sizes are as before, and so is each page but these
pub record KeepsAllBut (numbers : List ℕ) (old new : Store) : Type 0 where
  pub sizes : KeepsSizes old new
  pub others : HoldsAllBut numbers old.held new.held

-- all parts of the value are held on these pages, and nothing else changed; or a part couldn't be put, and nothing is
-- said of these pages
pub record WritesValue {T E : Type 0} (g : StoreOf T) (old new : T) (space : ℕ) (numbers bytes : List ℕ)
    (result : Result (Unit {0}) E) : Type 0 where
  pub held : OnOk result (IfSome (g.told new).held (λ held. HoldsParts held space numbers bytes (length numbers)))
  pub others : KeepsAllBut numbers (g.told old) (g.told new)
  pub cause : HasCause (g.faults old) (g.faults new) result
