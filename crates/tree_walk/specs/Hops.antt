-- How a cursor goes from leaf to leaf, over any file (btr0cur).
use Rattle.std.specs.Prelude.{◌≡◌, ℕ, ◌+◌, ◌<◌, ◌≤◌, ◌⊎◌, ⊤, Bool, true, false, List, [], ◌∷◌, length, Result, Ok, Err}
use Rattle.page_source.specs.declared.checks.Halt.{Halt}
use Rattle.page_source.specs.declared.checks.Halt.TheVariants.{Broken, Source}
use Rattle.fil_frame.specs.Frame.{next_page}
use Rattle.index_page.specs.Header.{infimum}
use Rattle.tree_walk.specs.declared.leaves.leaf.Leaf.{Leaf}

-- the page to fetch next: the leftmost leaf before the first row, later the one that the leaf's next field leads to
abbrev pub IsDue : Leaf → ℕ → ℕ → Type 0
IsDue leaf last n = ((last < infimum) × (n ≡ leaf.number)) ⊎ ((infimum ≤ last) × (n ≡ next_page leaf.page))

-- at most one page was fetched, by this number
abbrev pub Hops : ℕ → Leaf → Leaf → Result Bool Halt → Type 0
Hops n old new (Ok true) = (new.number ≡ n) × (new.may_fetch + 1 ≡ old.may_fetch)
Hops n old new (Ok false) = new ≡ old
Hops n old new (Err (Broken fault)) = new ≡ old
Hops n old new (Err Source) = (new.number ≡ old.number) × (new.may_fetch + 1 ≡ old.may_fetch)

-- a page in hand, and its number
pub record HeldPage : Type 0 where
  pub number : ℕ
  pub page : List ℕ

abbrev pub held_by : Leaf → HeldPage
held_by leaf = record { number = leaf.number; page = leaf.page }

-- these pages came one after another: the first by this number, each other one by the next field of the one before
abbrev pub CameInTurn : ℕ → List HeldPage → Type 0
CameInTurn n [] = ⊤
CameInTurn n (held ∷ rest) = (held.number ≡ n) × CameInTurn (next_page held.page) rest

-- the last of the pages that came, or the one that was in hand before
abbrev pub last_held : HeldPage → List HeldPage → HeldPage
last_held before [] = before
last_held before (held ∷ rest) = last_held held rest

-- how many fetches failed
abbrev pub failures : {A : Type 0} → Result A Halt → ℕ
failures (Ok found) = 0
failures (Err (Broken fault)) = 0
failures (Err Source) = 1

-- leaves came in turn, the first by this number, and the last of them is in hand; after so many failures its bytes are
-- lost, and its number isn't
pub record HasComeBy (n : ℕ) (old new : Leaf) (failed : ℕ) : Type 0 where
  pub came : List HeldPage
  pub in_turn : CameInTurn n came
  pub number : new.number ≡ (last_held (held_by old) came).number
  pub page : failed ≡ 0 → new.page ≡ (last_held (held_by old) came).page
  pub fetches : new.may_fetch + length came + failed ≡ old.may_fetch

-- a call went on by next fields alone, whatever it answered
abbrev pub GoesByNextFields : {A : Type 0} → ℕ → Leaf → Leaf → Result A Halt → Type 0
GoesByNextFields n old new result = HasComeBy n old new (failures result)
