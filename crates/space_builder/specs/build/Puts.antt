-- What is written where pages are put into a store.
use Rattle.std.specs.Prelude.{◌≡◌, ℕ, ◌≤◌, List, map, All, Contains, Some, IfSome, Result, OnOk, Err}
use Rattle.std.specs.FinMap.{get}
use Rattle.page_source.specs.declared.objects.PageStore.{Ghosts as StoreOf}
use Rattle.page_source.specs.Faults.{Rose}
use Rattle.page_source.specs.Objects.{PageMap, CanPut}
use Rattle.offpage_chain.specs.Writing.{KeepsAllBut}
use Rattle.space_layout.specs.NumberedPages.{Numbered}
use Rattle.space_builder.specs.declared.built.PutStop.{PutStop}
use Rattle.space_builder.specs.declared.built.PutStop.TheVariants as stops

-- the numbers of some pages
abbrev pub numbers_of : List Numbered → List ℕ
numbers_of pages = map (λ (entry : Numbered). entry.0) pages

-- the map holds the page at its number
abbrev pub IsHeld : PageMap → Numbered → Type 0
IsHeld held entry = get held entry.0 ≡ Some entry.1

-- pages with one number are one page
abbrev pub HaveOnePage : List Numbered → Type 0
HaveOnePage pages = (a b : Numbered) → Contains pages a → Contains pages b → a.0 ≡ b.0 → a ≡ b

-- page n lies below the size that the store tells
abbrev pub CanPutAt : {T : Type 0} → StoreOf T → T → ℕ → Type 0
CanPutAt g store n = CanPut (g.told store) n

-- all of these pages are held, and nothing else changed; or one couldn't be put or memory ran out, and nothing is said
-- of these pages; the store is blamed only where its count of faults rose
pub record PutsPages {T A : Type 0} (g : StoreOf T) (old new : T) (pages : List Numbered) (result : Result A PutStop)
    : Type 0 where
  pub held : OnOk result (IfSome (g.told new).held (λ held. All (IsHeld held) pages))
  pub others : KeepsAllBut (numbers_of pages) (g.told old) (g.told new)
  pub later : g.faults old ≤ g.faults new
  pub store_rose : result ≡ Err stops.Store → Rose (g.faults old) (g.faults new)
