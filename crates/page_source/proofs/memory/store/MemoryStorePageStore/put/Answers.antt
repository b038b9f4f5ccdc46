use Rattle.std.proofs.Common.{ℕ, List, Option, Result, Ok, Err, Some, IsErr, refl}
use Rattle.page_source.specs.Objects.{PageMap, Store, PutsPage}
use Rattle.page_source.proofs.memory.store.MemoryStorePageStore.put.Goals as goal

-- a put that failed and changed nothing that the store tells
kept : {E : Type 0} (size : Option ℕ) (held : PageMap) (asked : Option (Option ℕ)) (n : ℕ) (page : List ℕ)
    (result : Result (Unit {0}) E) → IsErr result
    → (let store : Store = record { size = size; held = Some held; asked = asked } in
    PutsPage store store n page result)
kept size held asked n page (Ok u) failed = cc
kept size held asked n page (Err e) failed = (record { size = refl; asked = refl }, (held, refl, λ m other. refl))

pub returns-in_err-next-clause-done : goal.returns-in_err-next-clause-done
returns-in_err-next-clause-done c = rw (← c.self.view_is) (kept _ _ _ _ _ _ c.from_residual.ensures.0)
