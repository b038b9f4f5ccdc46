use Rattle.std.proofs.Common.{ap, refl, Some}
use Rattle.std.specs.FinMap.{get}
use Rattle.page_source.specs.Objects.{PageMap}
use Rattle.sample_table.proofs.objects.store.GrowingStorePageStore.put.Goals as goal

pub returns-in-Err-clause-done : goal.returns-in-Err-clause-done
returns-in-Err-clause-done c = (
  record { size = ap Some c.hold.ensures.sizes.0; asked = ap Some c.hold.ensures.sizes.1 },
  (c.hold.new.self.held, refl, λ m other. ap (λ (held : PageMap). get held m) c.in-Err.ensures.err),
)
