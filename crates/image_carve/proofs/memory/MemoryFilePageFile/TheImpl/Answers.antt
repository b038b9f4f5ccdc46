use Rattle.std.proofs.Common.{◌≡◌, ℕ, List, Result, Ok, Err, Some, OnOk, OnErr, refl, ap}
use Rattle.std.specs.FinMap.{get, insert}
use Rattle.page_source.specs.Objects.{PageMap, HoldsPage, HoldsOthers}
use Rattle.image_carve.proofs.memory.MemoryFilePageFile.TheImpl.Goals as goal

holds_page : {E : Type 0} (old new : PageMap) (n : ℕ) (page : List ℕ) (result : Result (Unit {0}) E)
    → OnOk result (new ≡ insert old n page) → OnOk result (HoldsPage (Some old) (Some new) n page)
holds_page old new n page (Ok u) is = ap Some is
holds_page old new n page (Err e) is = tt

holds_others : {E : Type 0} (old new : PageMap) (n : ℕ) (result : Result (Unit {0}) E) → OnErr result (new ≡ old)
    → OnErr result (HoldsOthers (Some old) (Some new) n)
holds_others old new n (Ok u) is = tt
holds_others old new n (Err e) is = (new, refl, λ m other. ap (λ (held : PageMap). get held m) is)

pub put-tells : goal.put-tells
put-tells c = record {
  ok = holds_page c.args.self.now.held c.new.self.now.held c.args.n c.args.page.now c.result c.ensures.ok;
  failed = holds_others c.args.self.now.held c.new.self.now.held c.args.n c.result c.ensures.err;
  cause = c.ensures.cause;
}
