use Rattle.std.proofs.Common.{ℕ, List, Result, Ok, Err, None, OnOk, OnErr, refl}
use Rattle.page_source.specs.Objects.{HoldsPage, HoldsOthers}
use Rattle.image_carve.proofs.file.FileStorePageFile.TheImpl.Goals as goal

-- a file that tells nothing stays so, whatever the answer
any_page : {E : Type 0} (n : ℕ) (page : List ℕ) (result : Result (Unit {0}) E)
    → OnOk result (HoldsPage None None n page)
any_page n page (Ok u) = refl
any_page n page (Err e) = tt

any_others : {E : Type 0} (n : ℕ) (result : Result (Unit {0}) E) → OnErr result (HoldsOthers None None n)
any_others n (Ok u) = tt
any_others n (Err e) = refl

pub put-tells : goal.put-tells
put-tells g c = record {
  ok = any_page c.args.n c.args.page.now c.result;
  failed = any_others c.args.n c.result;
  cause = c.ensures.cause;
}
