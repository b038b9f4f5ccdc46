use Rattle.std.specs.Bool.{⊤}
use Rattle.std.proofs.Common.{Result, Ok, Err, IfOk, OnOk, refl}
use Rattle.case_files.proofs.pages.CasePagesPageSource.TheImpl.Goals as goal

-- of a file that tells nothing each answer is right
any_count : {A E : Type 0} (result : Result A E) → IfOk result (λ n. ⊤)
any_count (Ok n) = tt
any_count (Err e) = tt

any_bytes : {A E : Type 0} (result : Result A E) → OnOk result ⊤
any_bytes (Ok u) = tt
any_bytes (Err e) = tt

pub pages-tells : goal.pages-tells
pages-tells g c = record { same = refl; count = any_count c.result; cause = c.ensures.cause; asked = c.ensures.asked }

pub fetch-tells : goal.fetch-tells
fetch-tells g c = record {
  same = refl;
  bytes = any_bytes c.result;
  step = c.ensures.step;
  cause = c.ensures.cause;
  asked = c.ensures.asked;
}
