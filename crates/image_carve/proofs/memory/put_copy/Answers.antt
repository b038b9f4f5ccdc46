use Rattle.std.proofs.Common.{◌≡◌, List, ℕ, length, ap, ◌∙◌, subst, OnOk, arith}
use Rattle.std.specs.FinMap.{insert}
use Rattle.page_scan.proofs.Pages.{with_all}
use Rattle.image_carve.proofs.memory.put_copy.Goals as goal

pub returns-clause-ok : goal.returns-clause-ok
returns-clause-ok c =
    let copy = c.in_ok-copy.copy in
    let whole : length copy ≡ 16384 = omega (arith, c.bytes.ensures.size, ap length c.bytes.ensures.same) in
    let same : c.put_bytes.new.self ≡ c.args.page.now =
    c.put_bytes.ensures ∙ with_all copy c.bytes-2.result.now whole c.bytes-2.ensures.size ∙ c.bytes-2.ensures.same in
    subst (λ (p : List ℕ). OnOk c.put.result (c.put.new.self ≡ insert c.args.pages.now c.args.n p)) same
    c.put.ensures.ok
