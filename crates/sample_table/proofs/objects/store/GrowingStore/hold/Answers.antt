use Rattle.std.proofs.Common.{◌∙◌, ap, ℕ}
use Rattle.std.proofs.lemmas.List.{length-replicate}
use Rattle.std.specs.FinMap.{insert}
use Rattle.std.proofs.Common.{length}
use Rattle.sample_table.proofs.MakingSteps.{copied}
use Rattle.sample_table.proofs.objects.store.GrowingStore.hold.Goals as goal

pub returns-clause-ok : goal.returns-clause-ok
returns-clause-ok c =
    c.in_ok-put.ensures.ok
    ∙ ap (insert c.args.self.now.held c.args.n)
    (copied c.in_ok-copy.copy c.put_bytes.new.self c.bytes.result.now c.args.page.now
    (ap length c.in_ok-copy.ensures ∙ length-replicate {A = ℕ} 16384 0) c.bytes.ensures.size c.put_bytes.ensures
    c.bytes.ensures.same)
