use Rattle.std.proofs.Common.{◌≡◌, ◌≤◌, ℕ, ◌+◌, ◌*◌, length, List, IfOk, sym, ◌∙◌, ap, arith}
use Rattle.space_audit.specs.Lists.{HomesView, AreHomes}
use Rattle.space_audit.specs.Read.{IsRead}
use Rattle.space_audit.proofs.AuditStages.{if_ok, ids_are}
use Rattle.space_audit.proofs.audit_file.read_homes.Goals as goal

pub returns-clause-told : goal.returns-clause-told
returns-clause-told c =
    if_ok c.of.result (λ homes same file h.
    let uses = c.in_ok-uses.ensures.told file h.extents_are in
    let ids = ids_are file c.args.inodes.now c.in_ok-ids.ids h.inodes_are c.in_ok-ids.ensures.ids in
    record {
      numbers_are = ap (λ (x : HomesView). x.numbers) same
          ∙ c.in_ok-numbers.ensures.told file h.extents_are (c.deref.ensures.value ∙ uses) ids;
      uses_are = ap (λ (x : HomesView). x.uses) same ∙ uses;
      lists_are = ap (λ (x : HomesView). x.lists) same
          ∙ ap (λ k. 3 + 3 * k) (c.count.ensures.count ∙ ap length h.inodes_are.places);
    }) c.of.ensures
