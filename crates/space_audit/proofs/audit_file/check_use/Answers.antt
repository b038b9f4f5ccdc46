use Rattle.std.proofs.Common.{◌≡◌, ◌≤◌, length, sym, ◌∙◌, ap, arith}
use Rattle.std.proofs.lemmas.Result.{err_from_is_err_and}
use Rattle.space_audit.specs.Holders.{IsHeld}
use Rattle.space_audit.proofs.AuditStages.{head_size, slots_find, counts_find, holders_find}
use Rattle.space_audit.proofs.audit_file.check_use.Goals as goal

pub returns-in_err-claim_segments-clause-exact : goal.returns-in_err-claim_segments-clause-exact
returns-in_err-claim_segments-clause-exact c = λ file h are head.
    let r = err_from_is_err_and c.from_residual.result c.from_residual.ensures.1 in
    rw (r.1, r.2) (slots_find file _ (c.in_err-claim_segments.ensures.exact file h
    (head_size file c.args.header.now head)))

pub returns-in_err-check_counts-clause-exact : goal.returns-in_err-check_counts-clause-exact
returns-in_err-check_counts-clause-exact c = λ file h are head.
    let r = err_from_is_err_and c.from_residual-in_err-check_counts.result
    c.from_residual-in_err-check_counts.ensures.1 in
    rw (r.1, r.2) (counts_find file _ (c.in_ok-claim_segments.ensures.exact file h
    (head_size file c.args.header.now head))
    (c.in_err-check_counts.ensures file c.args.extents.now h are head))

pub returns-clause-exact : goal.returns-clause-exact
returns-clause-exact c = λ file h are head.
    let size = head_size file c.args.header.now head in
    let held : IsHeld file c.args.extents.now c.claim_segments.new.holders = record {
      extents_are = h.extents_are;
      extents_sound = h.extents_sound;
      size_is = omega (arith, c.claim_segments.auto.holders, c.requires.size, size);
      few = omega (arith, c.requires.few, ap length h.inodes_are.places);
      held = c.in_ok-claim_segments.ensures.held file h c.requires.first;
    } in
    holders_find file c.check_holders.result (c.in_ok-claim_segments.ensures.exact file h size)
    (c.in_ok-check_counts.ensures file c.args.extents.now h are head) (c.check_holders.ensures file held)
