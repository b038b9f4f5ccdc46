use Rattle.std.proofs.Common.{◌≡◌, sym, ◌∙◌}
use Rattle.std.proofs.lemmas.Result.{err_from_is_err_and}
use Rattle.page_source.proofs.Told.{map_told, map_told2}
use Rattle.space_audit.proofs.AuditStages.{head_stops, space_answers, all_audited}
use Rattle.space_audit.proofs.audit_file.audit.Goals as goal

pub returns-in_err-header-clause-exact : goal.returns-in_err-header-clause-exact
returns-in_err-header-clause-exact g c =
    let r = err_from_is_err_and c.from_residual-in_err-header.result c.from_residual-in_err-header.ensures.1 in
    rw (r.1, r.2) (map_told (g.S.PageSource.content c.args.source.now)
    (λ file broken. head_stops file c.args.flags c.in_err-header.field-0.0 broken) c.in_err-header.ensures.exact)

pub returns-clause-exact : goal.returns-clause-exact
returns-clause-exact g c =
    let answer = rw c.in_ok-header.ensures.over.same at c.audit_space.ensures.exact in
    map_told2 (g.S.PageSource.content c.args.source.now) (λ file head found. space_answers file c.args.flags
    c.audit_space.result head found)
    c.in_ok-header.ensures.exact answer

pub returns-clause-audited : goal.returns-clause-audited
returns-clause-audited g c =
    let answer = rw c.in_ok-header.ensures.over.same at c.audit_space.ensures.exact in
    let space = rw c.in_ok-header.ensures.over.same at c.audit_space.ensures.audited in
    all_audited (g.S.PageSource.content c.args.source.now) c.args.flags c.audit_space.result
    c.in_ok-header.ensures.exact answer space
