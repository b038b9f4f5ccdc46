use Rattle.std.proofs.Common.{ℕ}
use Rattle.std.proofs.lemmas.Result.{err_from_is_err_and}
use Rattle.cross_index.specs.declared.gathered.Gathered.{Gathered}
use Rattle.cross_index.proofs.Named.{reading_names}
use Rattle.cross_index.proofs.gathered.gather.Goals as goal

pub returns-in_err-count-clause-broken : goal.returns-in_err-count-clause-broken
returns-in_err-count-clause-broken g c =
    let r = err_from_is_err_and c.from_residual-in_err-count.result c.from_residual-in_err-count.ensures.1 in
    rw (r.1, r.2) (reading_names ℕ Gathered c.gather_rows.new.rows c.in_err-count.field-0.0
    c.in_err-count.ensures.broken)
