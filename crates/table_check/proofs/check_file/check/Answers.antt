use Rattle.std.proofs.Common.{Ok, Err}
use Rattle.std.proofs.lemmas.Result.{err_from_is_err_and}
use Rattle.page_source.proofs.Told.{map_told}
use Rattle.table_check.specs.declared.table.Checked.{Checked}
use Rattle.table_check.proofs.Asked.{asks_at_most}
use Rattle.table_check.proofs.Validity.{tells_valid}
use Rattle.table_check.proofs.check_file.check.Goals as goal

pub returns-in_err-check_table-clause-valid : goal.returns-in_err-check_table-clause-valid
returns-in_err-check_table-clause-valid g c =
    let r = err_from_is_err_and c.from_residual.result c.from_residual.ensures.1 in
    rw (r.1, r.2)
    (map_told (g.S.PageSource.content c.args.source.now)
    (λ file at. tells_valid {A = Checked} c.checks_are_validity.ensures c.first_has_one_answer.ensures file
    c.args.schema.now (Err c.in_err-check_table.field-0.0) at)
    c.in_err-check_table.ensures.exact)

pub returns-clause-valid : goal.returns-clause-valid
returns-clause-valid g c =
    map_told (g.S.PageSource.content c.args.source.now)
    (λ file at. tells_valid c.checks_are_validity.ensures c.first_has_one_answer.ensures file c.args.schema.now
    (Ok c.in_ok-check_table.field-0) at)
    c.in_ok-check_table.ensures.exact

pub returns-in_err-check_table-clause-fetches : goal.returns-in_err-check_table-clause-fetches
returns-in_err-check_table-clause-fetches g c =
    asks_at_most c.check_table.new.source c.in_err-check_table.ensures.steps c.in_err-check_table.ensures.over.asked

pub returns-clause-fetches : goal.returns-clause-fetches
returns-clause-fetches g c =
    asks_at_most c.check_table.new.source c.in_ok-check_table.ensures.steps c.in_ok-check_table.ensures.over.asked
