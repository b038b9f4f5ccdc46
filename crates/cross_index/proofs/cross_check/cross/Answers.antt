use Rattle.std.proofs.Common.{ℕ, arith}
use Rattle.std.proofs.lemmas.Result.{err_from_is_err_and}
use Rattle.page_source.proofs.Told.{map_told}
use Rattle.cross_index.proofs.AllSteps.{all_cost, takes_steps}
use Rattle.cross_index.specs.declared.crossed.Crossed.{Crossed}
use Rattle.cross_index.specs.declared.gathered.Gathered.{Gathered}
use Rattle.cross_index.specs.Cross.{IsSecondary}
use Rattle.cross_index.proofs.Named.{checks_name, pass_names, names_again}
use Rattle.table_check.proofs.Asked.{asks_at_most}
use Rattle.cross_index.proofs.cross_check.cross.Goals as goal

pub returns-in_err-entries-clause-steps : goal.returns-in_err-entries-clause-steps
returns-in_err-entries-clause-steps g c =
    let whole = c.in_ok-whole.ensures in
    takes_steps
    (map_told (g.S.PageSource.content c.args.source.now) (λ file is. is.checked.within) whole.whole) whole.leaves.pages
    (all_cost c.in_ok-whole.whole.ends c.items.result.now _ c.args.steps.now c.check_whole.new.steps c.gather.new.steps
    c.compare_indexes.new.steps c.in_ok-whole.whole.table.checked.pages c.in_ok-whole.whole.table.chain_pages
    c.items.ensures (omega (arith, whole.count, c.indexes.ensures.table.clustered)) whole.leaves.rows
    c.in_ok-found.ensures.cost c.in_err-entries.ensures.cost)

pub returns-clause-steps : goal.returns-clause-steps
returns-clause-steps g c =
    let whole = c.in_ok-whole.ensures in
    takes_steps
    (map_told (g.S.PageSource.content c.args.source.now) (λ file is. is.checked.within) whole.whole) whole.leaves.pages
    (all_cost c.in_ok-whole.whole.ends c.items.result.now _ c.args.steps.now c.check_whole.new.steps c.gather.new.steps
    c.compare_indexes.new.steps c.in_ok-whole.whole.table.checked.pages c.in_ok-whole.whole.table.chain_pages
    c.items.ensures (omega (arith, whole.count, c.indexes.ensures.table.clustered)) whole.leaves.rows
    c.in_ok-found.ensures.cost c.in_ok-entries.ensures.cost)

pub returns-clause-sized : goal.returns-clause-sized
returns-clause-sized g c =
    let whole = c.in_ok-whole.ensures in
    let cost = all_cost c.in_ok-whole.whole.ends c.items.result.now _ c.args.steps.now c.check_whole.new.steps
    c.gather.new.steps c.compare_indexes.new.steps c.in_ok-whole.whole.table.checked.pages
    c.in_ok-whole.whole.table.chain_pages c.items.ensures
    (omega (arith, whole.count, c.indexes.ensures.table.clustered)) whole.leaves.rows c.in_ok-found.ensures.cost
    c.in_ok-entries.ensures.cost in
    map_told (g.S.PageSource.content c.args.source.now)
    (λ file is. omega (arith, cost, is.checked.is_checked.has_pages)) whole.whole

pub returns-in_err-entries-clause-fetches : goal.returns-in_err-entries-clause-fetches
returns-in_err-entries-clause-fetches g c =
    asks_at_most c.compare_indexes.new.source (returns-in_err-entries-clause-steps g c)
    (omega (
      arith,
      c.in_ok-whole.ensures.over.asked,
      c.in_ok-found.ensures.over.asked,
      c.in_err-entries.ensures.over.asked,
    ))

pub returns-clause-fetches : goal.returns-clause-fetches
returns-clause-fetches g c =
    asks_at_most c.compare_indexes.new.source (returns-clause-steps g c)
    (omega (
      arith,
      c.in_ok-whole.ensures.over.asked,
      c.in_ok-found.ensures.over.asked,
      c.in_ok-entries.ensures.over.asked,
    ))

pub returns-in_err-whole-clause-named : goal.returns-in_err-whole-clause-named
returns-in_err-whole-clause-named g c =
    let r = err_from_is_err_and c.from_residual.result c.from_residual.ensures.1 in
    rw (r.1, r.2) (checks_name (IsSecondary c.args.schema.now) Crossed c.in_err-whole.field-0.0)

pub returns-in_err-found-clause-named : goal.returns-in_err-found-clause-named
returns-in_err-found-clause-named g c =
    let r = err_from_is_err_and c.from_residual-in_err-found.result c.from_residual-in_err-found.ensures.1 in
    rw (r.1, r.2)
    (pass_names (IsSecondary c.args.schema.now) Gathered Crossed c.in_err-found.field-0.0
    c.in_err-found.ensures.broken)

pub returns-in_err-entries-clause-named : goal.returns-in_err-entries-clause-named
returns-in_err-entries-clause-named g c =
    let r = err_from_is_err_and c.from_residual-in_err-entries.result c.from_residual-in_err-entries.ensures.1 in
    rw (r.1, r.2)
    (names_again (IsSecondary c.args.schema.now) ℕ Crossed c.in_err-entries.field-0.0 c.in_err-entries.ensures.named)
