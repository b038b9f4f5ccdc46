use Rattle.std.proofs.Common.{◌≤◌, ◌+◌, subst, arith}
use Rattle.std.proofs.lemmas.Result.{err_from_is_err_and}
use Rattle.page_source.proofs.Told.{if_told, map_told}
use Rattle.column_values.specs.Order.{Key}
use Rattle.table_check.proofs.Asked.{asks_at_most}
use Rattle.key_lookup.specs.Get.{steps_for}
use Rattle.key_lookup.proofs.GetKey.{gets_of, gets_none, touches_nothing, over_no_key, no_key, no_steps}
use Rattle.key_lookup.proofs.by_key.get.Goals as goal

pub returns-in_err-sought-clause-told : goal.returns-in_err-sought-clause-told
returns-in_err-sought-clause-told g c =
    let r = err_from_is_err_and c.from_residual.result c.from_residual.ensures.1 in
    rw (r.1, r.2) (if_told (g.S.PageSource.content c.args.source.now)
    (λ file. gets_none g.O.ByteSink file c.args.schema.now c.args.key.now c.in_err-sought.field-0.0 c.args.sink.now
    c.in_err-sought.ensures.found))

pub returns-in_err-sought-clause-first : goal.returns-in_err-sought-clause-first
returns-in_err-sought-clause-first g c =
    let r = err_from_is_err_and c.from_residual.result c.from_residual.ensures.1 in
    rw (r.1, r.2) (λ none. touches_nothing c.args.source.now c.args.sink.now c.args.steps.now c.in_err-sought.field-0.0)

pub returns-in_err-sought-clause-over : goal.returns-in_err-sought-clause-over
returns-in_err-sought-clause-over g c =
    let r = err_from_is_err_and c.from_residual.result c.from_residual.ensures.1 in
    rw (r.1, r.2) (over_no_key g.S.PageSource g.O.ByteSink c.args.source.now c.args.sink.now c.args.steps.now
    c.in_err-sought.field-0.0)

pub returns-in_err-sought-clause-few : goal.returns-in_err-sought-clause-few
returns-in_err-sought-clause-few g c =
    if_told (g.S.PageSource.content c.args.source.now) (λ file sought spells. omega arith)

pub returns-in_err-sought-clause-steps : goal.returns-in_err-sought-clause-steps
returns-in_err-sought-clause-steps g c = no_steps g.S.PageSource c.args.source.now c.args.steps.now

pub returns-in_err-sought-clause-fetches : goal.returns-in_err-sought-clause-fetches
returns-in_err-sought-clause-fetches g c =
    no_steps g.S.PageSource c.args.source.now (g.S.PageSource.fetches c.args.source.now)

pub returns-clause-told : goal.returns-clause-told
returns-clause-told g c =
    map_told (g.S.PageSource.content c.args.source.now)
    (λ file x. gets_of g.O.ByteSink file c.args.schema.now c.args.key.now c.in_ok-sought.sought c.get_by_key.result
    c.args.sink.now c.get_by_key.new.sink c.in_ok-sought.ensures.found x) c.get_by_key.ensures.told

pub returns-in_err-sought-clause-refused : goal.returns-in_err-sought-clause-refused
returns-in_err-sought-clause-refused g c =
    let r = err_from_is_err_and c.from_residual.result c.from_residual.ensures.1 in
    rw (r.1, r.2) (no_key c.args.schema.now c.args.key.now c.in_err-sought.field-0.0 c.in_err-sought.ensures.found)

pub returns-clause-refused : goal.returns-clause-refused
returns-clause-refused g c = λ e. absurd (c.get_by_key.ensures.knows e)

pub returns-clause-first : goal.returns-clause-first
returns-clause-first g c = λ none. absurd (none c.in_ok-sought.sought c.in_ok-sought.ensures.found)

pub returns-clause-few : goal.returns-clause-few
returns-clause-few g c =
    map_told (g.S.PageSource.content c.args.source.now)
    (λ file few sought spells.
    let same = c.text_spells_one_key.ensures c.args.schema.now c.args.key.now c.in_ok-sought.sought sought
    c.schema_is_table.ensures c.in_ok-sought.ensures.found spells in
    subst (λ (key : Key). c.get_by_key.new.steps ≤ c.args.steps.now + steps_for file c.args.schema.now key) same few)
    c.get_by_key.ensures.few

pub returns-clause-fetches : goal.returns-clause-fetches
returns-clause-fetches g c =
    asks_at_most c.get_by_key.new.source c.get_by_key.ensures.steps c.get_by_key.ensures.over.asked
