use Rattle.std.proofs.Common.{◌≤◌, ◌+◌, List, Err, refl, sym, ap, subst, arith}
use Rattle.std.proofs.lemmas.Result.{err_from_is_err_and}
use Rattle.page_source.specs.Objects.{GrowsBy}
use Rattle.page_source.proofs.Told.{if_told, map_told, map_told2, map_told3}
use Rattle.column_values.specs.declared.value.Value.{Value}
use Rattle.column_values.specs.Types.{Fields}
use Rattle.row_text.specs.Line.{line_of}
use Rattle.schema_text.specs.TableDef.{TableDef}
use Rattle.schema_text.specs.IndexFields.{leaf_fields}
use Rattle.tree_walk.specs.Records.{IsRecord}
use Rattle.sql_dump.specs.Stops.{Writes}
use Rattle.sql_dump.specs.SomeRows.{GrowsByRows}
use Rattle.sql_dump.specs.Cells.{ReadsRow, CanReadRow, row_on}
use Rattle.key_lookup.proofs.GetSteps.{stopped, readable, written, cut_off, takes_fewer}
use Rattle.key_lookup.proofs.GetSteps.{not_refused, write_refused, over_stop, over_absent, over_cut, over_done}
use Rattle.key_lookup.proofs.by_key.get_by_key.Goals as goal

pub returns-in_err-found-clause-told : goal.returns-in_err-found-clause-told
returns-in_err-found-clause-told g c =
    let r = err_from_is_err_and c.from_residual.result c.from_residual.ensures.1 in
    rw (r.1, r.2) (map_told (g.S.PageSource.content c.args.source.now)
    (λ file x. stopped g.O.ByteSink file c.args.schema.now c.args.key.now c.in_err-found.field-0.0 c.args.sink.now x)
    c.in_err-found.ensures.exact)

pub returns-in_err-found-clause-over : goal.returns-in_err-found-clause-over
returns-in_err-found-clause-over g c =
    let r = err_from_is_err_and c.from_residual.result c.from_residual.ensures.1 in
    rw (r.1, r.2) (over_stop g.S.PageSource g.O.ByteSink c.args.source.now c.find_in_file.new.source
    c.find_in_file.new.source
    c.args.sink.now c.args.sink.now c.in_err-found.field-0.0 c.in_err-found.ensures.over)

pub returns-in_err-found-clause-knows : goal.returns-in_err-found-clause-knows
returns-in_err-found-clause-knows g c =
    let r = err_from_is_err_and c.from_residual.result c.from_residual.ensures.1 in
    rw (r.1, r.2) (not_refused c.in_err-found.field-0.0)

pub returns-in_err-found-clause-few : goal.returns-in_err-found-clause-few
returns-in_err-found-clause-few g c =
    map_told (g.S.PageSource.content c.args.source.now) (λ file few. omega (arith, few))
    c.find_in_file.ensures.steps_if_told

pub returns-in_err-found-clause-steps : goal.returns-in_err-found-clause-steps
returns-in_err-found-clause-steps g c = c.in_err-found.ensures.cost

pub returns-in_default-clause-told : goal.returns-in_default-clause-told
returns-in_default-clause-told g c =
    let found = rw c.in_default.is at c.in_ok-found.ensures.found in
    map_told2 (g.S.PageSource.content c.args.source.now)
    (λ file good none. record { good = good; none = none }) c.in_ok-found.ensures.exact found

pub returns-in_default-clause-over : goal.returns-in_default-clause-over
returns-in_default-clause-over g c =
    over_absent g.S.PageSource g.O.ByteSink c.args.source.now c.find_in_file.new.source c.find_in_file.new.source
    c.args.sink.now
    c.args.sink.now c.in_ok-found.found c.in_ok-found.ensures.over

pub returns-in_default-clause-few : goal.returns-in_default-clause-few
returns-in_default-clause-few g c =
    map_told (g.S.PageSource.content c.args.source.now) (λ file few. omega (arith, few))
    c.find_in_file.ensures.steps_if_told

pub returns-in_default-clause-steps : goal.returns-in_default-clause-steps
returns-in_default-clause-steps g c = c.in_ok-found.ensures.cost

pub write_row-requires-clause-record : goal.write_row-requires-clause-record
write_row-requires-clause-record g c =
    let is = rw c.in-Some.is at c.in_ok-found.ensures.readable in
    subst (λ (f : Fields). IsRecord c.find_in_file.new.room.walk.child f c.in-Some.found.origin)
    (ap (λ (t : TableDef). leaf_fields t 0) (sym c.in_ok-found.ensures.reader)) is

pub write_row-requires-clause-told : goal.write_row-requires-clause-told
write_row-requires-clause-told g c =
    let found = rw c.in-Some.is at c.in_ok-found.ensures.found in
    rw c.in_ok-found.ensures.over.same (map_told2 (g.S.PageSource.content c.args.source.now)
    (λ file good at. subst (λ (t : TableDef). CanReadRow file
    (row_on t c.find_in_file.new.room.walk.child c.in-Some.found.origin)
    c.in-Some.found.pages) (sym c.in_ok-found.ensures.reader)
    (readable file c.args.schema.now c.args.key.now c.requires.table good c.find_in_file.new.room.walk.child
    c.in-Some.found at)) c.in_ok-found.ensures.exact found)

pub returns-in_err-write_row-clause-told : goal.returns-in_err-write_row-clause-told
returns-in_err-write_row-clause-told g c =
    let r = err_from_is_err_and c.from_residual-in_err-write_row.result c.from_residual-in_err-write_row.ensures.1 in
    let found = rw c.in-Some.is at c.in_ok-found.ensures.found in
    let puts = rw c.in_ok-found.ensures.over.same at c.in_err-write_row.ensures.puts in
    rw (r.1, r.2) (map_told3 (g.S.PageSource.content c.args.source.now)
    (λ file good at puts. cut_off file c.args.schema.now c.args.key.now c.requires.table good
    c.find_in_file.new.room.walk.child c.in-Some.found at g.O.ByteSink c.args.sink.now c.write_row.new.sink
    c.in_err-write_row.field-0.0
    (subst (λ (t : TableDef). (row_values : List Value)
    → ReadsRow file (row_on t c.find_in_file.new.room.walk.child c.in-Some.found.origin) row_values
    → Writes {A = Unit {0}} (Err c.in_err-write_row.field-0.0) (g.O.ByteSink.written c.args.sink.now)
    (g.O.ByteSink.written c.write_row.new.sink) (line_of t row_values)) c.in_ok-found.ensures.reader puts))
    c.in_ok-found.ensures.exact found puts)

pub returns-in_err-write_row-clause-over : goal.returns-in_err-write_row-clause-over
returns-in_err-write_row-clause-over g c =
    let r = err_from_is_err_and c.from_residual-in_err-write_row.result c.from_residual-in_err-write_row.ensures.1 in
    rw (r.1, r.2) (over_cut g.S.PageSource g.O.ByteSink c.args.source.now c.find_in_file.new.source
    c.write_row.new.source
    c.args.sink.now c.write_row.new.sink c.in_ok-found.found c.in_err-write_row.field-0.0 c.in_ok-found.ensures.over
    c.in_err-write_row.ensures.over)

pub returns-in_err-write_row-clause-knows : goal.returns-in_err-write_row-clause-knows
returns-in_err-write_row-clause-knows g c =
    let r = err_from_is_err_and c.from_residual-in_err-write_row.result c.from_residual-in_err-write_row.ensures.1 in
    rw (r.1, r.2) (write_refused c.in_err-write_row.field-0.0)

pub returns-in_err-write_row-clause-few : goal.returns-in_err-write_row-clause-few
returns-in_err-write_row-clause-few g c =
    let found = rw c.in-Some.is at c.in_ok-found.ensures.found in
    map_told2 (g.S.PageSource.content c.args.source.now)
    (λ file few at. let p =
    at.pages in omega (arith, few, p, c.in_err-write_row.ensures.cost)) c.find_in_file.ensures.steps_if_told found

pub returns-in_err-write_row-clause-steps : goal.returns-in_err-write_row-clause-steps
returns-in_err-write_row-clause-steps g c =
    let few = rw c.in-Some.is at c.in_ok-found.ensures.few in
    let cost : c.write_row.new.steps ≤ c.find_in_file.new.steps + c.in-Some.found.pages =
    omega (arith, c.in_err-write_row.ensures.cost) in
    takes_fewer cost few

pub returns-clause-told : goal.returns-clause-told
returns-clause-told g c =
    let found = rw c.in-Some.is at c.in_ok-found.ensures.found in
    let puts = rw c.in_ok-found.ensures.over.same at c.in_ok-write_row.ensures.puts in
    map_told3 (g.S.PageSource.content c.args.source.now)
    (λ file good at puts. written file c.args.schema.now c.args.key.now c.requires.table good
    c.find_in_file.new.room.walk.child c.in-Some.found at g.O.ByteSink c.args.sink.now c.write_row.new.sink
    (subst (λ (t : TableDef). (row_values : List Value)
    → ReadsRow file (row_on t c.find_in_file.new.room.walk.child c.in-Some.found.origin) row_values
    → GrowsBy (g.O.ByteSink.written c.args.sink.now)
    (g.O.ByteSink.written c.write_row.new.sink) (line_of t row_values)) c.in_ok-found.ensures.reader puts) tt)
    c.in_ok-found.ensures.exact found puts

pub returns-clause-some : goal.returns-clause-some
returns-clause-some g c =
    subst (λ (t : TableDef). GrowsByRows t (g.O.ByteSink.written c.args.sink.now)
    (g.O.ByteSink.written c.write_row.new.sink) 1) c.in_ok-found.ensures.reader c.in_ok-write_row.ensures.some

pub returns-clause-over : goal.returns-clause-over
returns-clause-over g c =
    over_done g.S.PageSource g.O.ByteSink c.args.source.now c.find_in_file.new.source c.write_row.new.source
    c.args.sink.now c.write_row.new.sink c.in_ok-found.found tt c.in_ok-found.ensures.over
    c.in_ok-write_row.ensures.over

pub returns-clause-few : goal.returns-clause-few
returns-clause-few g c =
    let found = rw c.in-Some.is at c.in_ok-found.ensures.found in
    map_told2 (g.S.PageSource.content c.args.source.now)
    (λ file few at. let p = at.pages in omega (arith, few, p, c.in_ok-write_row.ensures.cost))
    c.find_in_file.ensures.steps_if_told found

pub returns-clause-steps : goal.returns-clause-steps
returns-clause-steps g c =
    let few = rw c.in-Some.is at c.in_ok-found.ensures.few in
    let cost : c.write_row.new.steps ≤ c.find_in_file.new.steps + c.in-Some.found.pages =
    omega (arith, c.in_ok-write_row.ensures.cost) in
    takes_fewer cost few
