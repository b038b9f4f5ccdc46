use Rattle.std.proofs.lemmas.Result.{err_from_is_err_and}
use Rattle.page_source.proofs.Told.{map_told, map_told2, map_told3}
use Rattle.sql_dump.proofs.Dumps.{checks_end, writing_ends, all_written, can_write}
use Rattle.sql_dump.proofs.dump_table.dump.Goals as goal

pub returns-in_err-table-clause-told : goal.returns-in_err-table-clause-told
returns-in_err-table-clause-told g c =
    let r = err_from_is_err_and c.from_residual.result c.from_residual.ensures.1 in
    rw (r.1, r.2)
    (map_told (g.S.PageSource.content c.args.source.now)
    (λ file first. checks_end g.O.ByteSink file c.args.schema.now c.in_err-table.field-0.0 c.args.sink.now
    c.schema_is_table.ensures c.checked_can_be_read.ensures first)
    c.in_err-table.ensures.exact)

pub put_rows-requires-clause-told : goal.put_rows-requires-clause-told
put_rows-requires-clause-told g c =
    rw (c.in_ok-table.ensures.over.same, c.in_ok-reader.ensures, c.in_ok-room.ensures)
    (map_told2 (g.S.PageSource.content c.args.source.now)
    (λ file first numbers. can_write file c.args.schema.now c.in_ok-table.table _ c.schema_is_table.ensures
    c.checked_can_be_read.ensures first
    numbers c.in_ok-rows.ensures.told)
    c.in_ok-table.ensures.exact c.in_ok-table.ensures.table)

pub returns-in_err-put_rows-clause-told : goal.returns-in_err-put_rows-clause-told
returns-in_err-put_rows-clause-told g c =
    let puts = rw (c.in_ok-table.ensures.over.same, c.in_ok-reader.ensures) at c.in_err-put_rows.ensures.puts in
    let r = err_from_is_err_and c.from_residual-in_err-put_rows.result c.from_residual-in_err-put_rows.ensures.1 in
    rw (r.1, r.2)
    (map_told2 (g.S.PageSource.content c.args.source.now)
    (λ file first puts. writing_ends g.O.ByteSink file c.args.schema.now c.in_err-put_rows.field-0.0
    c.args.sink.now c.put_rows.new.sink c.schema_is_table.ensures
    c.checked_can_be_read.ensures
    first puts)
    c.in_ok-table.ensures.exact puts)

pub returns-clause-told : goal.returns-clause-told
returns-clause-told g c =
    let puts = rw (c.in_ok-table.ensures.over.same, c.in_ok-reader.ensures) at c.in_ok-put_rows.ensures.puts in
    map_told3 (g.S.PageSource.content c.args.source.now)
    (λ file first numbers puts. all_written g.O.ByteSink file c.args.schema.now c.in_ok-table.table.checked
    c.args.sink.now c.put_rows.new.sink c.schema_is_table.ensures
    c.checked_can_be_read.ensures c.checks_are_validity.ensures
    first numbers.is_checked puts)
    c.in_ok-table.ensures.exact c.in_ok-table.ensures.table puts
