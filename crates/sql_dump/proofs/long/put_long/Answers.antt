use Rattle.std.proofs.lemmas.Result.{err_from_is_err_and}
use Rattle.page_source.proofs.Told.{if_told, map_told}
use Rattle.row_text.specs.Writer.{before_value}
use Rattle.sql_dump.proofs.Longs.{long_in_four, first_cut, second_cut, third_ends, last_cut, all_four}
use Rattle.sql_dump.proofs.SomeValues.{part_grows, grows_more, long_value}
use Rattle.sql_dump.proofs.long.put_long.Goals as goal

pub returns-in_err-start_long-clause-puts : goal.returns-in_err-start_long-clause-puts
returns-in_err-start_long-clause-puts g c =
    let r = err_from_is_err_and c.from_residual.result c.from_residual.ensures.1 in
    rw (r.1, r.2)
    (if_told (g.S.PageSource.content c.args.source.now)
    (λ file. first_cut (g.O.ByteSink.written c.args.sink.now) (g.O.ByteSink.written c.start_long.new.sink)
    (long_in_four file c.args.kind.now (before_value c.args.writer.now.came) c.parts_are_the_value.ensures.join
    c.local_parts-value.ensures)
    c.in_err-start_long.ensures.puts.failed))

pub returns-in_err-put_part-clause-puts : goal.returns-in_err-put_part-clause-puts
returns-in_err-put_part-clause-puts g c =
    let r = err_from_is_err_and c.from_residual-in_err-put_part.result c.from_residual-in_err-put_part.ensures.1 in
    rw (r.1, r.2)
    (if_told (g.S.PageSource.content c.args.source.now)
    (λ file. second_cut (g.O.ByteSink.written c.args.sink.now) (g.O.ByteSink.written c.start_long.new.sink)
    (g.O.ByteSink.written c.put_part.new.sink)
    (long_in_four file c.args.kind.now (before_value c.args.writer.now.came) c.parts_are_the_value.ensures.join
    c.local_parts-value.ensures)
    c.in_ok-start_long.ensures.puts.ok c.in_err-put_part.ensures.puts.failed))

pub returns-in_err-put_chain-clause-puts : goal.returns-in_err-put_chain-clause-puts
returns-in_err-put_chain-clause-puts g c =
    let r = err_from_is_err_and c.from_residual-in_err-put_chain.result c.from_residual-in_err-put_chain.ensures.1 in
    rw (r.1, r.2)
    (map_told (g.S.PageSource.content c.args.source.now)
    (λ file ends. third_ends (g.O.ByteSink.written c.args.sink.now) (g.O.ByteSink.written c.start_long.new.sink)
    (g.O.ByteSink.written c.put_part.new.sink) (g.O.ByteSink.written c.put_chain.new.sink)
    c.in_err-put_chain.field-0.0
    (long_in_four file c.args.kind.now (before_value c.args.writer.now.came) c.parts_are_the_value.ensures.join
    c.local_parts-value.ensures)
    c.in_ok-start_long.ensures.puts.ok c.in_ok-put_part.ensures.puts.ok ends)
    c.in_err-put_chain.ensures.puts)

pub returns-in_err-end_long-clause-puts : goal.returns-in_err-end_long-clause-puts
returns-in_err-end_long-clause-puts g c =
    let r = err_from_is_err_and c.from_residual-in_err-end_long.result c.from_residual-in_err-end_long.ensures.1 in
    rw (r.1, r.2)
    (map_told (g.S.PageSource.content c.args.source.now)
    (λ file chain. last_cut (g.O.ByteSink.written c.args.sink.now) (g.O.ByteSink.written c.start_long.new.sink)
    (g.O.ByteSink.written c.put_part.new.sink) (g.O.ByteSink.written c.put_chain.new.sink)
    (g.O.ByteSink.written c.end_long.new.sink)
    (long_in_four file c.args.kind.now (before_value c.args.writer.now.came) c.parts_are_the_value.ensures.join
    c.local_parts-value.ensures)
    c.in_ok-start_long.ensures.puts.ok c.in_ok-put_part.ensures.puts.ok chain c.in_err-end_long.ensures.puts.failed)
    c.in_ok-put_chain.ensures.puts)

pub returns-clause-puts : goal.returns-clause-puts
returns-clause-puts g c =
    map_told (g.S.PageSource.content c.args.source.now)
    (λ file chain. all_four (g.O.ByteSink.written c.args.sink.now) (g.O.ByteSink.written c.start_long.new.sink)
    (g.O.ByteSink.written c.put_part.new.sink) (g.O.ByteSink.written c.put_chain.new.sink)
    (g.O.ByteSink.written c.end_long.new.sink)
    (long_in_four file c.args.kind.now (before_value c.args.writer.now.came) c.parts_are_the_value.ensures.join
    c.local_parts-value.ensures)
    c.in_ok-start_long.ensures.puts.ok c.in_ok-put_part.ensures.puts.ok chain c.in_ok-end_long.ensures.puts.ok)
    c.in_ok-put_chain.ensures.puts

pub returns-in_err-start_long-clause-some : goal.returns-in_err-start_long-clause-some
returns-in_err-start_long-clause-some g c =
    let r = err_from_is_err_and c.from_residual.result c.from_residual.ensures.1 in
    rw r.1 (part_grows _ _ _ c.in_err-start_long.ensures.puts.failed)

pub returns-in_err-put_part-clause-some : goal.returns-in_err-put_part-clause-some
returns-in_err-put_part-clause-some g c =
    let r = err_from_is_err_and c.from_residual-in_err-put_part.result c.from_residual-in_err-put_part.ensures.1 in
    rw r.1
    (grows_more _ _ _ _ c.in_ok-start_long.ensures.puts.ok (part_grows _ _ _ c.in_err-put_part.ensures.puts.failed))

pub returns-in_err-put_chain-clause-some : goal.returns-in_err-put_chain-clause-some
returns-in_err-put_chain-clause-some g c =
    let r = err_from_is_err_and c.from_residual-in_err-put_chain.result c.from_residual-in_err-put_chain.ensures.1 in
    rw r.1
    (grows_more _ _ _ _ c.in_ok-start_long.ensures.puts.ok
    (grows_more _ _ _ _ c.in_ok-put_part.ensures.puts.ok c.in_err-put_chain.ensures.some))

pub returns-in_err-end_long-clause-some : goal.returns-in_err-end_long-clause-some
returns-in_err-end_long-clause-some g c =
    let chain = c.in_ok-put_chain.ensures.some in
    let r = err_from_is_err_and c.from_residual-in_err-end_long.result c.from_residual-in_err-end_long.ensures.1 in
    rw r.1
    (grows_more _ _ _ _ c.in_ok-start_long.ensures.puts.ok
    (grows_more _ _ _ _ c.in_ok-put_part.ensures.puts.ok
    (grows_more _ _ _ _ chain.2 (part_grows _ _ _ c.in_err-end_long.ensures.puts.failed))))

pub returns-clause-some : goal.returns-clause-some
returns-clause-some g c =
    long_value c.args.kind.now c.args.writer.now.came c.local_parts-value.result.reference.length
    c.local_parts-value.result.stated c.local_parts-value.result.front.now
    (g.O.ByteSink.written c.args.sink.now) (g.O.ByteSink.written c.start_long.new.sink)
    (g.O.ByteSink.written c.put_part.new.sink) (g.O.ByteSink.written c.put_chain.new.sink)
    (g.O.ByteSink.written c.end_long.new.sink) c.parts_are_the_value.ensures.join c.requires.long
    c.local_parts-value.ensures.stated_is c.in_ok-start_long.ensures.puts.ok c.in_ok-put_part.ensures.puts.ok
    c.in_ok-put_chain.ensures.some c.in_ok-end_long.ensures.puts.ok
