use Rattle.std.proofs.lemmas.Result.{err_from_is_err_and}
use Rattle.page_source.proofs.Told.{map_told, map_told2}
use Rattle.row_text.specs.Line.{line_of}
use Rattle.sql_dump.proofs.Sends.{keep_ends, flush_ends, flushed_line}
use Rattle.sql_dump.proofs.SomeRows.{moves_kept, moves_flushed}
use Rattle.sql_dump.proofs.line.put_line.Goals as goal

pub returns-in_err-keep_line-clause-moves : goal.returns-in_err-keep_line-clause-moves
returns-in_err-keep_line-clause-moves g c =
    let r = err_from_is_err_and c.from_residual-in_err-keep_line.result c.from_residual-in_err-keep_line.ensures.1 in
    rw (r.1, r.2)
    (map_told (g.S.PageSource.content c.args.source.now)
    (λ file keeps row reads. keep_ends (g.O.ByteSink.written c.args.sink.now) (g.O.ByteSink.written
    c.make_room.new.sink) c.args.buffer.now.bytes c.make_room.new.buffer.bytes c.keep_line.new.buffer.bytes (line_of
    c.args.row.now.row.table row) c.in_err-keep_line.field-0.0
    c.in_ok-make_room.ensures.sent (keeps row reads))
    c.in_err-keep_line.ensures.keeps)

pub returns-in_err-flush-clause-moves : goal.returns-in_err-flush-clause-moves
returns-in_err-flush-clause-moves g c =
    let keeps = rw c.if-branch.false at c.in_ok-keep_line.ensures.keeps in
    let r = err_from_is_err_and c.from_residual-in_err-flush.result c.from_residual-in_err-flush.ensures.1 in
    rw (r.1, r.2)
    (map_told (g.S.PageSource.content c.args.source.now)
    (λ file keeps row reads. flush_ends (g.O.ByteSink.written c.args.sink.now) (g.O.ByteSink.written
    c.make_room.new.sink) (g.O.ByteSink.written c.flush.new.sink) c.args.buffer.now.bytes
    c.make_room.new.buffer.bytes c.keep_line.new.buffer.bytes c.flush.new.self.bytes
    (line_of c.args.row.now.row.table row)
    c.in_ok-make_room.ensures.sent (keeps row reads) c.in_err-flush.ensures.puts.failed)
    keeps)

pub returns-clause-moves : goal.returns-clause-moves
returns-clause-moves g c =
    let keeps = rw c.if-branch.false at c.in_ok-keep_line.ensures.keeps in
    let puts = rw c.in_ok-keep_line.ensures.same at c.put_row.ensures.puts in
    map_told2 (g.S.PageSource.content c.args.source.now)
    (λ file keeps puts row reads. flushed_line (g.O.ByteSink.written c.args.sink.now) (g.O.ByteSink.written
    c.make_room.new.sink) (g.O.ByteSink.written c.flush.new.sink) (g.O.ByteSink.written c.put_row.new.sink)
    c.args.buffer.now.bytes c.make_room.new.buffer.bytes c.keep_line.new.buffer.bytes c.flush.new.self.bytes (line_of
    c.args.row.now.row.table row)
    c.put_row.result c.in_ok-make_room.ensures.sent (keeps row reads) c.in_ok-flush.ensures.puts.ok
    c.in_ok-flush.ensures.empty (puts row reads))
    keeps puts

pub returns-clause-some : goal.returns-clause-some
returns-clause-some g c =
    let keeps = rw c.if-branch.false at c.in_ok-keep_line.ensures.some in
    moves_flushed c.args.row.now.row.table (g.O.ByteSink.written c.args.sink.now) (g.O.ByteSink.written
    c.make_room.new.sink) (g.O.ByteSink.written c.flush.new.sink) (g.O.ByteSink.written c.put_row.new.sink)
    c.args.buffer.now.bytes c.make_room.new.buffer.bytes c.keep_line.new.buffer.bytes c.flush.new.self.bytes
    c.put_row.result c.in_ok-make_room.ensures.sent keeps c.in_ok-flush.ensures.puts.ok c.in_ok-flush.ensures.empty
    c.put_row.ensures.some

pub returns-then-branch-clause-some : goal.returns-then-branch-clause-some
returns-then-branch-clause-some g c =
    let keeps = rw c.if-branch.true at c.in_ok-keep_line.ensures.some in
    moves_kept c.args.row.now.row.table (g.O.ByteSink.written c.args.sink.now) (g.O.ByteSink.written
    c.make_room.new.sink) c.args.buffer.now.bytes c.make_room.new.buffer.bytes c.keep_line.new.buffer.bytes
    c.in_ok-make_room.ensures.sent keeps
