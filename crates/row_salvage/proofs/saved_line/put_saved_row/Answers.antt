use Rattle.std.proofs.Common.{◌≡◌, true, ℕ, List, sym, ◌∙◌, subst, arith}
use Rattle.page_source.proofs.Told.{map_told}
use Rattle.sql_dump.specs.Buffer.{Moves}
use Rattle.salvage_model.specs.SavedRow.{is_whole_row}
use Rattle.row_salvage.proofs.WholeLine.{whole_pages, whole_reads, whole_line, line_after, ok_more}
use Rattle.row_salvage.proofs.saved_line.put_saved_row.Goals as goal

pub put_line-requires : goal.put_line-requires
put_line-requires g c =
    let row = c.args.row.now.row in
    let losses = c.args.losses.now in
    let whole : is_whole_row losses ≡ true = sym c.is_whole.ensures ∙ c.if-is_whole.true in
    record {
      told = map_told (g.S.PageSource.content c.args.source.now)
          (λ file can. whole_reads c.whole_rows_are_read.ensures file row losses c.args.room.now.left whole can)
          c.requires.told;
    }

pub returns-then-is_whole-clause-moves : goal.returns-then-is_whole-clause-moves
returns-then-is_whole-clause-moves g c =
    let row = c.args.row.now.row in
    let losses = c.args.losses.now in
    let whole : is_whole_row losses ≡ true = sym c.is_whole.ensures ∙ c.if-is_whole.true in
    map_told (g.S.PageSource.content c.args.source.now)
    (λ file moves row_values saves.
    let read = c.whole_rows_are_read.ensures file row losses row_values whole saves in
    subst (λ (line : List ℕ). Moves c.put_line.result (g.O.ByteSink.written c.args.sink.now)
    (g.O.ByteSink.written c.put_line.new.sink) c.args.buffer.now.bytes c.put_line.new.buffer.bytes line)
    (whole_line c.whole_lines_are_lines.ensures file row row_values read) (moves read.row_values read.reads))
    c.put_line.ensures.moves

pub returns-then-is_whole-clause-left : goal.returns-then-is_whole-clause-left
returns-then-is_whole-clause-left g c =
    let row = c.args.row.now.row in
    let losses = c.args.losses.now in
    let whole : is_whole_row losses ≡ true = sym c.is_whole.ensures ∙ c.if-is_whole.true in
    ok_more c.put_line.result
    (map_told (g.S.PageSource.content c.args.source.now)
    (λ file left. omega (arith, left, whole_pages file row losses whole)))
    c.put_line.ensures.left

pub returns-clause-moves : goal.returns-clause-moves
returns-clause-moves g c =
    map_told (g.S.PageSource.content c.args.source.now)
    (λ file puts row_values saves. line_after (g.O.ByteSink.written c.args.sink.now)
    (g.O.ByteSink.written c.flush.new.sink) (g.O.ByteSink.written c.put_partial.new.sink) c.args.buffer.now.bytes
    c.flush.new.self.bytes _ c.put_partial.result c.in_ok-flush.ensures.puts.ok c.in_ok-flush.ensures.empty
    (puts row_values saves))
    c.put_partial.ensures.puts
