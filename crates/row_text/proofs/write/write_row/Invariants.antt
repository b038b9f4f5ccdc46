use Rattle.page_source.proofs.Texts.{HasPut}
use Rattle.row_text.specs.Laws.{line_up_to}
use Rattle.row_text.proofs.write.write_row.Given as goal

abbrev pub invariant-loop-came : goal.invariant-loop-came
invariant-loop-came g l = HasPut g.O.ByteSink l.fn.sink l.sink (line_up_to l.fn.schema l.fn.row l.came)
