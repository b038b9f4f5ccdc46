use Rattle.std.proofs.Common.{flat_map}
use Rattle.std.specs.List.{range_with_len}
use Rattle.page_source.proofs.Texts.{HasPut}
use Rattle.row_salvage.proofs.LossLines.{line_at}
use Rattle.row_salvage.proofs.loss_lines.put_row_losses.Given as goal

-- the lines of the first columns were put
abbrev pub invariant-loop-c : goal.invariant-loop-c
invariant-loop-c g l =
    HasPut g.E.ByteSink l.fn.err l.err (flat_map (line_at l.fn.schema l.fn.n l.fn.k l.fn.losses) (range_with_len 0 l.c))
