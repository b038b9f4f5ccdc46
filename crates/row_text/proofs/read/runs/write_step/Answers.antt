use Rattle.std.proofs.Common.{arith}
use Rattle.row_text.proofs.Unquoted.{written_at}
use Rattle.row_text.proofs.read.runs.write_step.Goals as goal

pub returns-clause-written : goal.returns-clause-written
returns-clause-written c =
    written_at c.args.text.now c.write_lanes.new.room _ _ _ _ c.write_lanes.ensures.written (omega arith) (omega arith)
