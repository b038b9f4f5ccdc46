use Rattle.std.proofs.Common.{refl}
use Rattle.row_text.proofs.Unquoted.{written_none}
use Rattle.row_text.proofs.read.runs.write_steps.Goals as goal

pub loop-at-init : goal.loop-at-init
loop-at-init c = record { written = written_none c.args.text.now c.args.room.now; same = refl }
