use Rattle.row_text.proofs.read.runs.write_text.Goals as goal

pub loop-n-init : goal.loop-n-init
loop-n-init c = record { written = c.write_steps-at.ensures.written; same = c.write_steps-at.ensures.same }
