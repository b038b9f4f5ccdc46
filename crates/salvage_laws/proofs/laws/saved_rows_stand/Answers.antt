use Rattle.salvage_laws.proofs.Stand.{rows_stand}
use Rattle.salvage_laws.proofs.laws.saved_rows_stand.Goals as goal

pub returns : goal.returns
returns c = rows_stand c.whole_lines_are_lines.ensures c.whole_rows_are_read.ensures
