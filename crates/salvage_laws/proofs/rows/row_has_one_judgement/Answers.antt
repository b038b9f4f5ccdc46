use Rattle.salvage_laws.proofs.Judgement.{one_judgement}
use Rattle.salvage_laws.proofs.rows.row_has_one_judgement.Goals as goal

pub returns : goal.returns
returns c = one_judgement
