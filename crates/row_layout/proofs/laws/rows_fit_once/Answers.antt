use Rattle.row_layout.proofs.Fitting.{fit_once}
use Rattle.row_layout.proofs.laws.rows_fit_once.Goals as goal

pub returns : goal.returns
returns c = λ table row. fit_once table row
