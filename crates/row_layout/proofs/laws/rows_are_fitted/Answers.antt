use Rattle.row_layout.proofs.Fitting.{fits}
use Rattle.row_layout.proofs.laws.rows_are_fitted.Goals as goal

pub returns : goal.returns
returns c = λ table i row. fits table i row
