use Rattle.row_layout.proofs.Fitting.{fitted_fields}
use Rattle.row_layout.proofs.laws.fitted_rows_are_rows.Goals as goal

pub returns : goal.returns
returns c =
    λ table i row found is. let both = fitted_fields table i row found is in record { fields = both.0; short = both.1 }
