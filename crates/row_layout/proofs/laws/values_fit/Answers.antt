use Rattle.row_layout.proofs.Lengths.{spell_fits}
use Rattle.row_layout.proofs.laws.values_fit.Goals as goal

pub returns : goal.returns
returns c = spell_fits
