use Rattle.tree_layout.proofs.Divided.{division_law}
use Rattle.tree_layout.proofs.laws.division_gives_levels.Goals as goal

pub returns : goal.returns
returns c = division_law
