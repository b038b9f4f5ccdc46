use Rattle.tree_layout.proofs.Held.{names_law}
use Rattle.tree_layout.proofs.laws.headers_name_segments.Goals as goal

pub returns : goal.returns
returns c = names_law
