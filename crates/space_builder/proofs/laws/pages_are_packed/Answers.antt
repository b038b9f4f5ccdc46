use Rattle.std.proofs.Common.{refl}
use Rattle.space_builder.specs.layout.TreePage.{tree_body, tree_page}
use Rattle.space_builder.specs.layout.TreeSpot.{page_at_spot}
use Rattle.space_builder.proofs.laws.pages_are_packed.Goals as goal

pub returns : goal.returns
unfolding tree_page tree_body page_at_spot
returns c leaf node numbers levels j l k = refl
