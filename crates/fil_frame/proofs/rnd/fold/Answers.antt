use Rattle.std.proofs.Common.{arith}
use Rattle.std.proofs.lemmas.Grind.{common_steps}
use Rattle.fil_frame.specs.Fold.{fold_of}
use Rattle.fil_frame.proofs.rnd.fold.Goals as goal

pub returns : goal.returns
unfolding fold_of
returns c = grind (arith, common_steps)
