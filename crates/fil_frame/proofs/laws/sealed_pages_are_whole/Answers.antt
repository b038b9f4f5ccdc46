use Rattle.fil_frame.proofs.Sealed.{sealed_law}
use Rattle.fil_frame.proofs.laws.sealed_pages_are_whole.Goals as goal

pub returns : goal.returns
returns c = sealed_law
