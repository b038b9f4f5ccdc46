use Rattle.page_packer.proofs.NumberFacts.{has_own_body, sealing_keeps_body, sealed_has_body}
use Rattle.page_packer.proofs.laws.sealing_keeps_the_body.Goals as goal

pub returns : goal.returns
returns c = record { own = has_own_body; seals = sealing_keeps_body; sealed = sealed_has_body }
