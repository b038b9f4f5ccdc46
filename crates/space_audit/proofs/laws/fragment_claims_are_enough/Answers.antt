use Rattle.space_audit.proofs.AllClaims.{all_claimed}
use Rattle.space_audit.proofs.laws.fragment_claims_are_enough.Goals as goal

pub returns : goal.returns
returns c = all_claimed c.used_pages_are_of_extents.ensures
