use Rattle.page_source.proofs.transfers.end_of.Goals as goal
use Rattle.page_source.proofs.Transferred.{ends_there}

pub returns : goal.returns
returns g c = ends_there _ _ _ _ c.seek.ensures.moves
