use Rattle.page_source.proofs.Transferred.{stays}
use Rattle.page_source.proofs.transfers.read_some.Goals as goal

pub returns-in_default-clause-bytes : goal.returns-in_default-clause-bytes
returns-in_default-clause-bytes g c = stays _ _ _ c.loop.invariant.kept c.in-Err.ensures.bytes
