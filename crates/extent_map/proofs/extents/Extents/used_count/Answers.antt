use Rattle.extent_map.proofs.Readers.{extent_there}
use Rattle.extent_map.proofs.Uses.{ones_are_uses}
use Rattle.extent_map.proofs.extents.Extents.used_count.Goals as goal

pub returns-clause-told : goal.returns-clause-told
returns-clause-told c = λ file are.
    ones_are_uses file c.args.e c.extent.result.now
    (extent_there file c.args.self.now c.args.e c.extent.result.now are c.extent.ensures)
