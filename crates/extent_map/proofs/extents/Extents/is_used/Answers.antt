use Rattle.std.proofs.Common.{sym, arith}
use Rattle.extent_map.proofs.Readers.{bit_there, not_there}
use Rattle.extent_map.proofs.extents.Extents.is_used.Goals as goal

pub returns-then-e-count-clause-told : goal.returns-then-e-count-clause-told
returns-then-e-count-clause-told c = λ file are. sym (not_there file c.args.self.now c.args.page are (omega arith))

pub returns-clause-told : goal.returns-clause-told
returns-clause-told c = λ file are. bit_there file c.args.self.now c.args.page c.extent.result.now are c.extent.ensures
