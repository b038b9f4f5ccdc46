use Rattle.std.proofs.Common.{sym, arith}
use Rattle.page_packer.proofs.Sizes.{origin_behind}
use Rattle.page_packer.proofs.packer.Packer.origin_at.Goals as goal

pub returns-else-k-count-clause-value : goal.returns-else-k-count-clause-value
returns-else-k-count-clause-value c = sym (origin_behind c.args.self.now.records c.args.k (omega arith))
