use Rattle.std.proofs.Common.{arith}
use Rattle.space_layout.proofs.PageNumbers.{roots_before}
use Rattle.space_layout.proofs.numbers.fragment_start.Goals as goal

pub overflow_sub-result : goal.overflow_sub-result
overflow_sub-result c = omega (arith, roots_before c.args.sizes.now c.requires.shape c.args.s (omega arith))
