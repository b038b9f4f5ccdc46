use Rattle.std.proofs.Common.{length, ap, arith}
use Rattle.row_text.proofs.FixedDigits.{length-last_digits}
use Rattle.row_text.proofs.ReadDigits.{point_is}
use Rattle.row_text.proofs.read.decimals.point_size.Goals as goal

pub returns-else-count-eq0 : goal.returns-else-count-eq0
returns-else-count-eq0 c = λ n.
    omega (
      arith,
      c.from.ensures,
      ap length (point_is c.args.count n c.if-count-eq0.false),
      length-last_digits c.args.count n,
    )
