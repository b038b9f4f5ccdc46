use Rattle.std.proofs.Common.{arith}
use Rattle.column_values.proofs.DecimalValues.{decimal_size}
use Rattle.column_values.proofs.decimals.size_of.Goals as goal

pub returns-clause-some : goal.returns-clause-some
returns-clause-some c = omega (arith, c.decimal_length.ensures.value, (decimal_size c.args.p c.args.s c.requires).0)

pub returns-clause-most : goal.returns-clause-most
returns-clause-most c = omega (arith, c.decimal_length.ensures.value, (decimal_size c.args.p c.args.s c.requires).1)
