use Rattle.std.proofs.Common.{◌≡◌, false, arith}
use Rattle.std.proofs.lemmas.Int.{ints}
use Rattle.column_values.proofs.Numbers.{whole_is_twice}
use Rattle.column_values.proofs.integers.IntCode.holds.Goals as goal

pub returns-then-value-ge0 : goal.returns-then-value-ge0
returns-then-value-ge0 g c =
    let twice = whole_is_twice g.row.W c.requires.some in
    let is_unsigned : c.args.signed ≡ false = c.if-signed.false in
    rw is_unsigned (λ t. (grind (arith, ints), grind (arith, ints)), λ r. grind (arith, ints))
