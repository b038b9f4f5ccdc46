use Rattle.std.proofs.Common.{◌^◌, ◌≤◌, arith}
use Rattle.std.proofs.Math.Nat.{pow-le-pow_right}
use Rattle.column_values.proofs.Groups.{some_power}
use Rattle.column_values.proofs.powers.ten_to.Goals as goal

pub pow-requires : goal.pow-requires
pow-requires c =
    let most : 10 ^ c.args.digits ≤ 10 ^ 38 = pow-le-pow_right {n = 10} (omega arith) {i = c.args.digits} {j =
    38} c.requires in
    omega (arith, most)

pub returns-clause-some : goal.returns-clause-some
returns-clause-some c = rw c.pow.ensures (some_power c.args.digits)
