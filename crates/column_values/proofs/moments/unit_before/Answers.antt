use Rattle.std.proofs.Common.{◌^◌, ◌≤◌, arith}
use Rattle.std.proofs.Math.Nat.{pow-le-pow_right}
use Rattle.column_values.proofs.moments.unit_before.Goals as goal

pub returns-clause-few : goal.returns-clause-few
returns-clause-few c =
    let most : 10 ^ c.args.digits ≤ 10 ^ 6 = pow-le-pow_right {n = 10} (omega arith) {i = c.args.digits} {j =
    6} c.requires in
    omega (arith, most, c.ten_to.ensures.value)
