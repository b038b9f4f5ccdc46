use Rattle.std.proofs.Common.{◌*◌, ◌≤◌, ◌^◌, arith}
use Rattle.std.proofs.Math.Nat.{pow-le-pow_right, mul-le-mul}
use Rattle.column_values.proofs.moments.fraction.Goals as goal

pub overflow_mul-micro : goal.overflow_mul-micro
overflow_mul-micro c =
    let few : c.fraction_length.result ≤ 3 = omega (arith, c.fraction_length.ensures.half, c.requires.known) in
    let most : 256 ^ c.fraction_length.result ≤ 256 ^ 3 =
    pow-le-pow_right {n = 256} (omega arith) {i = c.fraction_length.result} {j = 3} few in
    let fits = c.number_at-units.ensures.fits in
    let unit = c.fraction_unit.ensures.few in
    let units : c.number_at-units.result ≤ 16777216 = omega arith in
    let product : c.number_at-units.result * c.fraction_unit.result ≤ 16777216 * 1000000 = mul-le-mul units unit in
    omega (arith, product)
