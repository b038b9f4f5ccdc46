use Rattle.std.proofs.Common.{◌<◌, arith}
use Rattle.row_text.proofs.ReadDigits.{digits_none, digits_more, digits_fit, digits_all, no_digit}
use Rattle.row_text.proofs.read.decimals.number_of.Goals as goal

pub loop-byte-init : goal.loop-byte-init
loop-byte-init c = digits_none c.args.digits.now

pub returns-in_default : goal.returns-in_default
returns-in_default c = λ n e.
    no_digit c.args.digits.now n c.loop-byte.byte-index (omega (arith, c.loop-byte-test.true)) c.in_default.ensures e

pub overflow_mul-number : goal.overflow_mul-number
overflow_mul-number c =
    let few : c.loop-byte.byte-index < 38 = omega (arith, c.loop-byte-test.true, c.requires) in
    let fits = digits_fit c.loop-byte.byte-index c.loop-byte.number 0 c.loop-byte.invariant.low few (omega arith) in
    omega (arith, fits)

pub overflow_add-number : goal.overflow_add-number
overflow_add-number c =
    let few : c.loop-byte.byte-index < 38 = omega (arith, c.loop-byte-test.true, c.requires) in
    let fits = digits_fit c.loop-byte.byte-index c.loop-byte.number c.in-Some.digit c.loop-byte.invariant.low few
    c.in-Some.ensures.0 in
    omega (arith, fits, c.from.ensures)

pub loop-byte-preserved : goal.loop-byte-preserved
loop-byte-preserved c =
    rw c.from.ensures (digits_more c.args.digits.now c.loop-byte.byte-index c.loop-byte.number c.in-Some.digit
    c.loop-byte.invariant (omega (arith, c.loop-byte-test.true)) c.in-Some.ensures.0 c.in-Some.ensures.1)

pub returns : goal.returns
returns c = digits_all c.args.digits.now c.loop-byte.byte-index c.loop-byte.number c.loop-byte.invariant
    (omega (arith, c.loop-byte-test.false))
