use Rattle.std.proofs.Common.{◌+◌, ◌<◌, ◌≤◌, get_or, arith}
use Rattle.key_ranks.specs.Ranks.{digit_at}
use Rattle.key_ranks.proofs.FrontSteps.{number_none, number_more, one_place_more}
use Rattle.key_ranks.proofs.fronts.spelled.Goals as goal

pub loop-i-init : goal.loop-i-init
loop-i-init c = record {
  least = λ j below. absurd (omega (arith, below));
  most = λ j below. absurd (omega (arith, below));
  is = number_none c.args.filler c.args.digits.now c.args.value.now;
  few = omega arith;
}

pub loop-i-preserved : goal.loop-i-preserved
loop-i-preserved c =
    let filler = c.args.filler in
    let digits = c.args.digits.now in
    let value = c.args.value.now in
    let i = c.loop-i.i in
    let byte = c.byte_at-byte.ensures in
    record {
      least = one_place_more (λ j. (digit_at digits j).low ≤ get_or value j filler) i c.loop-i.invariant.least
          (omega (arith, byte, c.if-byte-digit.false));
      most = one_place_more (λ j. get_or value j filler < (digit_at digits j).low + (digit_at digits j).width) i
          c.loop-i.invariant.most
          (omega (arith, byte, c.if-byte-digit.false, c.from.ensures, c.if-from-digit.false));
      is = rw (c.from-in-loop-i.ensures, c.from-in-loop-i-2.ensures)
          (number_more filler digits value i c.loop-i.number c.byte_at-byte.result c.loop-i.invariant.is byte);
      few = c.if-number-ge-FRONTS.false;
    }
