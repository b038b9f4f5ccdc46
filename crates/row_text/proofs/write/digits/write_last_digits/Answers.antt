use Rattle.std.proofs.Common.{◌≡◌, ◌+◌, ◌-◌, ◌/◌, ◌%◌, drop, length, refl, sym, ap, ◌∙◌, arith}
use Rattle.std.proofs.lemmas.List.{length-set}
use Rattle.std.proofs.Math.Seq.{drop-length}
use Rattle.row_text.specs.Digits.{last_digits}
use Rattle.row_text.proofs.Numbers.{div_more, one_more_digit}
use Rattle.row_text.proofs.write.digits.write_last_digits.Goals as goal

pub loop-count-init : goal.loop-count-init
unfolding last_digits
loop-count-init c = record {
  size = refl;
  rest = omega arith;
  digits = ap (λ k. drop k c.args.out.now) (omega arith)
      ∙ drop-length c.args.out.now;
}

pub loop-count-preserved : goal.loop-count-preserved
loop-count-preserved c =
    let l = c.loop-count in
    record {
      size = length-set l.out (length l.out - 1 - l.count) (48 + l.left % 10) ∙ l.invariant.size;
      rest = ap (λ m. m / 10) l.invariant.rest ∙ div_more c.args.number l.count;
      digits = one_more_digit l.out c.args.number (length c.args.out.now) l.count l.left l.invariant.size
          (omega arith) l.invariant.rest l.invariant.digits;
    }

pub returns : goal.returns
returns c =
    let l = c.loop-count in
    let all : l.count ≡ length c.args.out.now = omega arith in
    let none : length c.args.out.now - l.count ≡ 0 = omega (arith, all) in
    ap (λ k. drop k l.out) (sym none) ∙ l.invariant.digits ∙ ap (λ k. last_digits k c.args.number) all
