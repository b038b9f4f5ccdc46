use Rattle.std.proofs.Common.{◌^◌, ℕ, ap, ◌∙◌, sym, arith}
use Rattle.row_text.specs.Digits.{behind_point}
use Rattle.row_text.proofs.MomentWords.{micro_fits, micro_is}
use Rattle.row_text.proofs.read.moments.fraction_of.Goals as goal

pub overflow_cast-result : goal.overflow_cast-result
overflow_cast-result c =
    let fits = micro_fits c.args.f c.in_ok-units.units c.ten_to.result c.requires c.in_ok-units.ensures.0
    (c.ten_to.ensures.value ∙ ap (λ (k : ℕ). 10 ^ k) c.from.ensures) in
    omega (arith, fits)

pub returns : goal.returns
returns c =
    let is = micro_is c.args.f c.in_ok-units.units c.ten_to.result c.requires c.in_ok-units.ensures.0
    (c.ten_to.ensures.value ∙ ap (λ (k : ℕ). 10 ^ k) c.from.ensures) in
    (is.0, c.in_ok-units.ensures.1 ∙ ap (behind_point c.args.f) (sym is.1))
