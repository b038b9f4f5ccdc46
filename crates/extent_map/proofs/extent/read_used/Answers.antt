use Rattle.std.proofs.Common.{◌≡◌, ◌+◌, ◌*◌, ◌/◌, ◌%◌, ◌^◌, ◌≤◌, true, false, cond, sym, ap, ◌∙◌, add-zero, get_or}
use Rattle.std.proofs.Common.{eq-eqb, inl, inr, arith}
use Rattle.std.proofs.lemmas.Bool.Decides.{eqb_tells}
use Rattle.std.proofs.Math.Pow.{pow_mono}
use Rattle.extent_map.specs.Extents.{is_bit_clear}
use Rattle.extent_map.proofs.Masks.{power_sum, power_sum-none, power_sum-more, power_sum-fits, used_mask-powers}
use Rattle.extent_map.proofs.extent.read_used.Goals as goal
use Rattle.extent_map.proofs.extent.read_used.Goals.{then-bytes-at-eq0, else-bytes-at-eq0}

pub overflow_add-used : goal.overflow_add-used
overflow_add-used c =
    let j = c.loop-j.j in
    let most : 2 ^ j ≤ 2 ^ 63 = pow_mono {i = j} {j = 63} (omega arith) in
    let small : 1 * 2 ^ j % 18446744073709551616 ≡ 2 ^ j = omega (arith, most) in
    let fits = power_sum-fits (is_bit_clear c.args.page.now c.args.at) j in
    record { fits = omega (arith, most, small, fits, c.loop-j.invariant) }

pub loop-j-init : goal.loop-j-init
loop-j-init c = sym (power_sum-none (is_bit_clear c.args.page.now c.args.at))

pub loop-j-preserved : goal.loop-j-preserved
loop-j-preserved c =
    let p = is_bit_clear c.args.page.now c.args.at in
    let j = c.loop-j.j in
    let most : 2 ^ j ≤ 2 ^ 63 = pow_mono {i = j} {j = 63} (omega arith) in
    let small : 1 * 2 ^ j % 18446744073709551616 ≡ 2 ^ j = omega (arith, most) in
    let value = get_or c.bytes-bytes.result.now (c.args.at + j / 4) 0 / 2 ^ (2 * (j % 4)) % 2 in
    elim c.if-bytes-at-eq0.branch [
      | then-bytes-at-eq0 w ↦
          let test : p j ≡ true =
          ap (λ b. is_bit_clear b c.args.at j) (sym c.bytes-bytes.ensures.same)
          ∙ eq-eqb value 0 w.if-bytes-at-eq0.true in
          w.used-is ∙ ap (λ u. u + 1 * 2 ^ j % 18446744073709551616) c.loop-j.invariant
          ∙ ap (λ v. power_sum p j + v) small
          ∙ sym (power_sum-more p j ∙ ap (λ b. power_sum p j + cond b (2 ^ j) 0) test)
      | else-bytes-at-eq0 w ↦
          let test : p j ≡ false =
          ap (λ b. is_bit_clear b c.args.at j) (sym c.bytes-bytes.ensures.same)
          ∙ (elim (eqb_tells value 0) [ inl q ↦ absurd (w.if-bytes-at-eq0.false q.1) | inr q ↦ q.0 ]) in
          w.used-is ∙ c.loop-j.invariant ∙ sym (add-zero (power_sum p j))
          ∙ sym (power_sum-more p j ∙ ap (λ b. power_sum p j + cond b (2 ^ j) 0) test)
    ]

pub returns : goal.returns
returns c =
    let all : c.loop-j.j ≡ 64 = omega arith in
    c.loop-j.invariant ∙ ap (power_sum (is_bit_clear c.args.page.now c.args.at)) all
    ∙ sym (used_mask-powers c.args.page.now c.args.at)
