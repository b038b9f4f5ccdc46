use Rattle.std.proofs.Common.{◌≡◌, ℕ, ◌∙◌, ◌^◌, ◌<◌, ap, length, rules, arith}
use Rattle.std.specs.Prelude.{pos, nat_abs, if◌then◌else◌}
use Rattle.std.specs.Int.Signed.{lt_z}
use Rattle.std.proofs.lemmas.Int.{to_z-of_z}
use mir.Syntax.{w128}
use mir.Val.{SFits}
use Rattle.column_values.specs.Lengths.{decimal_groups}
use Rattle.column_values.specs.Decimals.{grouped, complemented, with_top_turned}
use Rattle.column_values.proofs.DecimalValues.{length-groups, decimal_size, decimal_spelled, sign_put}
use Rattle.column_values.proofs.decimals.decimal_bytes.Goals as goal

pub signed_bytes-requires : goal.signed_bytes-requires
signed_bytes-requires c =
    let size = ap length (c.bytes.ensures ∙ c.in_ok-plain.ensures) in
    omega (
      arith,
      size,
      length-groups c.args.p c.args.s c.requires c.unsigned_abs-2.result,
      (decimal_size c.args.p c.args.s c.requires).1,
    )

pub returns : goal.returns
returns c =
    let z = c.in-Decimal.units in
    let fits : SFits w128 z = search rules in
    let abs : c.unsigned_abs.result ≡ nat_abs z = simp to_z-of_z at c.unsigned_abs.ensures.value in
    let abs2 : c.unsigned_abs-2.result ≡ nat_abs z = simp to_z-of_z at c.unsigned_abs-2.ensures.value in
    let low : nat_abs z < 10 ^ c.args.p = omega (
      arith,
      c.if-unsigned_abs-ten_to.false,
      c.ten_to.ensures.value
          ∙ ap (λ (k : ℕ). 10 ^ k) c.from.ensures,
      abs,
    ) in
    let same = simp to_z-of_z at c.in_ok-signed_bytes.ensures.same in
    let plain : c.bytes.result.now ≡ grouped (decimal_groups c.args.p c.args.s) (nat_abs z) =
    rw (← abs2) (c.bytes.ensures ∙ c.in_ok-plain.ensures) in
    let whole : c.in_ok-signed_bytes.field-0 ≡ with_top_turned
    (if lt_z z (pos 0) then complemented (grouped (decimal_groups c.args.p c.args.s) (nat_abs z)) else grouped
    (decimal_groups c.args.p c.args.s) (nat_abs z)) = rw (← plain) same in
    rw c.in-Decimal.is (decimal_spelled c.args.p c.args.s c.requires z c.in_ok-signed_bytes.field-0 low (whole
    ∙ ap with_top_turned (sign_put c.args.p c.args.s c.requires z)))
