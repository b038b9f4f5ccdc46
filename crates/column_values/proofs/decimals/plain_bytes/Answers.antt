use Rattle.std.proofs.Common.{◌≡◌, ◌∙◌, sym, ap, ℕ, ◌+◌, ◌-◌, ◌/◌, ◌%◌, ◌*◌, ◌^◌, ◌<◌, ◌≤◌, ◌++◌, List, length}
use Rattle.std.proofs.Common.{slice_index, drop, sum, refl, arith, append_assoc, pow-add, subst}
use Rattle.std.proofs.Math.Nat.{pow-le-pow_right}
use Rattle.page_source.specs.Pages.{be_bytes}
use Rattle.column_values.specs.Lengths.{group_length, decimal_groups}
use Rattle.column_values.specs.Decimals.{grouped}
use Rattle.column_values.proofs.Groups.{sum_drop, sum_whole, sum-groups, some_power, first_digits, last_digits}
use Rattle.column_values.proofs.Groups.{group_fits, grouped_step}
use Rattle.column_values.proofs.decimals.plain_bytes.Goals as goal

pub ten_to-power-requires : goal.ten_to-power-requires
ten_to-power-requires c =
    let groups : List ℕ = decimal_groups c.args.p c.args.s in
    omega (
      arith,
      sum_whole (λ (x : ℕ). x) groups c.loop-group.group,
      sum-groups c.args.p c.args.s (omega (arith, c.requires.known)),
      c.loop-group.invariant.left,
      c.requires.known,
    )

-- what is left of the digits after a group
left_after : (groups : List ℕ) (i left digits : ℕ) → i < length groups → left ≡ sum (drop i groups)
    → digits ≡ slice_index groups i
    → (left - digits ≡ sum (drop (i + 1) groups)) × (left ≡ digits + (left - digits))
left_after groups i left digits below is digit =
    let e = sum_drop (λ (x : ℕ). x) groups i below in (omega (arith, e), omega (arith, e))

-- a group is below its power
group_low : (rest left digits power : ℕ) → rest < 10 ^ left → left ≡ digits + (left - digits)
    → power ≡ 10 ^ (left - digits) → rest / power < 10 ^ digits
group_low rest left digits power low is same =
    let small : rest < 10 ^ digits * 10 ^ (left - digits) =
    subst (λ (k : ℕ). rest < k) (ap (λ (k : ℕ). 10 ^ k) is ∙ pow-add 10 digits (left - digits)) low in
    rw same (first_digits digits rest (10 ^ (left - digits)) (some_power (left - digits)) small)

pub overflow_cast-rest : goal.overflow_cast-rest
overflow_cast-rest c =
    let groups : List ℕ = decimal_groups c.args.p c.args.s in
    let below : c.loop-group.group < length groups = omega (
      arith,
      c.loop-group-test.true,
      c.group_count-group-end.ensures,
    ) in
    let d = c.digits_in-digits.result in
    let after = left_after groups c.loop-group.group c.loop-group.left d below c.loop-group.invariant.left
    c.digits_in-digits.ensures.value in
    let low = group_low c.loop-group.rest c.loop-group.left d c.ten_to-power.result c.loop-group.invariant.low
    after.1 c.ten_to-power.ensures.value in
    let most : 10 ^ d ≤ 10 ^ 9 = pow-le-pow_right {n = 10} (omega arith) {i = d} {j =
    9} c.digits_in-digits.ensures.few in
    omega (arith, low, most)

pub push_number-requires-clause-fits : goal.push_number-requires-clause-fits
push_number-requires-clause-fits c =
    let groups : List ℕ = decimal_groups c.args.p c.args.s in
    let below : c.loop-group.group < length groups = omega (
      arith,
      c.loop-group-test.true,
      c.group_count-group-end.ensures,
    ) in
    let d = c.digits_in-digits.result in
    let after = left_after groups c.loop-group.group c.loop-group.left d below c.loop-group.invariant.left
    c.digits_in-digits.ensures.value in
    let low = group_low c.loop-group.rest c.loop-group.left d c.ten_to-power.result c.loop-group.invariant.low
    after.1 c.ten_to-power.ensures.value in
    rw c.group_length.ensures.value (omega (arith, low, group_fits d c.digits_in-digits.ensures.few))

pub loop-group-preserved : goal.loop-group-preserved
loop-group-preserved c =
    let groups : List ℕ = decimal_groups c.args.p c.args.s in
    let i = c.loop-group.group in
    let below : i < length groups = omega (arith, c.loop-group-test.true, c.group_count-group-end.ensures) in
    let d = c.digits_in-digits.result in
    let rest = c.loop-group.rest in
    let left = c.loop-group.left - d in
    let after = left_after groups i c.loop-group.left d below c.loop-group.invariant.left
    c.digits_in-digits.ensures.value in
    let step = grouped_step groups i d rest left below c.digits_in-digits.ensures.value after.0 in
    let wrote : c.push_number.new.list ≡ c.loop-group.list ++ be_bytes (group_length d) (rest / 10 ^ left) =
    c.in_ok-push_number.ensures.ok ∙ rw (c.group_length.ensures.value, c.ten_to-power.ensures.value) refl in
    rw c.ten_to-power.ensures.value (record {
      left = after.0;
      low = last_digits rest (10 ^ left) (some_power left);
      same = rw wrote (append_assoc c.loop-group.list (be_bytes (group_length d) (rest / 10 ^ left))
          (grouped (drop (i + 1) groups) (rest % 10 ^ left))
          ∙ ap (λ (t : List ℕ). c.loop-group.list ++ t) (sym step) ∙ c.loop-group.invariant.same);
    })
