use Rattle.std.proofs.Common.{◌≡◌, ◌∙◌, sym, ap, ℕ, ◌+◌, ◌*◌, ◌^◌, ◌<◌, ◌≤◌, List, [], length, slice_index, take, drop}
use Rattle.std.proofs.Common.{sum, refl, arith, subst}
use Rattle.std.specs.Prelude.{Option, Some, None}
use Rattle.std.proofs.lemmas.List.{drop_all}
use Rattle.page_source.specs.Pages.{AreBytes}
use Rattle.column_values.specs.Lengths.{group_length, decimal_groups}
use Rattle.column_values.proofs.Bytes.{are_bytes}
use Rattle.column_values.proofs.Groups.{ungrouped, sum_take, sum_most, sum-groups, few_groups, decimal_length_sum}
use Rattle.column_values.proofs.Groups.{units_step, units_stop, units_low, power_most, ungrouped-grouped}
use Rattle.column_values.proofs.Groups.{grouped-ungrouped}
use Rattle.column_values.proofs.decimals.units.Goals as goal

pub number_at-requires-clause-inside : goal.number_at-requires-clause-inside
number_at-requires-clause-inside c =
    let groups : List ℕ = decimal_groups c.args.p c.args.s in
    let i = c.loop-group.group in
    let below : i < length groups = omega (arith, c.loop-group-test.true, c.group_count-group-end.ensures) in
    let width : c.group_length-width.result ≡ group_length (slice_index groups i) =
    c.group_length-width.ensures.value ∙ ap group_length c.digits_in-digits.ensures.value in
    omega (
      arith,
      sum_take group_length groups i below,
      sum_most group_length groups (i + 1),
      c.loop-group.invariant.place,
      c.requires.size,
      decimal_length_sum c.args.p c.args.s,
    )

pub returns-then-number-ten_to : goal.returns-then-number-ten_to
returns-then-number-ten_to c = λ n low same.
    let groups : List ℕ = decimal_groups c.args.p c.args.s in
    let i = c.loop-group.group in
    let plain = c.args.plain.now in
    let below : i < length groups = omega (arith, c.loop-group-test.true, c.group_count-group-end.ensures) in
    let high : 10 ^ c.digits_in-digits.result ≤ c.from-number.result =
    omega (arith, c.if-number-ten_to.true, c.ten_to.ensures.value) in
    let stop = units_stop groups i c.loop-group.at c.digits_in-digits.result c.group_length-width.result
    c.from-number.result c.loop-group.units plain
    below c.digits_in-digits.ensures.value c.group_length-width.ensures.value (c.from-number.ensures
    ∙ c.number_at.ensures.number) high in
    let within : n < 10 ^ sum groups = subst (λ (k : ℕ). n < 10 ^ k)
    (sym (sum-groups c.args.p c.args.s (omega (arith, c.requires.known)))) low in
    let found = ungrouped-grouped groups 0 n (few_groups c.args.p c.args.s) within in
    let both : ◌≡◌ {A = Option ℕ} None (Some (0 * 10 ^ sum groups + n)) = sym stop ∙ c.loop-group.invariant.same
    ∙ ap (ungrouped groups 0) same ∙ found in
    cc both

pub overflow_mul-units : goal.overflow_mul-units
overflow_mul-units c =
    let groups : List ℕ = decimal_groups c.args.p c.args.s in
    let i = c.loop-group.group in
    let d = c.digits_in-digits.result in
    let a : ℕ = sum (take i groups) in
    let below : i < length groups = omega (arith, c.loop-group-test.true, c.group_count-group-end.ensures) in
    let small : c.from-number.result < 10 ^ d = omega (arith, c.if-number-ten_to.false, c.ten_to.ensures.value) in
    let low = units_low a d c.loop-group.units c.from-number.result c.loop-group.invariant.low small in
    let few : a + d ≤ 38 = omega (
      arith,
      sum_take (λ (x : ℕ). x) groups i below,
      sum_most (λ (x : ℕ). x) groups (i + 1),
      sum-groups c.args.p c.args.s (omega (arith, c.requires.known)),
      c.digits_in-digits.ensures.value,
      c.requires.known,
    ) in
    let most = power_most (a + d) few in
    rw c.ten_to-in-loop-group.ensures.value (omega (arith, low, most))

pub overflow_add-units : goal.overflow_add-units
overflow_add-units c =
    let groups : List ℕ = decimal_groups c.args.p c.args.s in
    let i = c.loop-group.group in
    let d = c.digits_in-digits.result in
    let a : ℕ = sum (take i groups) in
    let below : i < length groups = omega (arith, c.loop-group-test.true, c.group_count-group-end.ensures) in
    let small : c.from-number.result < 10 ^ d = omega (arith, c.if-number-ten_to.false, c.ten_to.ensures.value) in
    let low = units_low a d c.loop-group.units c.from-number.result c.loop-group.invariant.low small in
    let few : a + d ≤ 38 = omega (
      arith,
      sum_take (λ (x : ℕ). x) groups i below,
      sum_most (λ (x : ℕ). x) groups (i + 1),
      sum-groups c.args.p c.args.s (omega (arith, c.requires.known)),
      c.digits_in-digits.ensures.value,
      c.requires.known,
    ) in
    let most = power_most (a + d) few in
    rw c.ten_to-in-loop-group.ensures.value (omega (arith, low, most))

pub loop-group-preserved : goal.loop-group-preserved
loop-group-preserved c =
    let groups : List ℕ = decimal_groups c.args.p c.args.s in
    let i = c.loop-group.group in
    let d = c.digits_in-digits.result in
    let a : ℕ = sum (take i groups) in
    let below : i < length groups = omega (arith, c.loop-group-test.true, c.group_count-group-end.ensures) in
    let small : c.from-number.result < 10 ^ d = omega (arith, c.if-number-ten_to.false, c.ten_to.ensures.value) in
    let low = units_low a d c.loop-group.units c.from-number.result c.loop-group.invariant.low small in
    let more : sum (take (i + 1) groups) ≡ a + d = sum_take (λ (x : ℕ). x) groups i below
    ∙ ap (λ (k : ℕ). a + k) (sym c.digits_in-digits.ensures.value) in
    let width : c.group_length-width.result ≡ group_length (slice_index groups i) =
    c.group_length-width.ensures.value ∙ ap group_length c.digits_in-digits.ensures.value in
    let step = units_step groups i c.loop-group.at d c.group_length-width.result c.from-number.result
    c.loop-group.units c.args.plain.now
    below c.digits_in-digits.ensures.value c.group_length-width.ensures.value (c.from-number.ensures
    ∙ c.number_at.ensures.number) small in
    rw c.ten_to-in-loop-group.ensures.value (record {
      low = rw more low;
      place = omega (arith, sum_take group_length groups i below, c.loop-group.invariant.place);
      same = sym step ∙ c.loop-group.invariant.same;
    })

pub returns : goal.returns
returns c =
    let groups : List ℕ = decimal_groups c.args.p c.args.s in
    let i = c.loop-group.group in
    let plain = c.args.plain.now in
    let past : length groups ≤ i = omega (arith, c.loop-group-test.false, c.group_count-group-end.ensures) in
    let none : drop i groups ≡ [] = drop_all i groups past in
    let done : ungrouped (drop i groups) c.loop-group.units (drop c.loop-group.at plain) ≡ Some c.loop-group.units =
    rw none refl in
    let are : AreBytes plain = are_bytes plain (λ k. omega (arith, c.type_inv.plain k)) in
    let read = grouped-ungrouped groups 0 c.loop-group.units plain are (c.requires.size
    ∙ decimal_length_sum c.args.p c.args.s) (sym c.loop-group.invariant.same ∙ done) in
    let same : c.loop-group.units ≡ read.0 = omega (arith, read.2) in
    let total = sum-groups c.args.p c.args.s (omega (arith, c.requires.known)) in
    rw same (subst (λ (k : ℕ). read.0 < 10 ^ k) total read.1, read.3)
