use Rattle.std.proofs.Common.{◌≡◌, ◌^◌, ◌<◌, arith, sym, subst}
use Rattle.std.specs.Prelude.{ℤ, pos, ◌-ℤ◌}
use Rattle.std.proofs.lemmas.Int.{ints}
use mir.Syntax.{w128}
use mir.Val.{to_z, of_z}
use Rattle.column_values.specs.Decimals.{complemented, with_top_turned, SpellsDecimal}
use Rattle.column_values.proofs.DecimalValues.{positive_spells, negative_spells, none_low, none_high, none_zero}
use Rattle.column_values.proofs.Groups.{power_most}
use Rattle.column_values.proofs.decimals.signed_units.Goals as goal

pub returns-in_err-units : goal.returns-in_err-units
returns-in_err-units c =
    let top : c.turn_top.new.bytes ≡ with_top_turned c.args.bytes.now = c.turn_top.ensures in
    let none = rw top at c.in_err-units.ensures in
    rw c.from_residual.ensures (none_low c.args.p c.args.s c.requires.known c.args.bytes.now
    (rw top at c.if-bytes-lt128.true) none)

pub overflow_cast-result : goal.overflow_cast-result
overflow_cast-result c =
    let low : c.in_ok-units.field-0 < 10 ^ c.args.p = c.in_ok-units.ensures.0 in
    let most = power_most c.args.p (omega (arith, c.requires.known)) in
    grind (arith, ints)

pub returns-then-bytes-lt128 : goal.returns-then-bytes-lt128
returns-then-bytes-lt128 c =
    let top : c.turn_top.new.bytes ≡ with_top_turned c.args.bytes.now = c.turn_top.ensures in
    let found = rw top at c.in_ok-units.ensures in
    let low : c.in_ok-units.field-0 < 10 ^ c.args.p = c.in_ok-units.ensures.0 in
    let most = power_most c.args.p (omega (arith, c.requires.known)) in
    let whole : to_z w128 c.in_ok-units.field-0 ≡ pos c.in_ok-units.field-0 = omega (arith, ints) in
    subst (λ (z : ℤ). SpellsDecimal c.args.p c.args.s z c.args.bytes.now) (sym whole)
    (positive_spells c.args.p c.args.s c.requires.known c.in_ok-units.field-0 c.args.bytes.now
    c.requires.are_bytes found)

pub returns-in_err-units-2 : goal.returns-in_err-units-2
returns-in_err-units-2 c =
    let top : c.turn_top.new.bytes ≡ with_top_turned c.args.bytes.now = c.turn_top.ensures in
    let all : c.complement.new.bytes ≡ complemented (with_top_turned c.args.bytes.now) =
    rw (← top) c.complement.ensures in
    let none = rw all at c.in_err-units-2.ensures in
    rw c.from_residual-in_err-units-2.ensures (none_high c.args.p c.args.s c.requires.known c.args.bytes.now
    (rw top at c.if-bytes-lt128.false) none)

pub returns-then-units-eq0 : goal.returns-then-units-eq0
returns-then-units-eq0 c =
    let top : c.turn_top.new.bytes ≡ with_top_turned c.args.bytes.now = c.turn_top.ensures in
    let all : c.complement.new.bytes ≡ complemented (with_top_turned c.args.bytes.now) =
    rw (← top) c.complement.ensures in
    let found = rw (all, c.if-units-eq0.true) at c.in_ok-units-2.ensures in
    none_zero c.args.p c.args.s c.requires.known c.args.bytes.now (rw top at c.if-bytes-lt128.false) found

pub overflow_cast-result-2 : goal.overflow_cast-result-2
overflow_cast-result-2 c =
    let low : c.in_ok-units-2.units < 10 ^ c.args.p = c.in_ok-units-2.ensures.0 in
    let most = power_most c.args.p (omega (arith, c.requires.known)) in
    grind (arith, ints)

pub overflow_sub-result : goal.overflow_sub-result
overflow_sub-result c =
    let low : c.in_ok-units-2.units < 10 ^ c.args.p = c.in_ok-units-2.ensures.0 in
    let most = power_most c.args.p (omega (arith, c.requires.known)) in
    grind (arith, ints)

pub returns : goal.returns
returns c =
    let n = c.in_ok-units-2.units in
    let top : c.turn_top.new.bytes ≡ with_top_turned c.args.bytes.now = c.turn_top.ensures in
    let all : c.complement.new.bytes ≡ complemented (with_top_turned c.args.bytes.now) =
    rw (← top) c.complement.ensures in
    let found = rw all at c.in_ok-units-2.ensures in
    let low : n < 10 ^ c.args.p = c.in_ok-units-2.ensures.0 in
    let most = power_most c.args.p (omega (arith, c.requires.known)) in
    let whole : to_z w128 (of_z w128 (pos 0 -ℤ to_z w128 n)) ≡ pos 0 -ℤ pos n = omega (arith, ints) in
    subst (λ (z : ℤ). SpellsDecimal c.args.p c.args.s z c.args.bytes.now) (sym whole)
    (negative_spells c.args.p c.args.s c.requires.known n c.args.bytes.now c.requires.are_bytes
    c.if-units-eq0.false found)
