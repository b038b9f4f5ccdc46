use Rattle.std.proofs.Common.{◌≡◌, ◌<◌, ◌≤◌, refl, ◌-◌, ◌^◌, ℕ, suc, ℤ, pos, negsuc, sym, ap, ◌∙◌, subst, arith}
use Rattle.std.specs.Prelude.{◌-ℤ◌}
use mir.Syntax.{w128}
use mir.Val.{SFits, to_z, of_z}
use Rattle.std.proofs.Math.Facts.{to_z_pos}
use Rattle.std.proofs.lemmas.Int.{ints, to_z-of_z, fits_signed_from_abs}
use Rattle.row_text.specs.calls.Words.{IsWordOf, unsigned_text}
use Rattle.column_values.specs.declared.kind.ColumnType.TheVariants as types
use Rattle.column_values.specs.declared.value.Value.TheVariants as values
use Rattle.row_text.proofs.DecimalWords.{plus_word, minus_word, no_plus, no_minus, one_units, most_power}
use Rattle.row_text.proofs.read.decimals.decimal_value.Goals as goal

pub returns-in_err-units-in-Some : goal.returns-in_err-units-in-Some
returns-in_err-units-in-Some c = rw c.from_residual.ensures
    (no_minus c.args.p c.args.s c.args.word.now c.in-Some.text.now c.requires c.in-Some.ensures.found
    (λ n some low e. c.in_err-units-in-Some.ensures n low e))

pub returns-then-units-eq0 : goal.returns-then-units-eq0
returns-then-units-eq0 c =
    no_minus c.args.p c.args.s c.args.word.now c.in-Some.text.now c.requires c.in-Some.ensures.found
    (λ n some low e.
    let most = most_power c.args.p (omega (arith, c.requires)) in
    let units = c.in_ok-units-in-Some in
    let same = one_units c.args.s units.units n c.in-Some.text.now (omega (arith, units.ensures.0, most))
    (omega (arith, low, most)) units.ensures.1 e in
    omega (arith, same, some, c.if-units-eq0.true))

low_units : (p n : ℕ) → p ≤ 38 → n < 10 ^ p → n < 2 ^ 127
low_units p n few low = omega (arith, low, most_power p few)

-- the negative of so many units
negative_is : (n m : ℕ) → n ≡ suc m → n < 2 ^ 127 → to_z w128 (of_z w128 (pos 0 -ℤ to_z w128 n)) ≡ negsuc m
negative_is n m e low =
    let same : to_z w128 n ≡ pos n = to_z_pos w128 low in
    let minus : pos 0 -ℤ pos n ≡ negsuc m = omega (arith, ints, e) in
    let fits : SFits w128 (negsuc m) = fits_signed_from_abs w128 (negsuc m) (omega (arith, e, low)) in
    ap (λ (z : ℤ). to_z w128 (of_z w128 (pos 0 -ℤ z))) same ∙ ap (λ (z : ℤ). to_z w128 (of_z w128 z)) minus
    ∙ to_z-of_z w128 (negsuc m) fits

pub overflow_cast-result : goal.overflow_cast-result
overflow_cast-result c =
    let low = low_units c.args.p c.in_ok-units-in-Some.units
    (omega (arith, c.requires)) c.in_ok-units-in-Some.ensures.0 in
    fits_signed_from_abs w128 (pos c.in_ok-units-in-Some.units) low

pub overflow_sub-result : goal.overflow_sub-result
overflow_sub-result c =
    let n = c.in_ok-units-in-Some.units in
    let low = low_units c.args.p n (omega (arith, c.requires)) c.in_ok-units-in-Some.ensures.0 in
    let same : to_z w128 n ≡ pos n = to_z_pos w128 low in
    rw same (fits_signed_from_abs w128 (pos 0 -ℤ pos n) (omega (arith, ints, low)))

pub overflow_cast-result-in-None : goal.overflow_cast-result-in-None
overflow_cast-result-in-None c =
    fits_signed_from_abs w128 (pos c.in_ok-units-in-None.units)
    (low_units c.args.p c.in_ok-units-in-None.units (omega (arith, c.requires)) c.in_ok-units-in-None.ensures.0)

pub returns-else-units-eq0 : goal.returns-else-units-eq0
returns-else-units-eq0 c =
    let n = c.in_ok-units-in-Some.units in
    let low = low_units c.args.p n (omega (arith, c.requires)) c.in_ok-units-in-Some.ensures.0 in
    let next : n ≡ suc (n - 1) = omega (arith, c.if-units-eq0.false) in
    let word = minus_word c.args.p c.args.s (n - 1) c.args.word.now c.in-Some.text.now c.requires
    (omega (arith, next, c.in_ok-units-in-Some.ensures.0)) c.in-Some.ensures.found
    (c.in_ok-units-in-Some.ensures.1 ∙ ap (unsigned_text c.args.s) next) in
    subst (λ (z : ℤ). IsWordOf (types.Decimal c.args.p c.args.s) (values.Decimal z) c.args.word.now)
    (sym (negative_is n (n - 1) next low)) word

pub returns-in_ok-units-in-None : goal.returns-in_ok-units-in-None
returns-in_ok-units-in-None c =
    let n = c.in_ok-units-in-None.units in
    let low = low_units c.args.p n (omega (arith, c.requires)) c.in_ok-units-in-None.ensures.0 in
    subst (λ (z : ℤ). IsWordOf (types.Decimal c.args.p c.args.s) (values.Decimal z) c.args.word.now)
    (sym (to_z_pos w128 low))
    (plus_word c.args.p c.args.s n c.args.word.now c.requires c.in_ok-units-in-None.ensures.0
    c.in_ok-units-in-None.ensures.1)

pub returns-in_err-units-in-None : goal.returns-in_err-units-in-None
returns-in_err-units-in-None c = rw c.from_residual-in_err-units-in-None.ensures
    (no_plus c.args.p c.args.s c.args.word.now c.requires (λ rest e. c.in-None.ensures.none refl rest e)
    (λ n low e. c.in_err-units-in-None.ensures n low e))
