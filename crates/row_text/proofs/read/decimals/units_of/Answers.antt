use Rattle.std.proofs.Common.{◌≡◌, length, drop, ◌<◌, ◌≤◌, ◌+◌, ◌-◌, ◌*◌, ◌/◌, ◌^◌, ℕ, List, ◌++◌, Option, Some, None}
use Rattle.std.proofs.Common.{sym, ap, ◌∙◌, arith}
use Rattle.std.specs.Fmt.{decimal}
use Rattle.std.proofs.lemmas.List.{take-append-drop}
use Rattle.row_text.specs.calls.Words.{unsigned_text}
use Rattle.row_text.proofs.DecimalWords.{units_text, units_low, unit_parts, whole_low, most_power}
use Rattle.row_text.proofs.read.decimals.units_of.Goals as goal

pub returns-in_err-whole : goal.returns-in_err-whole
returns-in_err-whole c = rw c.from_residual.ensures (λ n low e.
    let parts = unit_parts c.args.s n c.point_size-size.result c.args.text.now c.split_at.result.0.now
    c.split_at.result.1.now
    c.point_size-size.ensures c.split_at.ensures.front c.split_at.ensures.back e in
    let most = most_power c.args.p (omega (arith, c.requires)) in
    let bad : ◌≡◌ {A = Option ℕ} None (Some (n / 10 ^ c.args.s)) =
    c.in_err-whole.ensures.only (n / 10 ^ c.args.s) (omega (arith, low, most)) parts.whole_is in
    cc bad)

pub returns-in_err-part : goal.returns-in_err-part
returns-in_err-part c = rw c.from_residual-in_err-part.ensures (λ n low e.
    let parts = unit_parts c.args.s n c.point_size-size.result c.args.text.now c.split_at.result.0.now
    c.split_at.result.1.now
    c.point_size-size.ensures c.split_at.ensures.front c.split_at.ensures.back e in
    c.in_err-part.ensures n parts.part_is)

pub returns-then-whole-ten_to : goal.returns-then-whole-ten_to
returns-then-whole-ten_to c = λ n low e.
    let parts = unit_parts c.args.s n c.point_size-size.result c.args.text.now c.split_at.result.0.now
    c.split_at.result.1.now
    c.point_size-size.ensures c.split_at.ensures.front c.split_at.ensures.back e in
    let most = most_power c.args.p (omega (arith, c.requires)) in
    let power : c.ten_to.result ≡ 10 ^ (c.args.p - c.args.s) =
    c.ten_to.ensures.value ∙ ap (λ (k : ℕ). 10 ^ k) c.from.ensures in
    let only : ◌≡◌ {A = Option ℕ} (Some c.in_ok-whole.whole) (Some (n / 10 ^ c.args.s)) =
    c.in_ok-whole.ensures.only (n / 10 ^ c.args.s) (omega (arith, low, most)) parts.whole_is in
    let same : c.in_ok-whole.whole ≡ n / 10 ^ c.args.s = cc only in
    omega (arith, c.if-whole-ten_to.true, power, same, whole_low c.args.p c.args.s n (omega (arith, c.requires)) low)

units_at : (p s whole part ten : ℕ) → p ≤ 38 → s ≤ p → whole < 10 ^ (p - s) → part < 10 ^ s → ten ≡ 10 ^ s
    → (whole * ten + part < 10 ^ p) × (whole * ten + part < 10 ^ 38)
units_at p s whole part ten few less low_whole low_part is =
    let low : whole * ten + part < 10 ^ p = rw is (units_low p s whole part less low_whole low_part) in
    (low, omega (arith, low, most_power p few))

pub overflow_mul-result : goal.overflow_mul-result
overflow_mul-result c =
    let power : c.ten_to.result ≡ 10 ^ (c.args.p - c.args.s) =
    c.ten_to.ensures.value ∙ ap (λ (k : ℕ). 10 ^ k) c.from.ensures in
    let ten : c.ten_to-2.result ≡ 10 ^ c.args.s = c.ten_to-2.ensures.value ∙ ap (λ (k : ℕ). 10 ^ k) c.from-2.ensures in
    let fits = units_at c.args.p c.args.s c.in_ok-whole.whole c.in_ok-part.part c.ten_to-2.result
    (omega (arith, c.requires)) (omega (arith, c.requires)) (omega (arith, c.if-whole-ten_to.false, power))
    c.in_ok-part.ensures.0 ten in
    omega (arith, fits.1)

pub overflow_add-result : goal.overflow_add-result
overflow_add-result c =
    let power : c.ten_to.result ≡ 10 ^ (c.args.p - c.args.s) =
    c.ten_to.ensures.value ∙ ap (λ (k : ℕ). 10 ^ k) c.from.ensures in
    let ten : c.ten_to-2.result ≡ 10 ^ c.args.s = c.ten_to-2.ensures.value ∙ ap (λ (k : ℕ). 10 ^ k) c.from-2.ensures in
    let fits = units_at c.args.p c.args.s c.in_ok-whole.whole c.in_ok-part.part c.ten_to-2.result
    (omega (arith, c.requires)) (omega (arith, c.requires)) (omega (arith, c.if-whole-ten_to.false, power))
    c.in_ok-part.ensures.0 ten in
    omega (arith, fits.1)

pub returns : goal.returns
returns c =
    let s = c.args.s in
    let whole = c.in_ok-whole.whole in
    let part = c.in_ok-part.part in
    let text = c.args.text.now in
    let power : c.ten_to.result ≡ 10 ^ (c.args.p - s) =
    c.ten_to.ensures.value ∙ ap (λ (k : ℕ). 10 ^ k) c.from.ensures in
    let ten : c.ten_to-2.result ≡ 10 ^ s = c.ten_to-2.ensures.value ∙ ap (λ (k : ℕ). 10 ^ k) c.from-2.ensures in
    let fits = units_at c.args.p s whole part c.ten_to-2.result
    (omega (arith, c.requires)) (omega (arith, c.requires)) (omega (arith, c.if-whole-ten_to.false, power))
    c.in_ok-part.ensures.0 ten in
    let place : ℕ = length text - c.point_size-size.result in
    let is : text ≡ unsigned_text s (whole * c.ten_to-2.result + part) =
    sym (take-append-drop place text)
    ∙ ap (λ (t : List ℕ). t ++ drop place text) (sym c.split_at.ensures.front ∙ c.in_ok-whole.ensures.found)
    ∙ ap (λ (t : List ℕ). decimal whole ++ t) (sym c.split_at.ensures.back ∙ c.in_ok-part.ensures.1)
    ∙ units_text s whole part c.in_ok-part.ensures.0
    ∙ ap (λ (k : ℕ). unsigned_text s (whole * k + part)) (sym ten) in
    (fits.0, is)
