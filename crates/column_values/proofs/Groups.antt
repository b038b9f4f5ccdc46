-- The groups of a number's digits, read and written (decimal).
use Rattle.std.proofs.Common.{◌≡◌, ℕ, zero, suc, ◌+◌, ◌-◌, ◌*◌, ◌/◌, ◌%◌, ◌^◌, ◌<◌, ◌≤◌, true, cond, List, [], ◌∷◌}
use Rattle.std.proofs.Common.{◌++◌, length, take, drop, replicate, slice_index, sum, sum_by, refl, sym, ap, ◌∙◌, subst}
use Rattle.std.proofs.Common.{inl, inr, arith, add-one, pow-add, length-append}
use Rattle.std.specs.Prelude.{All, Option, Some, None, nat_lt}
use Rattle.std.proofs.lemmas.Bool.{cases_lt, lt-ltb, le-ltb}
use Rattle.std.proofs.lemmas.List.{length-drop, take-append-drop, drop-drop, take_more}
use Rattle.std.proofs.lemmas.List.Elements.{All-nil, All-cons, All-head, All-tail, All-append, All-replicate, All-drop}
use Rattle.std.proofs.lemmas.List.Sums.{sum_by-append, sum_by-cons}
use Rattle.std.proofs.lemmas.List.Folds.{sum_by-replicate}
use Rattle.std.proofs.lemmas.Nat.{div-add-mod', div-mul-add}
use Rattle.std.proofs.Math.Nat.{pow-suc, mod-lt, mod-eq_of_lt, div-lt_iff_lt-mul, mul-add-mod_self_right}
use Rattle.std.proofs.Math.Nat.{mul-le-mul_left, pow-le-pow_right}
use Rattle.std.proofs.Math.Seq.{drop_at, drop-cons}
use Rattle.std.proofs.lemmas.Option.{same_Some}
use Rattle.byteorder.specs.Numbers.{length-bytes_high_first}
use Rattle.page_source.specs.Pages.{num, be_bytes, AreBytes}
use Rattle.page_source.proofs.Numbers.{num-is_big}
use Rattle.column_values.specs.Lengths.{group_length, decimal_groups, decimal_length}
use Rattle.column_values.specs.Decimals.{grouped}
use Rattle.column_values.proofs.Bytes.{num-be_bytes, be_bytes-front, are_be_bytes}

abbrev pub Few : List ℕ → Type 0
Few groups = All (λ d. d ≤ 9) groups

-- a group of digits has room in its bytes, with its top bit clear
pub group_fits : (d : ℕ) → d ≤ 9 → 10 ^ d ≤ 256 ^ group_length d
group_fits zero h = omega arith
group_fits (suc zero) h = omega arith
group_fits (suc (suc zero)) h = omega arith
group_fits (suc (suc (suc zero))) h = omega arith
group_fits (suc (suc (suc (suc zero)))) h = omega arith
group_fits (suc (suc (suc (suc (suc zero))))) h = omega arith
group_fits (suc (suc (suc (suc (suc (suc zero)))))) h = omega arith
group_fits (suc (suc (suc (suc (suc (suc (suc zero))))))) h = omega arith
group_fits (suc (suc (suc (suc (suc (suc (suc (suc zero)))))))) h = omega arith
group_fits (suc (suc (suc (suc (suc (suc (suc (suc (suc zero))))))))) h = omega arith
group_fits (suc (suc (suc (suc (suc (suc (suc (suc (suc (suc d)))))))))) h = absurd (omega arith)

-- the number of the groups, read from the front; none where a group is too great
abbrev pub ungrouped : List ℕ → ℕ → List ℕ → Option ℕ
ungrouped [] units bytes = Some units
ungrouped (d ∷ groups) units bytes =
    cond (nat_lt (num bytes 0 (group_length d)) (10 ^ d))
    (ungrouped groups (units * 10 ^ d + num bytes 0 (group_length d)) (drop (group_length d) bytes)) None

pub length-grouped : (groups : List ℕ) (n : ℕ) → length (grouped groups n) ≡ sum_by group_length groups
length-grouped [] n = refl
length-grouped (d ∷ groups) n =
    length-append (be_bytes (group_length d) (n / 10 ^ sum groups)) (grouped groups (n % 10 ^ sum groups))
    ∙ (λ i. length-bytes_high_first (group_length d) (n / 10 ^ sum groups) i + length-grouped groups
    (n % 10 ^ sum groups) i)
    ∙ sym (sum_by-cons group_length d groups)

pub are_grouped : (groups : List ℕ) (n : ℕ) → AreBytes (grouped groups n)
are_grouped [] n = All-nil (λ (b : ℕ). b < 256)
are_grouped (d ∷ groups) n =
    All-append (λ (b : ℕ). b < 256) (be_bytes (group_length d) (n / 10 ^ sum groups))
    (grouped groups (n % 10 ^ sum groups))
    (are_be_bytes (group_length d) (n / 10 ^ sum groups)) (are_grouped groups (n % 10 ^ sum groups))

pub some_power : (n : ℕ) → 1 ≤ 10 ^ n
some_power zero = omega arith
some_power (suc n) = let rest = some_power n in rw (pow-suc 10 n) (omega (arith, rest))

-- the first digits of a number are below their power
pub first_digits : (d n p : ℕ) → 1 ≤ p → n < 10 ^ d * p → n / p < 10 ^ d
first_digits d n p some low = (div-lt_iff_lt-mul {k = p} {x = n} {y = 10 ^ d} some).1 low

pub last_digits : (n p : ℕ) → 1 ≤ p → n % p < p
last_digits n p some = mod-lt n some

parted : (u n a b : ℕ) → 1 ≤ b → (u * a + n / b) * b + n % b ≡ u * (a * b) + n
parted u n a b some = let e = div-add-mod' n b in omega (arith, e)

-- what was written is read
pub ungrouped-grouped : (groups : List ℕ) (units n : ℕ) → Few groups → n < 10 ^ sum groups
    → ungrouped groups units (grouped groups n) ≡ Some (units * 10 ^ sum groups + n)
ungrouped-grouped [] units n few low = ap Some (omega arith)
ungrouped-grouped (d ∷ groups) units n few low =
    let p : ℕ = 10 ^ sum groups in
    let w : ℕ = group_length d in
    let some : 1 ≤ p = some_power (sum groups) in
    let total : 10 ^ sum (d ∷ groups) ≡ 10 ^ d * p = ap (λ (k : ℕ). 10 ^ k) (sum_by-cons (λ (x : ℕ). x) d groups)
    ∙ pow-add 10 d (sum groups) in
    let small : n < 10 ^ d * p = subst (λ (k : ℕ). n < k) total low in
    let first : n / p < 10 ^ d = first_digits d n p some small in
    let few_d : d ≤ 9 = All-head (λ (x : ℕ). x ≤ 9) d groups few in
    let fits : n / p < 256 ^ w = omega (arith, group_fits d few_d) in
    let number : num (be_bytes w (n / p) ++ grouped groups (n % p)) 0 w ≡ n / p =
    num-be_bytes w (n / p) (grouped groups (n % p)) fits in
    let dropped : drop w (be_bytes w (n / p) ++ grouped groups (n % p)) ≡ grouped groups (n % p) =
    drop_at (be_bytes w (n / p)) (grouped groups (n % p)) w (length-bytes_high_first w (n / p)) in
    let test : nat_lt (n / p) (10 ^ d) ≡ true = lt-ltb (n / p) (10 ^ d) first in
    let rest = ungrouped-grouped groups (units * 10 ^ d + n / p) (n % p) (All-tail (λ (x : ℕ). x ≤ 9) d groups few)
    (last_digits n p some) in
    rw (number, test, dropped) (rest ∙ ap Some (parted units n (10 ^ d) p some
    ∙ ap (λ (k : ℕ). units * k + n) (sym total)))

nothing_left : (bytes : List ℕ) → length bytes ≡ 0 → bytes ≡ []
nothing_left [] e = refl
nothing_left (b ∷ bytes) e = absurd (omega arith)

div_parts : (v p m : ℕ) → m < p → (v * p + m) / p ≡ v
div_parts v p m low = div-mul-add v p m low

mod_parts : (v p m : ℕ) → m < p → (v * p + m) % p ≡ m
mod_parts v p m low = mul-add-mod_self_right v p m ∙ mod-eq_of_lt low

-- the groups of this number, from their place among the bytes on
abbrev IsReadAs : List ℕ → ℕ → ℕ → List ℕ → Type 0
IsReadAs groups units n bytes = (m : ℕ) × (m < 10 ^ sum groups) × (n ≡ units * 10 ^ sum groups + m) ×
    (bytes ≡ grouped groups m)

group_read : (d : ℕ) (groups : List ℕ) (units n : ℕ) (bytes : List ℕ) → AreBytes bytes
    → length bytes ≡ sum_by group_length (d ∷ groups)
    → num bytes 0 (group_length d) < 10 ^ d → IsReadAs groups (units * 10 ^ d + num bytes 0 (group_length d)) n
    (drop (group_length d) bytes) → IsReadAs (d ∷ groups) units n bytes
group_read d groups units n bytes are size low (m, m_low, n_is, rest_is) =
    let p : ℕ = 10 ^ sum groups in
    let w : ℕ = group_length d in
    let v : ℕ = num bytes 0 w in
    let total : 10 ^ sum (d ∷ groups) ≡ 10 ^ d * p = ap (λ (k : ℕ). 10 ^ k) (sum_by-cons (λ (x : ℕ). x) d groups)
    ∙ pow-add 10 d (sum groups) in
    let long : w ≤ length bytes = omega (arith, sum_by-cons group_length d groups) in
    let whole : v * p + m < 10 ^ d * p = let rows : p * suc v ≤ p * 10 ^ d = mul-le-mul_left p low in
    omega (arith, rows) in
    let first : be_bytes w ((v * p + m) / p) ≡ take w bytes = ap (be_bytes w) (div_parts v p m m_low)
    ∙ be_bytes-front w bytes long are in
    let rest : grouped groups ((v * p + m) % p) ≡ drop w bytes = ap (grouped groups) (mod_parts v p m m_low)
    ∙ sym rest_is in (
      v * p + m,
      subst (λ (k : ℕ). v * p + m < k) (sym total) whole,
      rw total (omega (arith, n_is)),
      sym (take-append-drop w bytes) ∙ sym (λ i. first i ++ rest i),
    )

-- what was read is written
pub grouped-ungrouped : (groups : List ℕ) (units n : ℕ) (bytes : List ℕ) → AreBytes bytes
    → length bytes ≡ sum_by group_length groups
    → ungrouped groups units bytes ≡ Some n → (m : ℕ) × (m < 10 ^ sum groups) × (n ≡ units * 10 ^ sum groups + m) ×
    (bytes ≡ grouped groups m)
grouped-ungrouped [] units n bytes are size is = (
  0,
  omega arith,
  omega (arith, same_Some units n is),
  nothing_left bytes size,
)
grouped-ungrouped (d ∷ groups) units n bytes are size is =
    elim (cases_lt (num bytes 0 (group_length d)) (10 ^ d)) [
      | inl low ↦ group_read d groups units n bytes are size low
          (grouped-ungrouped groups (units * 10 ^ d + num bytes 0 (group_length d)) n (drop (group_length d) bytes)
          (All-drop (λ (b : ℕ). b < 256) (group_length d) bytes are)
          (omega (arith, length-drop (group_length d) bytes, sum_by-cons group_length d groups))
          (rw (lt-ltb (num bytes 0 (group_length d)) (10 ^ d) low) at is))
      | inr high ↦ let none : ◌≡◌ {A = Option ℕ} None (Some n) =
          rw (le-ltb (num bytes 0 (group_length d)) (10 ^ d) high) at is in cc
    ]

-- the groups of a decimal
pub few_groups : (p s : ℕ) → Few (decimal_groups p s)
few_groups p s =
    All-append (λ (d : ℕ). d ≤ 9) ((p - s) % 9 ∷ replicate ((p - s) / 9) 9 ++ replicate (s / 9) 9) (s % 9 ∷ [])
    (All-append (λ (d : ℕ). d ≤ 9) ((p - s) % 9 ∷ replicate ((p - s) / 9) 9) (replicate (s / 9) 9)
    (All-cons (λ (d : ℕ). d ≤ 9) ((p - s) % 9) (replicate ((p - s) / 9) 9) (omega arith)
    (All-replicate (λ (d : ℕ). d ≤ 9) ((p - s) / 9) 9 (omega arith)))
    (All-replicate (λ (d : ℕ). d ≤ 9) (s / 9) 9 (omega arith)))
    (All-cons (λ (d : ℕ). d ≤ 9) (s % 9) [] (omega arith) (All-nil (λ (d : ℕ). d ≤ 9)))

pub sum-groups : (p s : ℕ) → s ≤ p → sum (decimal_groups p s) ≡ p
sum-groups p s within =
    let f = λ (x : ℕ). x in
    let a : List ℕ = replicate ((p - s) / 9) 9 in
    let b : List ℕ = replicate (s / 9) 9 in
    let c : List ℕ = s % 9 ∷ [] in
    let one = sum_by-append f ((p - s) % 9 ∷ a ++ b) c in
    let two = sum_by-append f ((p - s) % 9 ∷ a) b in
    let three = sum_by-cons f ((p - s) % 9) a in
    let four = sum_by-cons f (s % 9) [] in
    omega (arith, one, two, three, four, sum_by-replicate f ((p - s) / 9) 9, sum_by-replicate f (s / 9) 9)

-- sums over the groups up to a place, and from it on
pub sum_take : (f : ℕ → ℕ) (xs : List ℕ) (i : ℕ) → i < length xs
    → sum_by f (take (i + 1) xs) ≡ sum_by f (take i xs) + f (slice_index xs i)
sum_take f xs i below =
    ap (sum_by f) (take_more xs i 0 below) ∙ sum_by-append f (take i xs) (slice_index xs i ∷ [])
    ∙ ap (λ (n : ℕ). sum_by f (take i xs) + n) (one f (slice_index xs i))
  where
    one : (f : ℕ → ℕ) (x : ℕ) → sum_by f (x ∷ []) ≡ f x
    one f x = omega (arith, sum_by-cons f x [])

pub rest_from : (xs : List ℕ) (i : ℕ) → i < length xs → drop i xs ≡ slice_index xs i ∷ drop (i + 1) xs
rest_from xs i below = rw add-one (drop-cons xs i 0 below)

pub sum_drop : (f : ℕ → ℕ) (xs : List ℕ) (i : ℕ) → i < length xs
    → sum_by f (drop i xs) ≡ f (slice_index xs i) + sum_by f (drop (i + 1) xs)
sum_drop f xs i below = ap (sum_by f) (rest_from xs i below) ∙ sum_by-cons f (slice_index xs i) (drop (i + 1) xs)

pub sum_whole : (f : ℕ → ℕ) (xs : List ℕ) (i : ℕ) → sum_by f (take i xs) + sum_by f (drop i xs) ≡ sum_by f xs
sum_whole f xs i = sym (sum_by-append f (take i xs) (drop i xs)) ∙ ap (sum_by f) (take-append-drop i xs)

num-drop : (w at : ℕ) (xs : List ℕ) → num (drop at xs) 0 w ≡ num xs at w
num-drop w at xs = num-is_big (drop at xs) 0 w ∙ sym (num-is_big xs at w)

-- a group was read
pub units_step : (groups : List ℕ) (i at digits width number units : ℕ) (plain : List ℕ) → i < length groups
    → digits ≡ slice_index groups i → width ≡ group_length digits
    → number ≡ num plain at width → number < 10 ^ digits
    → ungrouped (drop i groups) units (drop at plain) ≡ ungrouped (drop (i + 1) groups)
    (units * 10 ^ digits + number) (drop (at + width) plain)
units_step groups i at digits width number units plain below digit wide is low =
    let here : num (drop at plain) 0 (group_length digits) ≡ number = num-drop (group_length digits) at plain
    ∙ rw (← wide) (sym is) in
    let onward : drop (group_length digits) (drop at plain) ≡ drop (at + width) plain =
    rw (← wide) (drop-drop width at plain) in
    rw (rest_from groups i below, ← digit, here, lt-ltb number (10 ^ digits) low, onward) refl

-- or it was too great
pub units_stop : (groups : List ℕ) (i at digits width number units : ℕ) (plain : List ℕ) → i < length groups
    → digits ≡ slice_index groups i → width ≡ group_length digits
    → number ≡ num plain at width → 10 ^ digits ≤ number → ungrouped (drop i groups) units (drop at plain) ≡ None
units_stop groups i at digits width number units plain below digit wide is high =
    let here : num (drop at plain) 0 (group_length digits) ≡ number = num-drop (group_length digits) at plain
    ∙ rw (← wide) (sym is) in
    rw (rest_from groups i below, ← digit, here, le-ltb number (10 ^ digits) high) refl

-- what is read so far stays below its digits
pub units_low : (a d units number : ℕ) → units < 10 ^ a → number < 10 ^ d → units * 10 ^ d + number < 10 ^ (a + d)
units_low a d units number low small =
    let rows : 10 ^ d * suc units ≤ 10 ^ d * 10 ^ a = mul-le-mul_left (10 ^ d) low in
    rw (pow-add 10 a d) (omega (arith, rows))

pub power_most : (n : ℕ) → n ≤ 38 → 10 ^ n ≤ 10 ^ 38
power_most n few = pow-le-pow_right {n = 10} (omega arith) {i = n} {j = 38} few

pub decimal_length_sum : (p s : ℕ) → decimal_length p s ≡ sum_by group_length (decimal_groups p s)
unfolding decimal_length
decimal_length_sum p s = refl

-- the digits up to a group are at most all
pub sum_most : (f : ℕ → ℕ) (xs : List ℕ) (i : ℕ) → sum_by f (take i xs) ≤ sum_by f xs
sum_most f xs i = omega (arith, sum_whole f xs i)

-- a group that is written
pub grouped_step : (groups : List ℕ) (i digits rest left : ℕ) → i < length groups → digits ≡ slice_index groups i
    → left ≡ sum (drop (i + 1) groups)
    → grouped (drop i groups) rest ≡ be_bytes (group_length digits) (rest / 10 ^ left) ++ grouped
    (drop (i + 1) groups) (rest % 10 ^ left)
grouped_step groups i digits rest left below digit is = rw (rest_from groups i below, ← digit, is) refl

-- the first byte of a group has its top bit clear
top_low : (d q : ℕ) (rest : List ℕ) → 1 ≤ d → d ≤ 9 → q < 10 ^ d
    → slice_index (be_bytes (group_length d) q ++ rest) 0 < 128
top_low zero q rest some h low = absurd (omega arith)
top_low (suc zero) q rest some h low = omega arith
top_low (suc (suc zero)) q rest some h low = omega arith
top_low (suc (suc (suc zero))) q rest some h low = omega arith
top_low (suc (suc (suc (suc zero)))) q rest some h low = omega arith
top_low (suc (suc (suc (suc (suc zero))))) q rest some h low = omega arith
top_low (suc (suc (suc (suc (suc (suc zero)))))) q rest some h low = omega arith
top_low (suc (suc (suc (suc (suc (suc (suc zero))))))) q rest some h low = omega arith
top_low (suc (suc (suc (suc (suc (suc (suc (suc zero)))))))) q rest some h low = omega arith
top_low (suc (suc (suc (suc (suc (suc (suc (suc (suc zero))))))))) q rest some h low = omega arith
top_low (suc (suc (suc (suc (suc (suc (suc (suc (suc (suc d)))))))))) q rest some h low = absurd (omega arith)

pub grouped_head : (groups : List ℕ) (n : ℕ) → Few groups → n < 10 ^ sum groups → slice_index (grouped groups n) 0 < 128
grouped_head [] n few low = omega arith
grouped_head (zero ∷ groups) n few low =
    let p : ℕ = 10 ^ sum groups in
    grouped_head groups (n % p) (All-tail (λ (x : ℕ). x ≤ 9) zero groups few)
    (last_digits n p (some_power (sum groups)))
grouped_head (suc d ∷ groups) n few low =
    let p : ℕ = 10 ^ sum groups in
    let total : 10 ^ sum (suc d ∷ groups) ≡ 10 ^ suc d * p =
    ap (λ (k : ℕ). 10 ^ k) (sum_by-cons (λ (x : ℕ). x) (suc d) groups) ∙ pow-add 10 (suc d) (sum groups) in
    let small : n < 10 ^ suc d * p = subst (λ (k : ℕ). n < k) total low in
    top_low (suc d) (n / p) (grouped groups (n % p)) (omega arith) (All-head (λ (x : ℕ). x ≤ 9) (suc d) groups few)
    (first_digits (suc d) n p (some_power (sum groups)) small)

-- a number of one group more
pub power_parts : (d : ℕ) (groups : List ℕ) (n : ℕ) → n < 10 ^ sum (d ∷ groups) → n < 10 ^ d * 10 ^ sum groups
power_parts d groups n low =
    subst (λ (k : ℕ). n < k) (ap (λ (k : ℕ). 10 ^ k) (sum_by-cons (λ (x : ℕ). x) d groups)
    ∙ pow-add 10 d (sum groups)) low
