-- A date or a time has one text, and a text is that of one.
use Rattle.std.proofs.Common.{◌≡◌, ℕ, ◌+◌, ◌-◌, ◌*◌, ◌/◌, ◌%◌, ◌^◌, ◌<◌, ◌≤◌, List, ◌∷◌, ◌++◌, inl, inr, sym, ap}
use Rattle.std.proofs.Common.{◌∙◌, arith, pow-add}
use Rattle.std.proofs.Math.Nat.{div-lt_iff_lt-mul}
use Rattle.std.proofs.lemmas.Nat.{div-add-mod'}
use Rattle.column_values.specs.Moments.{IsFraction}
use Rattle.column_values.proofs.Groups.{some_power}
use Rattle.row_text.specs.Digits.{two_digits, behind_point}
use Rattle.row_text.specs.Values.{date_text, time_text, timestamp_text}
use Rattle.row_text.proofs.FixedDigits.{two_injective, four_injective, behind_injective}
use Rattle.row_text.proofs.Days.{parts_of, same_day}

pub record SameDate (y m d y2 m2 d2 : ℕ) (s t : List ℕ) : Type 0 where
  pub year : y ≡ y2
  pub month : m ≡ m2
  pub day : d ≡ d2
  pub rest : s ≡ t

pub record IsLowDate (y m d : ℕ) : Type 0 where
  pub year : y ≤ 9999
  pub month : m ≤ 12
  pub day : d ≤ 31

pub date_injective : (y m d y2 m2 d2 : ℕ) (s t : List ℕ) → IsLowDate y m d → IsLowDate y2 m2 d2
    → date_text y m d ++ s ≡ date_text y2 m2 d2 ++ t → SameDate y m d y2 m2 d2 s t
date_injective y m d y2 m2 d2 s t one two e =
    let a = four_injective y y2 (45 ∷ (two_digits m ++ 45 ∷ (two_digits d ++ s)))
    (45 ∷ (two_digits m2 ++ 45 ∷ (two_digits d2 ++ t)))
    (omega (arith, one.year)) (omega (arith, two.year)) e in
    let f : two_digits m ++ 45 ∷ (two_digits d ++ s) ≡ two_digits m2 ++ 45 ∷ (two_digits d2 ++ t) = cc (a.1) in
    let b = two_injective m m2 (45 ∷ (two_digits d ++ s)) (45 ∷ (two_digits d2 ++ t)) (omega (arith, one.month))
    (omega (arith, two.month)) f in
    let g : two_digits d ++ s ≡ two_digits d2 ++ t = cc (b.1) in
    let c = two_injective d d2 s t (omega (arith, one.day)) (omega (arith, two.day)) g in
    record { year = a.0; month = b.0; day = c.0; rest = c.1 }

-- the units of a fraction
pub fraction_low : (f micro : ℕ) → f ≤ 6 → IsFraction f micro → micro / 10 ^ (6 - f) < 10 ^ f
fraction_low f micro few is =
    let six : ℕ = 6 in
    let both : six ≡ f + (6 - f) = omega (arith, few) in
    let all : 10 ^ six ≡ 10 ^ f * 10 ^ (6 - f) = ap (λ (k : ℕ). 10 ^ k) both ∙ pow-add 10 f (6 - f) in
    (div-lt_iff_lt-mul {k = 10 ^ (6 - f)} {x = micro} {y = 10 ^ f} (some_power (6 - f))).1
    (omega (arith, is.below, all))

pub fraction_back : (f micro : ℕ) → IsFraction f micro → micro ≡ micro / 10 ^ (6 - f) * 10 ^ (6 - f)
fraction_back f micro is = omega (arith, div-add-mod' micro (10 ^ (6 - f)), is.digits)

pub record SameTime (h m s u h2 m2 s2 u2 : ℕ) : Type 0 where
  pub hour : h ≡ h2
  pub minute : m ≡ m2
  pub second : s ≡ s2
  pub micro : u ≡ u2

pub record IsLowTime (f h m s u : ℕ) : Type 0 where
  pub hour : h ≤ 23
  pub minute : m ≤ 59
  pub second : s ≤ 59
  pub is_fraction : IsFraction f u

pub time_injective : (f h m s u h2 m2 s2 u2 : ℕ) → f ≤ 6 → IsLowTime f h m s u → IsLowTime f h2 m2 s2 u2
    → time_text f h m s u ≡ time_text f h2 m2 s2 u2 → SameTime h m s u h2 m2 s2 u2
time_injective f h m s u h2 m2 s2 u2 few one two e =
    let x : List ℕ = behind_point f (u / 10 ^ (6 - f)) in
    let y : List ℕ = behind_point f (u2 / 10 ^ (6 - f)) in
    let a = two_injective h h2 (58 ∷ (two_digits m ++ 58 ∷ (two_digits s ++ x)))
    (58 ∷ (two_digits m2 ++ 58 ∷ (two_digits s2 ++ y))) (omega (arith, one.hour)) (omega (arith, two.hour)) e in
    let g : two_digits m ++ 58 ∷ (two_digits s ++ x) ≡ two_digits m2 ++ 58 ∷ (two_digits s2 ++ y) = cc (a.1) in
    let b = two_injective m m2 (58 ∷ (two_digits s ++ x)) (58 ∷ (two_digits s2 ++ y)) (omega (arith, one.minute))
    (omega (arith, two.minute)) g in
    let k : two_digits s ++ x ≡ two_digits s2 ++ y = cc (b.1) in
    let c = two_injective s s2 x y (omega (arith, one.second)) (omega (arith, two.second)) k in
    let units = behind_injective f (u / 10 ^ (6 - f)) (u2 / 10 ^ (6 - f)) (fraction_low f u few one.is_fraction)
    (fraction_low f u2 few two.is_fraction) c.1 in
    record {
      hour = a.0;
      minute = b.0;
      second = c.0;
      micro = fraction_back f u one.is_fraction ∙ ap (λ (n : ℕ). n * 10 ^ (6 - f)) units
          ∙ sym (fraction_back f u2 two.is_fraction);
    }

same_second : (s t : ℕ) → s / 86400 ≡ t / 86400 → s / 3600 % 24 ≡ t / 3600 % 24 → s / 60 % 60 ≡ t / 60 % 60
    → s % 60 ≡ t % 60 → s ≡ t
same_second s t day hour minute second = omega (arith, day, hour, minute, second)

pub record SameStamp (s u s2 u2 : ℕ) : Type 0 where
  pub seconds : s ≡ s2
  pub micro : u ≡ u2

low_clock : (f seconds micro : ℕ) → IsFraction f micro
    → IsLowTime f (seconds / 3600 % 24) (seconds / 60 % 60) (seconds % 60) micro
low_clock f seconds micro is = record {
  hour = omega arith;
  minute = omega arith;
  second = omega arith;
  is_fraction = is;
}

pub stamp_injective : (f s u s2 u2 : ℕ) → f ≤ 6 → s ≤ 2147483647 → s2 ≤ 2147483647 → IsFraction f u → IsFraction f u2
    → timestamp_text f s u ≡ timestamp_text f s2 u2 → SameStamp s u s2 u2
unfolding timestamp_text
stamp_injective f s u s2 u2 few most most2 one two e =
    let p = parts_of s most in
    let q = parts_of s2 most2 in
    let x : List ℕ = 32 ∷ time_text f (s / 3600 % 24) (s / 60 % 60) (s % 60) u in
    let y : List ℕ = 32 ∷ time_text f (s2 / 3600 % 24) (s2 / 60 % 60) (s2 % 60) u2 in
    let dates : date_text p.year p.month p.day ++ x ≡ date_text q.year q.month q.day ++ y =
    ap (λ (t : List ℕ). t ++ x) (sym p.text) ∙ e ∙ ap (λ (t : List ℕ). t ++ y) q.text in
    let date = date_injective p.year p.month p.day q.year q.month q.day x y
    (record { year = p.least; month = p.months; day = p.days })
    (record { year = q.least; month = q.months; day = q.days }) dates in
    let times : time_text f (s / 3600 % 24) (s / 60 % 60) (s % 60) u
    ≡ time_text f (s2 / 3600 % 24) (s2 / 60 % 60) (s2 % 60) u2 = cc (date.rest) in
    let time = time_injective f (s / 3600 % 24) (s / 60 % 60) (s % 60) u (s2 / 3600 % 24) (s2 / 60 % 60) (s2 % 60) u2
    few (low_clock f s u one) (low_clock f s2 u2 two) times in
    record {
      seconds = elim p.which [
        | inl none ↦ elim q.which [
          | inl none2 ↦ none.0 ∙ sym none2.0
          | inr some2 ↦ absurd (omega (arith, none.1, date.year, some2.1.from_1970))
        ]
        | inr some ↦ elim q.which [
          | inl none2 ↦ absurd (omega (arith, none2.1, date.year, some.1.from_1970))
          | inr some2 ↦ same_second s s2
              (same_day p.year p.month p.day q.year q.month q.day (s / 86400) (s2 / 86400) some.1 some2.1 date.year
              date.month date.day) time.hour time.minute time.second
        ]
      ];
      micro = time.micro;
    }
