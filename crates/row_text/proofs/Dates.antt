-- The date of a day's number, by counting the years and the months that began by then.
use Rattle.std.proofs.Common.{◌≡◌, ℕ, zero, suc, ◌+◌, ◌-◌, ◌<◌, ◌≤◌, inl, inr, Bool, true, false, cond, nat_le, refl}
use Rattle.std.proofs.Common.{sym, ap, ◌∙◌, add-zero, ℤ, pos, negsuc, unsigned_abs, arith}
use Rattle.std.specs.List.{range_with_len, count_by}
use Rattle.std.proofs.lemmas.List.Sums.{sum_by-cons}
use Rattle.std.proofs.lemmas.Bool.{cases_lt, le-leb, lt-leb}
use Rattle.jiff_core.specs.Calendar.{days_in_year, days_of_months, day_count, days_from_civil, IsCivilDate}
use Rattle.jiff_core.proofs.SignedLemmas.{signed_arith}
use Rattle.jiff_core.proofs.MarchLemmas.{day_count-early}
use Rattle.jiff_core.proofs.CalendarLemmas.{days_from_civil-day_count, day_count-lt_year, days_of_months-zero}
use Rattle.jiff_core.proofs.CalendarLemmas.{days_of_months_more, days_of_months_mono, day_of_year_bound}
use Rattle.jiff_core.proofs.CalendarLemmas.{day_count-day_of_year, day_count-later_year, day_count-epoch}
use Rattle.row_text.specs.Calendar.{day_number, year_of_day, month_of_day, day_of_day}

-- a test that the first numbers of a range pass, and no later one
count_first : (p : ℕ → Bool) (a n k : ℕ) → k ≤ n → ((i : ℕ) → i < k → p (a + i) ≡ true)
    → ((i : ℕ) → k ≤ i → i < n → p (a + i) ≡ false)
    → count_by p (range_with_len a n) ≡ k
count_first p a zero k few passes fails = let none : k ≡ 0 = omega (arith, few) in sym none
count_first p a (suc n) zero few passes fails =
    let f : ℕ → ℕ = λ x. cond (p x) 1 0 in
    let head : f a ≡ 0 = ap (λ b. cond b 1 0) (ap p (sym (add-zero a)) ∙ fails 0 (omega arith) (omega arith)) in
    let rest = count_first p (a + 1) n zero (omega arith) (λ i h. absurd (omega (arith, h)))
    (λ i l h. ap p (omega arith) ∙ fails (suc i) (omega arith) (omega (arith, h))) in
    omega (arith, sum_by-cons f a (range_with_len (a + 1) n), head, rest)
count_first p a (suc n) (suc k) few passes fails =
    let f : ℕ → ℕ = λ x. cond (p x) 1 0 in
    let head : f a ≡ 1 = ap (λ b. cond b 1 0) (ap p (sym (add-zero a)) ∙ passes 0 (omega arith)) in
    let rest = count_first p (a + 1) n k (omega (arith, few))
    (λ i h. ap p (omega arith) ∙ passes (suc i) (omega (arith, h)))
    (λ i l h. ap p (omega arith) ∙ fails (suc i) (omega (arith, l)) (omega (arith, h))) in
    omega (arith, sum_by-cons f a (range_with_len (a + 1) n), head, rest)

-- the first day of a later year comes after all days of this one
later_year : (y z : ℕ) → y < z → day_count (pos y) 1 1 + days_in_year (pos y) ≤ day_count (pos z) 1 1
later_year y z lt = day_count-later_year (pos y) (pos z) (omega (arith, signed_arith)) (omega (arith, signed_arith, lt))

start_le : (y z : ℕ) → y ≤ z → day_count (pos y) 1 1 ≤ day_count (pos z) 1 1
start_le y z le = elim (cases_lt y z) [
  | inl lt ↦ omega (arith, later_year y z lt)
  | inr over ↦ let same : y ≡ z = omega (arith, le, over) in rw same (omega arith)
]

-- a day of a year
pub record IsDayOf (year month day n : ℕ) : Type 0 where
  pub civil : IsCivilDate (pos year) month day
  pub counted : day_count (pos year) month day ≡ 4371953 + n
  pub from_1970 : 1970 ≤ year
  pub up_to_2038 : year ≤ 2038

-- the number of a day from 1970 on is its count less that of 1970-01-01
number_is : (y m : ℕ) → 1970 ≤ y → 1 ≤ m → day_number y m 1 + 4371953 ≡ day_count (pos y) m 1
number_is y m late some =
    let after : 4371953 ≤ day_count (pos y) m 1 =
    omega (
      arith,
      day_count-epoch,
      start_le 1970 y late,
      day_count-day_of_year (pos y) m 1 (omega arith),
      days_of_months_mono (pos y) 0 (m - 1) (omega arith),
      days_of_months-zero (pos y),
    ) in
    let n = day_count (pos y) m 1 - 4371953 in
    let same : days_from_civil (pos y) m 1 ≡ pos n =
    omega (arith, signed_arith, days_from_civil-day_count (pos y) m 1, after) in
    omega (arith, ap unsigned_abs same, after)

-- the months of a year begin in order
month_starts : (y m : ℕ) → day_count (pos y) m 1 ≡ day_count (pos y) 1 1 + days_of_months (pos y) (m - 1)
month_starts y m = omega (arith, day_count-day_of_year (pos y) m 1 (omega arith))

-- its year
pub year_is : (year month day n : ℕ) → IsDayOf year month day n → year_of_day n ≡ year
unfolding year_of_day
year_is year month day n h =
    let place = day_count-day_of_year (pos year) month day h.civil.2.0 in
    let most = day_of_year_bound (pos year) month day h.civil in
    let count = count_first (λ y. nat_le (day_number y 1 1) n) 1970 69 (year - 1969)
    (omega (arith, h.up_to_2038))
    (λ i lt. le-leb (day_number (1970 + i) 1 1) n (omega (
      arith,
      h.counted,
      h.from_1970,
      place,
      number_is (1970 + i) 1 (omega arith) (omega arith),
      start_le (1970 + i) year (omega (arith, lt)),
    )))
    (λ i le below. lt-leb (day_number (1970 + i) 1 1) n (omega (
      arith,
      h.counted,
      h.from_1970,
      place,
      most,
      number_is (1970 + i) 1 (omega arith) (omega arith),
      later_year year (1970 + i) (omega (arith, le)),
    )))
    in omega (arith, count, h.from_1970)

-- its month
pub month_is : (year month day n : ℕ) → IsDayOf year month day n → month_of_day n ≡ month
unfolding month_of_day
month_is year month day n h =
    let y = pos year in
    let place = day_count-day_of_year y month day h.civil.2.0 in
    let whole = days_of_months_more y month h.civil.1.0 in
    rw (year_is year month day n h) (count_first (λ m. nat_le (day_number year m 1) n) 1 12 month h.civil.1.1
    (λ i lt. le-leb (day_number year (1 + i) 1) n (omega (
      arith,
      h.counted,
      place,
      number_is year (1 + i) h.from_1970 (omega arith),
      month_starts year (1 + i),
      days_of_months_mono y (1 + i - 1) (month - 1) (omega (arith, lt)),
    )))
    (λ i le below. lt-leb (day_number year (1 + i) 1) n (omega (
      arith,
      h.counted,
      place,
      whole,
      h.civil.2.1,
      number_is year (1 + i) h.from_1970 (omega arith),
      month_starts year (1 + i),
      days_of_months_mono y month (1 + i - 1) (omega (arith, le)),
    ))))

-- its day
pub day_is : (year month day n : ℕ) → IsDayOf year month day n → day_of_day n ≡ day
unfolding day_of_day
day_is year month day n h =
    let y = pos year in
    rw (year_is year month day n h, month_is year month day n h) (omega (
      arith,
      h.counted,
      day_count-day_of_year y month day h.civil.2.0,
      month_starts year month,
      number_is year month h.from_1970 h.civil.1.0,
      h.civil.2.0,
    ))

first_of_2039 : day_count (pos 2039) 1 1 ≡ 4397155
first_of_2039 = day_count-early (pos 2039) 12038 1 1 refl (omega arith) (omega arith) (omega arith)

-- the same of a year that may be negative
pub record IsDayIn (y : ℤ) (month day n : ℕ) : Type 0 where
  pub number : ℕ
  pub same : y ≡ pos number
  pub is : IsDayOf number month day n

-- a date whose day has a number up to that of 2038-01-19
pub is_day : (y : ℤ) (month day n : ℕ) → IsCivilDate y month day → days_from_civil y month day ≡ pos n → n ≤ 24855
    → IsDayIn y month day n
is_day (negsuc k) month day n civil number few =
    let counted : day_count (negsuc k) month day ≡ 4371953 + n =
    omega (arith, signed_arith, days_from_civil-day_count (negsuc k) month day, number) in
    absurd (omega (
      arith,
      counted,
      day_count-epoch,
      day_count-lt_year (negsuc k) month day (pos 1970) 1 1 civil (omega arith) (omega (arith, signed_arith)),
    ))
is_day (pos year) month day n civil number few =
    let counted : day_count (pos year) month day ≡ 4371953 + n =
    omega (arith, signed_arith, days_from_civil-day_count (pos year) month day, number) in
    let late : 1970 ≤ year = elim (cases_lt year 1970) [
      | inl lt ↦ absurd (omega (
        arith,
        counted,
        day_count-epoch,
        day_count-lt_year (pos year) month day (pos 1970) 1 1
            civil (omega arith) (omega (arith, signed_arith, lt)),
      ))
      | inr le ↦ le
    ] in
    let early : year ≤ 2038 = elim (cases_lt 2038 year) [
      | inl over ↦ absurd (omega (
        arith,
        counted,
        few,
        first_of_2039,
        start_le 2039 year (omega (arith, over)),
        day_count-day_of_year (pos year) month day civil.2.0,
      ))
      | inr le ↦ le
    ] in
    record {
      number = year;
      same = refl;
      is = record { civil = civil; counted = counted; from_1970 = late; up_to_2038 = early };
    }
