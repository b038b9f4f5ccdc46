-- Each day up to 2038-01-19 has a date, and no other day has it.
use Rattle.std.proofs.Common.{◌≡◌, ℕ, zero, suc, ◌+◌, ◌/◌, ◌≤◌, ◌⊎◌, inl, inr, refl, sym, ap, ◌∙◌, ℤ, pos}
use Rattle.std.proofs.Common.{arith}
use Rattle.std.proofs.lemmas.Bool.{cases_lt, cases_eq, ne_eqb}
use Rattle.jiff_core.specs.Calendar.{days_in_month, day_count, days_from_civil, IsCivilDate}
use Rattle.jiff_core.proofs.SignedLemmas.{signed_arith}
use Rattle.jiff_core.proofs.CalendarLemmas.{days_from_civil-day_count, day_count-epoch, day_count-day}
use Rattle.jiff_core.proofs.CalendarLemmas.{day_count-next_month}
use Rattle.jiff_core.proofs.CalendarLemmas.{day_count-next_year, day_count-last_of_year, days_in_month_bounds}
use Rattle.row_text.specs.Calendar.{month_of_day, day_of_day}
use Rattle.row_text.specs.Values.{date_text, day_text}
use Rattle.row_text.proofs.Dates.{IsDayOf, is_day, year_is, month_is, day_is}

pub record DateOf (n : ℕ) : Type 0 where
  pub year : ℕ
  pub month : ℕ
  pub day : ℕ
  pub is : IsDayOf year month day n

dated : (year month day n : ℕ) → n ≤ 24855 → IsCivilDate (pos year) month day
    → day_count (pos year) month day ≡ 4371953 + n → DateOf n
dated year month day n few civil counted =
    let number : days_from_civil (pos year) month day ≡ pos n =
    omega (arith, signed_arith, days_from_civil-day_count (pos year) month day, counted) in
    let found = is_day (pos year) month day n civil number few in
    record { year = found.number; month = month; day = day; is = found.is }

last_day : (year month day n : ℕ) → month ≡ 12 → days_in_month (pos year) month ≤ day
    → IsDayOf year month day n → (month ≡ 12) × (day ≡ 31)
last_day year month day n last full is =
    let long : days_in_month (pos year) month ≡ 31 = ap (days_in_month (pos year)) last in
    (last, omega (arith, long, full, is.civil.2.1))

next_date : (n : ℕ) → suc n ≤ 24855 → DateOf n → DateOf (suc n)
next_date n few before =
    let is = before.is in
    let y : ℤ = pos before.year in
    elim (cases_lt before.day (days_in_month y before.month)) [
      | inl more ↦ dated before.year before.month (before.day + 1) (suc n) few
          (is.civil.0, is.civil.1, (omega arith, omega (arith, more)))
          (omega (
            arith,
            day_count-day y before.month before.day (before.day + 1) is.civil.2.0
                (omega arith),
            is.counted,
          ))
      | inr full ↦ elim (cases_lt before.month 12) [
        | inl more ↦ dated before.year (before.month + 1) 1 (suc n) few (
          is.civil.0,
          (omega arith, omega (arith, more)),
          (
            omega arith,
            omega (
              arith,
              (days_in_month_bounds y (before.month + 1)).1,
            ),
          ),
        )
            (omega (
              arith,
              day_count-next_month y before.month is.civil.1.0,
              day_count-day y before.month before.day 1 is.civil.2.0 (omega arith),
              is.counted,
              full,
              is.civil.2.1,
            ))
        | inr last ↦
            let ends = last_day before.year before.month before.day n (omega (arith, last, is.civil.1.1)) full is in
            let counted : day_count y 12 31 ≡ 4371953 + n =
            ap (λ (m : ℕ). day_count y m 31) (sym ends.0) ∙ ap (day_count y before.month) (sym ends.1) ∙ is.counted in
            dated (before.year + 1) 1 1 (suc n) few (
              (omega (arith, signed_arith), omega (arith, signed_arith, is.up_to_2038)),
              (omega arith, omega arith),
              (omega arith, omega (arith, (days_in_month_bounds (pos (before.year + 1)) 1).1)),
            )
            (omega (
              arith,
              day_count-next_year y (pos (before.year + 1)) (omega (arith, signed_arith)) (omega (arith, signed_arith)),
              day_count-last_of_year y,
              counted,
            ))
      ]
    ]

pub date_of : (n : ℕ) → n ≤ 24855 → DateOf n
date_of zero few = dated 1970 1 1 0 few (
  (omega (arith, signed_arith), omega (arith, signed_arith)),
  (omega arith, omega arith),
  (omega arith, omega (arith, (days_in_month_bounds (pos 1970) 1).1)),
)
    day_count-epoch
date_of (suc n) few = next_date n few (date_of n (omega (arith, few)))

-- what stands for a second's date
pub record DayParts (seconds : ℕ) : Type 0 where
  pub year : ℕ
  pub month : ℕ
  pub day : ℕ
  pub text : day_text seconds ≡ date_text year month day
  pub least : year ≤ 9999
  pub months : month ≤ 12
  pub days : day ≤ 31
  pub which : ((seconds ≡ 0) × (year ≡ 0) × (month ≡ 0) × (day ≡ 0))
      ⊎ ((1 ≤ seconds) × IsDayOf year month day (seconds / 86400))

pub parts_of : (seconds : ℕ) → seconds ≤ 2147483647 → DayParts seconds
parts_of seconds most = elim (cases_eq seconds 0) [
  | inl none ↦ record {
    year = 0;
    month = 0;
    day = 0;
    text = rw none refl;
    least = omega arith;
    months = omega arith;
    days = omega arith;
    which = inl (none, refl, refl, refl);
  }
  | inr some ↦ let n : ℕ = seconds / 86400 in
      let found = date_of n (omega (arith, most)) in
      let is = found.is in
      record {
        year = found.year;
        month = found.month;
        day = found.day;
        text = rw (ne_eqb seconds 0 some) (ap (λ (y : ℕ). date_text y (month_of_day n) (day_of_day n))
            (year_is found.year found.month found.day n is)
            ∙ ap (λ (m : ℕ). date_text found.year m (day_of_day n)) (month_is found.year found.month found.day n is)
            ∙ ap (date_text found.year found.month) (day_is found.year found.month found.day n is));
        least = omega (arith, is.up_to_2038);
        months = is.civil.1.1;
        days = omega (arith, is.civil.2.1, (days_in_month_bounds (pos found.year) found.month).0);
        which = inr (omega (arith, some), is);
      }
]

-- one date, one day
pub same_day : (y m d y2 m2 d2 a b : ℕ) → IsDayOf y m d a → IsDayOf y2 m2 d2 b → y ≡ y2 → m ≡ m2 → d ≡ d2 → a ≡ b
same_day y m d y2 m2 d2 a b one two ey em ed =
    let counts : day_count (pos y) m d ≡ day_count (pos y2) m2 d2 =
    ap (λ (k : ℕ). day_count (pos k) m d) ey ∙ ap (λ (k : ℕ). day_count (pos y2) k d) em
    ∙ ap (day_count (pos y2) m2) ed in
    omega (arith, counts, one.counted, two.counted)
