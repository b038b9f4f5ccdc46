-- Dates of the calendar, by their three numbers.
use Rattle.std.proofs.Common.{◌≡◌, ◌≢◌, ℕ, ◌<◌, ◌≤◌, Option, Some, None, Result, Ok, Err, sym, ap, ◌∙◌, subst, ℤ, pos}
use Rattle.std.proofs.Common.{arith}
use Rattle.std.specs.Prelude.{MatchOption, IfOk}
use Rattle.std.specs.Result.{result_ok}
use Rattle.std.specs.Result.{IsOk}
use Rattle.std.proofs.lemmas.Bool.{false≢true}
use Rattle.std.proofs.lemmas.Int.{ints}
use Rattle.std.proofs.Math.Facts.{to_z_pos}
use mir.Syntax.{w8, w16}
use mir.Val.{to_z}
use Rattle.jiff_core.specs.Calendar.{IsCivilDate, IsDate, days_from_civil}
use Rattle.jiff_core.specs.Date.{epoch_day, IsYmd}
use Rattle.jiff_core.specs.declared.civil.date.Date.{Date}
use Rattle.jiff_core.proofs.DateLemmas.{civil}
use Rattle.row_text.specs.calls.Moments.{IsDateOf}
use Rattle.row_text.proofs.Seconds.{civil_of, date_is}

same_year : (y : ℕ) → y < 10000 → to_z w16 y ≡ pos y
same_year y low = to_z_pos w16 (omega (arith, low))

same_small : (m : ℕ) → m < 100 → to_z w8 m ≡ pos m
same_small m low = to_z_pos w8 (omega (arith, low))

civil_date : (y m d : ℕ) → IsCivilDate (pos y) m d → IsDate (pos y) (pos m) (pos d)
civil_date y m d is = (
  is.0,
  (omega (arith, ints, is.1.0), omega (arith, ints, is.1.1)),
  (omega (arith, ints, is.2.0), omega (arith, ints, is.2.1)),
)

is_date : (y m d : ℕ) → y < 10000 → m < 100 → d < 100 → IsCivilDate (pos y) m d
    → IsDate (to_z w16 y) (to_z w8 m) (to_z w8 d)
is_date y m d ly lm ld is = rw (same_year y ly, same_small m lm, same_small d ld) (civil_date y m d is)

-- the numbers of a date
pub record HasNumbers (y m d : ℕ) (date : Date) : Type 0 where
  pub year : date.year ≡ pos y
  pub month : date.month ≡ m
  pub day : date.day ≡ d

numbers_of : (y m d : ℕ) (date : Date) → y < 10000 → m < 100 → d < 100
    → IsYmd (to_z w16 y) (to_z w8 m) (to_z w8 d) date → HasNumbers y m d date
numbers_of y m d date ly lm ld is =
    let month : pos date.month ≡ pos m = is.1 ∙ same_small m lm in
    let day : pos date.day ≡ pos d = is.2 ∙ same_small d ld in
    record { year = is.0 ∙ same_year y ly; month = cc month; day = cc day }

epoch_is : (y m d : ℕ) (date : Date) → HasNumbers y m d date → epoch_day date ≡ days_from_civil (pos y) m d
epoch_is y m d date is =
    ap (λ (k : ℤ). days_from_civil k date.month date.day) is.year
    ∙ ap (λ (k : ℕ). days_from_civil (pos y) k date.day) is.month ∙ ap (days_from_civil (pos y) m) is.day

civil_is : (y m d : ℕ) (date : Date) → HasNumbers y m d date → IsCivilDate (pos y) m d
civil_is y m d date is =
    subst (λ (k : ℤ). IsCivilDate k m d) is.year (subst (λ (k : ℕ). IsCivilDate date.year k d) is.month
    (subst (λ (k : ℕ). IsCivilDate date.year date.month k) is.day (civil date)))

-- the answer of the count of days
pub counted_is : (y m d : ℕ) (date : Date) (r : Option ℕ) → HasNumbers y m d date
    → MatchOption r ((n : ℕ) → n ≤ 24855 → epoch_day date ≢ pos n) (λ n. (n ≤ 24855) × (epoch_day date ≡ pos n))
    → MatchOption r ((n : ℕ) → n ≤ 24855 → ¬ (IsDateOf n y m d)) (λ n. (n ≤ 24855) × IsDateOf n y m d)
counted_is y m d date None is none = λ n few dated.
    none n few (epoch_is y m d date is ∙ (civil_of n y m d few dated).1)
counted_is y m d date (Some n) is found =
    (found.0, date_is n y m d found.0 (civil_is y m d date is) (sym (epoch_is y m d date is) ∙ found.1))

abbrev Answers : ℕ → ℕ → ℕ → Option Date → Type 0
Answers y m d found = MatchOption found (¬ (IsCivilDate (pos y) m d))
    (λ date. (date.year ≡ pos y) × (date.month ≡ m) × (date.day ≡ d))

pub date_answer : {E : Type 0} (y m d : ℕ) (r : Result Date E) (found : Option Date) → y < 10000 → m < 100 → d < 100
    → found ≡ result_ok r → (IsDate (to_z w16 y) (to_z w8 m) (to_z w8 d) → IsOk r)
    → IfOk r (IsYmd (to_z w16 y) (to_z w8 m) (to_z w8 d)) → Answers y m d found
date_answer y m d (Ok x) found ly lm ld e all is =
    let numbers = numbers_of y m d x ly lm ld is in
    subst (Answers y m d) (sym e) (numbers.year, numbers.month, numbers.day)
date_answer y m d (Err x) found ly lm ld e all is =
    subst (Answers y m d) (sym e) (λ civil. false≢true (all (is_date y m d ly lm ld civil)))
