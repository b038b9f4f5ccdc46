-- Words of dates, years and moments.
use Rattle.std.proofs.Common.{◌≡◌, ◌≢◌, ℕ, ◌+◌, ◌-◌, ◌*◌, ◌/◌, ◌^◌, ◌<◌, ◌≤◌, List, [], ◌∷◌, ◌++◌, length, get_or, take}
use Rattle.std.proofs.Common.{drop}
use Rattle.std.proofs.Common.{refl, sym, ap, ◌∙◌, subst, arith, pow-add}
use Rattle.std.proofs.lemmas.List.{take-append-drop}
use Rattle.column_values.specs.declared.kind.ColumnType.TheVariants as types
use Rattle.column_values.specs.declared.value.Value.{Value}
use Rattle.column_values.specs.declared.value.Value.TheVariants as values
use Rattle.column_values.specs.Moments.{IsYear, IsFraction, IsMoment, year_byte, packed_moment, fraction_bytes}
use Rattle.column_values.specs.Spell.{packed_date}
use Rattle.column_values.proofs.MomentValues.{year_spelled, year_in_range, date_spelled, moment_spelled}
use Rattle.page_source.specs.Pages.{be_bytes}
use Rattle.row_text.specs.declared.read.moments.MomentParts.{MomentParts}
use Rattle.row_text.specs.Digits.{two_digits, four_digits, behind_point}
use Rattle.row_text.specs.Values.{quoted, date_text, clock_text, time_text, moment_text}
use Rattle.row_text.specs.calls.Words.{IsWordOf}
use Rattle.row_text.specs.calls.Moments.{IsMomentWord}
use Rattle.row_text.proofs.FixedDigits.{two_injective, four_injective, behind_injective}
use Rattle.row_text.proofs.OneMoment.{fraction_low, fraction_back}
use Rattle.row_text.proofs.OneNumber.{inside_one}
use Rattle.column_values.proofs.Groups.{some_power}
use Rattle.std.proofs.Math.Nat.{mul-le-mul, mul-mod_left}
use Rattle.std.proofs.lemmas.Nat.{div-mul-add}

pub four_bytes : (word : List ℕ) → length word ≡ 4
    → word ≡ get_or word 0 0 ∷ get_or word 1 0 ∷ get_or word 2 0 ∷ get_or word 3 0 ∷ []
four_bytes [] e = absurd (omega (arith, e))
four_bytes (a ∷ []) e = absurd (omega (arith, e))
four_bytes (a ∷ b ∷ []) e = absurd (omega (arith, e))
four_bytes (a ∷ b ∷ c ∷ []) e = absurd (omega (arith, e))
four_bytes (a ∷ b ∷ c ∷ d ∷ []) e = refl
four_bytes (a ∷ b ∷ c ∷ d ∷ x ∷ more) e = absurd (omega (arith, e))

-- years
pub year_word : (y : ℕ) (word : List ℕ) → IsYear y → word ≡ four_digits y → IsWordOf types.Year (values.Year y) word
year_word y word is e =
    let spelled = year_spelled y (year_byte y) is refl in
    record { is_value = (year_byte y, spelled.are_bytes, spelled.spell); spelled = e }

pub no_year : (y : ℕ) (word : List ℕ) → y < 10000 → word ≡ four_digits y → (IsYear y → ⊥) → (v : Value)
    → ¬ (IsWordOf types.Year v word)
no_year y word low e out (values.Year z) is =
    let range = year_in_range z is.is_value in
    let same = (four_injective z y [] [] (omega (arith, range)) low (sym is.spelled ∙ e)).0 in
    out (subst IsYear same range)
no_year y word low e out _ is = absurd is.is_value.2

-- dates
pub date_word : (y m d : ℕ) (inside word : List ℕ) → y < 10000 → (m ≤ 12) × (d ≤ 31) → word ≡ quoted inside
    → inside ≡ date_text y m d → IsWordOf types.Date (values.Date y m d) word
date_word y m d inside word low range e f =
    let spelled = date_spelled y m d (be_bytes 3 (packed_date y m d)) (omega (arith, low)) range.0 range.1 refl in
    record { is_value = (be_bytes 3 (packed_date y m d), spelled.are_bytes, spelled.spell); spelled = e ∙ ap quoted f }

pub no_date : (word : List ℕ) → ((y m d : ℕ) → y < 10000 → (m ≤ 12) × (d ≤ 31) → word ≢ quoted (date_text y m d))
    → (v : Value) → ¬ (IsWordOf types.Date v word)
no_date word none (values.Date y m d) is =
    let spell = is.is_value.2 in
    none y m d (omega (arith, spell.greatest_year)) (spell.greatest_month, spell.greatest_day) is.spelled
no_date word none _ is = absurd is.is_value.2

pub record OneDate (y m d y2 m2 d2 : ℕ) (s t : List ℕ) : Type 0 where
  pub year : y ≡ y2
  pub month : m ≡ m2
  pub day : d ≡ d2
  pub rest : s ≡ t

pub one_date : (y m d y2 m2 d2 : ℕ) (s t : List ℕ) → y < 10000 → m < 100 → d < 100 → y2 < 10000 → m2 < 100 → d2 < 100
    → date_text y m d ++ s ≡ date_text y2 m2 d2 ++ t → OneDate y m d y2 m2 d2 s t
one_date y m d y2 m2 d2 s t ly lm ld ly2 lm2 ld2 e =
    let a = four_injective y y2 (45 ∷ (two_digits m ++ 45 ∷ (two_digits d ++ s)))
    (45 ∷ (two_digits m2 ++ 45 ∷ (two_digits d2 ++ t))) ly ly2 e in
    let f : two_digits m ++ 45 ∷ (two_digits d ++ s) ≡ two_digits m2 ++ 45 ∷ (two_digits d2 ++ t) = cc (a.1) in
    let b = two_injective m m2 (45 ∷ (two_digits d ++ s)) (45 ∷ (two_digits d2 ++ t)) lm lm2 f in
    let g : two_digits d ++ s ≡ two_digits d2 ++ t = cc (b.1) in
    let c = two_injective d d2 s t ld ld2 g in
    record { year = a.0; month = b.0; day = c.0; rest = c.1 }

pub other_date : (y m d : ℕ) (inside word : List ℕ) → y < 10000 → m < 100 → d < 100 → word ≡ quoted inside
    → inside ≡ date_text y m d → ((m ≤ 12) × (d ≤ 31) → ⊥) → (v : Value) → ¬ (IsWordOf types.Date v word)
other_date y m d inside word ly lm ld e f out = no_date word (λ y2 m2 d2 low range g.
    let same = one_date y m d y2 m2 d2 [] [] ly lm ld low (omega (arith, range.0)) (omega (arith, range.1))
    (sym f ∙ inside_one inside (date_text y2 m2 d2) (sym e ∙ g)) in
    out (omega (arith, same.month, range.0), omega (arith, same.day, range.1)))

-- moments
pub moment_word : (f : ℕ) (moment : MomentParts) (word : List ℕ) → f ≤ 6 → IsMomentWord f moment word
    → (moment.date.month ≤ 12) × (moment.date.day ≤ 31) × (moment.time.hour ≤ 23) × (moment.time.minute ≤ 59)
    × (moment.time.second ≤ 59)
    → IsWordOf (types.DateTime f) (values.DateTime moment.date.year moment.date.month moment.date.day moment.time.hour
    moment.time.minute moment.time.second moment.micro) word
moment_word f moment word few is range =
    let y = moment.date.year in
    let mo = moment.date.month in
    let d = moment.date.day in
    let h = moment.time.hour in
    let mi = moment.time.minute in
    let s = moment.time.second in
    let whole : IsMoment y mo d h mi s = record {
      greatest_year = omega (arith, is.year);
      greatest_month = range.0;
      greatest_day = range.1;
      greatest_hour = range.2;
      greatest_minute = range.3;
      greatest_second = range.4;
    } in
    let bytes : List ℕ = be_bytes 5 (2 ^ 39 + packed_moment y mo d h mi s) ++ fraction_bytes f moment.micro in
    let spelled = moment_spelled f y mo d h mi s moment.micro bytes few whole is.fraction refl in
    record { is_value = (bytes, spelled.are_bytes, spelled.spell); spelled = is.spelled }

pub no_moment : (f : ℕ) (word : List ℕ)
    → ((y mo d h mi s n : ℕ) → IsMoment y mo d h mi s → IsFraction f n → word ≢ quoted (moment_text f y mo d h mi s n))
    → (v : Value) → ¬ (IsWordOf (types.DateTime f) v word)
no_moment f word none (values.DateTime y mo d h mi s n) is =
    let spell = is.is_value.2 in none y mo d h mi s n spell.is_moment spell.fraction.is_fraction is.spelled
no_moment f word none _ is = absurd is.is_value.2

pub record OneTime (h m s h2 m2 s2 : ℕ) (x y : List ℕ) : Type 0 where
  pub hour : h ≡ h2
  pub minute : m ≡ m2
  pub second : s ≡ s2
  pub rest : x ≡ y

one_time : (h m s h2 m2 s2 : ℕ) (x y : List ℕ) → h < 100 → m < 100 → s < 100 → h2 < 100 → m2 < 100 → s2 < 100
    → clock_text h m s ++ x ≡ clock_text h2 m2 s2 ++ y → OneTime h m s h2 m2 s2 x y
one_time h m s h2 m2 s2 x y lh lm ls lh2 lm2 ls2 e =
    let a = two_injective h h2 (58 ∷ (two_digits m ++ 58 ∷ (two_digits s ++ x)))
    (58 ∷ (two_digits m2 ++ 58 ∷ (two_digits s2 ++ y))) lh lh2 e in
    let g : two_digits m ++ 58 ∷ (two_digits s ++ x) ≡ two_digits m2 ++ 58 ∷ (two_digits s2 ++ y) = cc (a.1) in
    let b = two_injective m m2 (58 ∷ (two_digits s ++ x)) (58 ∷ (two_digits s2 ++ y)) lm lm2 g in
    let k : two_digits s ++ x ≡ two_digits s2 ++ y = cc (b.1) in
    let c = two_injective s s2 x y ls ls2 k in
    record { hour = a.0; minute = b.0; second = c.0; rest = c.1 }

pub record OneMomentWord (f : ℕ) (moment : MomentParts) (y mo d h mi s n : ℕ) : Type 0 where
  pub year : moment.date.year ≡ y
  pub month : moment.date.month ≡ mo
  pub day : moment.date.day ≡ d
  pub hour : moment.time.hour ≡ h
  pub minute : moment.time.minute ≡ mi
  pub second : moment.time.second ≡ s
  pub micro : moment.micro ≡ n

pub record AreLow (y mo d h mi s : ℕ) : Type 0 where
  pub year : y < 10000
  pub month : mo < 100
  pub day : d < 100
  pub hour : h < 100
  pub minute : mi < 100
  pub second : s < 100

pub one_moment : (f : ℕ) (moment : MomentParts) (word : List ℕ) (y mo d h mi s n : ℕ) → f ≤ 6
    → IsMomentWord f moment word → AreLow y mo d h mi s → IsFraction f n
    → word ≡ quoted (moment_text f y mo d h mi s n) → OneMomentWord f moment y mo d h mi s n
one_moment f moment word y mo d h mi s n few is low part e =
    let y1 = moment.date.year in
    let mo1 = moment.date.month in
    let d1 = moment.date.day in
    let h1 = moment.time.hour in
    let mi1 = moment.time.minute in
    let s1 = moment.time.second in
    let n1 = moment.micro in
    let inside = inside_one (moment_text f y1 mo1 d1 h1 mi1 s1 n1) (moment_text f y mo d h mi s n)
    (sym is.spelled ∙ e) in
    let date = one_date y1 mo1 d1 y mo d (32 ∷ time_text f h1 mi1 s1 n1)
    (32 ∷ time_text f h mi s n) is.year is.month is.day
    low.year low.month low.day inside in
    let times : time_text f h1 mi1 s1 n1 ≡ time_text f h mi s n = cc (date.rest) in
    let time = one_time h1 mi1 s1 h mi s (behind_point f (n1 / 10 ^ (6 - f))) (behind_point f (n / 10 ^ (6 - f)))
    is.hour is.minute is.second low.hour low.minute low.second times in
    let units = behind_injective f (n1 / 10 ^ (6 - f)) (n / 10 ^ (6 - f)) (fraction_low f n1 few is.fraction)
    (fraction_low f n few part) time.rest in
    record {
      year = date.year;
      month = date.month;
      day = date.day;
      hour = time.hour;
      minute = time.minute;
      second = time.second;
      micro = fraction_back f n1 is.fraction ∙ ap (λ (k : ℕ). k * 10 ^ (6 - f)) units ∙ sym (fraction_back f n part);
    }

pub other_moment : (f : ℕ) (moment : MomentParts) (word : List ℕ) → f ≤ 6 → IsMomentWord f moment word
    → ((moment.date.month ≤ 12) × (moment.date.day ≤ 31) × (moment.time.hour ≤ 23) × (moment.time.minute ≤ 59)
    × (moment.time.second ≤ 59) → ⊥) → (v : Value) → ¬ (IsWordOf (types.DateTime f) v word)
other_moment f moment word few is out = no_moment f word (λ y mo d h mi s n whole part e.
    let same = one_moment f moment word y mo d h mi s n few is (record {
      year = omega (arith, whole.greatest_year);
      month = omega (arith, whole.greatest_month);
      day = omega (arith, whole.greatest_day);
      hour = omega (arith, whole.greatest_hour);
      minute = omega (arith, whole.greatest_minute);
      second = omega (arith, whole.greatest_second);
    }) part e in
    out (
      omega (arith, same.month, whole.greatest_month),
      omega (arith, same.day, whole.greatest_day),
      omega (
        arith,
        same.hour,
        whole.greatest_hour,
      ),
      omega (arith, same.minute, whole.greatest_minute),
      omega (arith, same.second, whole.greatest_second),
    ))

-- a fraction from its units
pub micro_fits : (f units power : ℕ) → f ≤ 6 → units < 10 ^ f → power ≡ 10 ^ (6 - f) → units * power < 1000000
micro_fits f units power few low is =
    let six : ℕ = 6 in
    let both : six ≡ f + (6 - f) = omega (arith, few) in
    let all : 10 ^ six ≡ 10 ^ f * 10 ^ (6 - f) = ap (λ (k : ℕ). 10 ^ k) both ∙ pow-add 10 f (6 - f) in
    let some = some_power (6 - f) in
    let lower : units + 1 ≤ 10 ^ f = omega (arith, low) in
    let same : 10 ^ (6 - f) ≤ 10 ^ (6 - f) = omega arith in
    let step : (units + 1) * power ≤ 10 ^ f * 10 ^ (6 - f) = rw is (mul-le-mul lower same) in
    omega (arith, step, all, some, is)

pub micro_is : (f units power : ℕ) → f ≤ 6 → units < 10 ^ f → power ≡ 10 ^ (6 - f)
    → IsFraction f (units * power) × (units * power / 10 ^ (6 - f) ≡ units)
micro_is f units power few low is =
    let fits = micro_fits f units power few low is in
    let some = some_power (6 - f) in (
      record { below = fits; digits = rw is (mul-mod_left units (10 ^ (6 - f))) },
      rw is (ap (λ (k : ℕ). k / 10 ^ (6 - f)) (omega arith) ∙ div-mul-add units (10 ^ (6 - f)) 0 some),
    )

-- the parts of a moment's text
pub clock_part : (f y mo d h mi s n : ℕ) (inside rest clock : List ℕ) → inside ≡ moment_text f y mo d h mi s n
    → rest ≡ drop 10 inside → clock ≡ take 9 rest → clock ≡ 32 ∷ clock_text h mi s
clock_part f y mo d h mi s n inside rest clock e r c =
    c ∙ ap (take 9) (r ∙ ap (drop 10) e)

pub fraction_part : (f y mo d h mi s n : ℕ) (inside rest fraction : List ℕ) → inside ≡ moment_text f y mo d h mi s n
    → rest ≡ drop 10 inside → fraction ≡ drop 9 rest → fraction ≡ behind_point f (n / 10 ^ (6 - f))
fraction_part f y mo d h mi s n inside rest fraction e r c =
    c ∙ ap (drop 9) (r ∙ ap (drop 10) e)

pub date_part : (f y mo d h mi s n : ℕ) (inside date : List ℕ) → inside ≡ moment_text f y mo d h mi s n
    → date ≡ take 10 inside → date ≡ date_text y mo d
date_part f y mo d h mi s n inside date e c = c ∙ ap (take 10) e

pub whole_moment : (f y mo d h mi s n : ℕ) (inside date rest clock fraction : List ℕ) → date ≡ take 10 inside
    → rest ≡ drop 10 inside → clock ≡ take 9 rest → fraction ≡ drop 9 rest → date ≡ date_text y mo d
    → clock ≡ 32 ∷ clock_text h mi s → fraction ≡ behind_point f (n / 10 ^ (6 - f))
    → inside ≡ moment_text f y mo d h mi s n
whole_moment f y mo d h mi s n inside date rest clock fraction a b c e is_date is_clock is_fraction =
    sym (take-append-drop 10 inside) ∙ ap (λ (t : List ℕ). t ++ drop 10 inside) (sym a ∙ is_date)
    ∙ ap (λ (t : List ℕ). date_text y mo d ++ t) (sym b ∙ sym (take-append-drop 9 rest)
    ∙ ap (λ (t : List ℕ). t ++ drop 9 rest) (sym c ∙ is_clock)
    ∙ ap (λ (t : List ℕ). (32 ∷ clock_text h mi s) ++ t) (sym e ∙ is_fraction))
