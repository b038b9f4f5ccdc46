-- Words of timestamps.
use Rattle.std.proofs.Common.{◌≡◌, ◌≢◌, ℕ, ◌+◌, ◌*◌, ◌/◌, ◌%◌, ◌<◌, ◌≤◌, inl, inr, List, [], ◌∷◌, ◌++◌}
use Rattle.std.proofs.Common.{refl, sym, ap, ◌∙◌, subst, pos, arith}
use Rattle.std.proofs.lemmas.Bool.{cases_lt}
use Rattle.page_source.specs.Pages.{be_bytes}
use Rattle.jiff_core.specs.Calendar.{day_count, days_from_civil, IsCivilDate}
use Rattle.jiff_core.proofs.SignedLemmas.{signed_arith}
use Rattle.jiff_core.proofs.CalendarLemmas.{days_from_civil-day_count}
use Rattle.column_values.specs.declared.kind.ColumnType.TheVariants as types
use Rattle.column_values.specs.declared.value.Value.{Value}
use Rattle.column_values.specs.declared.value.Value.TheVariants as values
use Rattle.column_values.specs.Moments.{IsTimestamp, fraction_bytes}
use Rattle.column_values.proofs.MomentValues.{timestamp_spelled}
use Rattle.row_text.specs.declared.read.moments.MomentParts.{MomentParts}
use Rattle.row_text.specs.Values.{quoted, date_text, time_text, moment_text, day_text, timestamp_text}
use Rattle.row_text.specs.calls.Words.{IsWordOf}
use Rattle.row_text.specs.calls.Moments.{IsMomentWord, IsDateOf, IsSecondOf, IsNoSecond}
use Rattle.row_text.proofs.Dates.{is_day, year_is, month_is, day_is}
use Rattle.row_text.proofs.Days.{date_of, parts_of}
use Rattle.row_text.proofs.MomentWords.{one_moment, one_date}

-- the date of a day is one of the calendar, and has its number
pub civil_of : (n year month day : ℕ) → n ≤ 24855 → IsDateOf n year month day
    → IsCivilDate (pos year) month day × (days_from_civil (pos year) month day ≡ pos n)
civil_of n year month day few is =
    let found = date_of n few in
    let y : found.year ≡ year = sym (year_is found.year found.month found.day n found.is) ∙ is.year_is in
    let m : found.month ≡ month = sym (month_is found.year found.month found.day n found.is) ∙ is.month_is in
    let d : found.day ≡ day = sym (day_is found.year found.month found.day n found.is) ∙ is.day_is in
    let civil : IsCivilDate (pos year) month day =
    subst (λ (k : ℕ). IsCivilDate (pos k) month day) y (subst (λ (k : ℕ). IsCivilDate (pos found.year) k day) m
    (subst (λ (k : ℕ). IsCivilDate (pos found.year) found.month k) d found.is.civil)) in
    let counted : day_count (pos year) month day ≡ 4371953 + n =
    ap (λ (k : ℕ). day_count (pos year) month k) (sym d) ∙ ap (λ (k : ℕ). day_count (pos year) k found.day) (sym m)
    ∙ ap (λ (k : ℕ). day_count (pos k) found.month found.day) (sym y) ∙ found.is.counted in
    (civil, omega (arith, signed_arith, days_from_civil-day_count (pos year) month day, counted))

pub date_is : (n year month day : ℕ) → n ≤ 24855 → IsCivilDate (pos year) month day
    → days_from_civil (pos year) month day ≡ pos n → IsDateOf n year month day
date_is n year month day few civil number =
    let found = is_day (pos year) month day n civil number few in
    let same : year ≡ found.number = cc (found.same) in
    record {
      year_is = year_is found.number month day n found.is ∙ sym same;
      month_is = month_is found.number month day n found.is;
      day_is = day_is found.number month day n found.is;
    }

-- the word of a timestamp
pub stamp_word : (f seconds : ℕ) (moment : MomentParts) (word : List ℕ) → f ≤ 6 → seconds ≤ 2147483647
    → (seconds ≡ 0 → moment.micro ≡ 0) → IsMomentWord f moment word → IsSecondOf seconds moment
    → IsWordOf (types.Timestamp f) (values.Timestamp seconds moment.micro) word
unfolding timestamp_text
stamp_word f seconds moment word few most none is second =
    let whole : IsTimestamp f seconds moment.micro = record { most = most; none = none; is_fraction = is.fraction } in
    let bytes : List ℕ = be_bytes 4 seconds ++ fraction_bytes f moment.micro in
    let spelled = timestamp_spelled f seconds moment.micro bytes few whole refl in
    record {
      is_value = (bytes, spelled.are_bytes, spelled.spell);
      spelled = is.spelled
          ∙ ap (λ (t : List ℕ). quoted
          (t ++ 32 ∷ time_text f moment.time.hour moment.time.minute moment.time.second moment.micro))
          (sym second.date)
          ∙ ap (λ (h : ℕ). quoted
          (day_text seconds ++ 32 ∷ time_text f h moment.time.minute moment.time.second moment.micro))
          (sym second.hour)
          ∙ ap (λ (m : ℕ). quoted
          (day_text seconds ++ 32 ∷ time_text f (seconds / 3600 % 24) m moment.time.second moment.micro))
          (sym second.minute)
          ∙ ap (λ (s : ℕ). quoted
          (day_text seconds ++ 32 ∷ time_text f (seconds / 3600 % 24) (seconds / 60 % 60) s moment.micro))
          (sym second.second);
    }

-- what a timestamp's word says of its parts
pub record StampIs (f : ℕ) (moment : MomentParts) (v : Value) : Type 0 where
  pub seconds : ℕ
  pub most : seconds ≤ 2147483647
  pub none : seconds ≡ 0 → moment.micro ≡ 0
  pub second : IsSecondOf seconds moment

stamp_is : (f : ℕ) (moment : MomentParts) (word : List ℕ) (v : Value) → f ≤ 6 → IsMomentWord f moment word
    → IsWordOf (types.Timestamp f) v word → StampIs f moment v
unfolding timestamp_text
stamp_is f moment word (values.Timestamp s n) few is has =
    let spell = has.is_value.2 in
    let stamp = spell.is_timestamp in
    let p = parts_of s stamp.most in
    let e : word ≡ quoted (moment_text f p.year p.month p.day (s / 3600 % 24) (s / 60 % 60) (s % 60) n) =
    has.spelled ∙ ap (λ (t : List ℕ). quoted (t ++ 32 ∷ time_text f (s / 3600 % 24) (s / 60 % 60) (s % 60) n)) p.text in
    let same = one_moment f moment word p.year p.month p.day (s / 3600 % 24) (s / 60 % 60) (s % 60) n few is (record {
      year = omega (arith, p.least);
      month = omega (arith, p.months);
      day = omega (arith, p.days);
      hour = omega arith;
      minute = omega arith;
      second = omega arith;
    }) stamp.is_fraction e in
    record {
      seconds = s;
      most = stamp.most;
      none = λ zeroth. same.micro ∙ stamp.none zeroth;
      second = record {
        date = p.text ∙ ap (λ (y : ℕ). date_text y p.month p.day) (sym same.year)
            ∙ ap (λ (m : ℕ). date_text moment.date.year m p.day) (sym same.month)
            ∙ ap (date_text moment.date.year moment.date.month) (sym same.day);
        hour = sym same.hour;
        minute = sym same.minute;
        second = sym same.second;
      };
    }
stamp_is f moment word _ few is has = absurd has.is_value.2

-- the second 0 has the date of all zeros
zero_parts : (moment : MomentParts) → moment.date.year < 10000 → moment.date.month < 100 → moment.date.day < 100
    → IsSecondOf 0 moment → moment.micro ≡ 0 → IsNoSecond moment
zero_parts moment y m d is micro =
    let same = one_date 0 0 0 moment.date.year moment.date.month moment.date.day [] [] (omega arith) (omega arith)
    (omega arith) y m d is.date in
    record {
      year = sym same.year;
      month = sym same.month;
      day = sym same.day;
      hour = sym is.hour;
      minute = sym is.minute;
      second = sym is.second;
      micro = micro;
    }

zero_second : (moment : MomentParts) → IsNoSecond moment → IsSecondOf 0 moment
zero_second moment is = record {
  date = ap (λ (y : ℕ). date_text y 0 0) (sym is.year) ∙ ap (λ (m : ℕ). date_text moment.date.year m 0) (sym is.month)
      ∙ ap (date_text moment.date.year moment.date.month) (sym is.day);
  hour = sym is.hour;
  minute = sym is.minute;
  second = sym is.second;
}

pub no_stamp : (f : ℕ) (moment : MomentParts) (word : List ℕ) → f ≤ 6 → IsMomentWord f moment word
    → (IsNoSecond moment → ⊥)
    → ((s : ℕ) → 1 ≤ s → s ≤ 2147483647 → IsSecondOf s moment → ⊥) → (v : Value)
    → ¬ (IsWordOf (types.Timestamp f) v word)
no_stamp f moment word few is some none v has =
    let found = stamp_is f moment word v few is has in
    elim (cases_lt 0 found.seconds) [
      | inl late ↦ none found.seconds late found.most found.second
      | inr zeroth ↦
          let zero_is : found.seconds ≡ 0 = omega (arith, zeroth) in
          some (zero_parts moment is.year is.month is.day (subst (λ (s : ℕ). IsSecondOf s moment) zero_is found.second)
          (found.none zero_is))
    ]

pub day_is_of : (s : ℕ) (moment : MomentParts) → 1 ≤ s → s ≤ 2147483647 → moment.date.year < 10000
    → moment.date.month < 100 → moment.date.day < 100 → IsSecondOf s moment
    → IsDateOf (s / 86400) moment.date.year moment.date.month moment.date.day
day_is_of s moment some most y m d is =
    let p = parts_of s most in
    let same = one_date p.year p.month p.day moment.date.year moment.date.month moment.date.day [] []
    (omega (arith, p.least)) (omega (arith, p.months)) (omega (arith, p.days)) y m d (sym p.text ∙ is.date) in
    elim p.which [
      | inl none ↦ absurd (omega (arith, none.0, some))
      | inr late ↦ record {
        year_is = year_is p.year p.month p.day (s / 86400) late.1 ∙ same.year;
        month_is = month_is p.year p.month p.day (s / 86400) late.1 ∙ same.month;
        day_is = day_is p.year p.month p.day (s / 86400) late.1 ∙ same.day;
      }
    ]

pub one_day : (m n year month day : ℕ) → m ≤ 24855 → n ≤ 24855 → IsDateOf m year month day → IsDateOf n year month day
    → m ≡ n
one_day m n year month day few few2 a b =
    let x = civil_of m year month day few a in
    let y = civil_of n year month day few2 b in
    let same : pos m ≡ pos n = sym x.1 ∙ y.1 in cc

pub whole_second : (s n h m sec : ℕ) (moment : MomentParts) → IsSecondOf s moment → n ≡ s / 86400
    → h ≡ moment.time.hour → m ≡ moment.time.minute → sec ≡ moment.time.second
    → s ≡ n * 86400 + (h * 3600 + m * 60 + sec)
whole_second s n h m sec moment is day hour minute second =
    omega (arith, is.hour, is.minute, is.second, day, hour, minute, second)

pub no_stamp_word : (f : ℕ) (word : List ℕ)
    → ((y mo d h mi s n : ℕ) → word ≢ quoted (moment_text f y mo d h mi s n)) → (v : Value)
    → ¬ (IsWordOf (types.Timestamp f) v word)
unfolding timestamp_text
no_stamp_word f word none (values.Timestamp s n) has =
    let p = parts_of s has.is_value.2.is_timestamp.most in
    none p.year p.month p.day (s / 3600 % 24) (s / 60 % 60) (s % 60) n
    (has.spelled ∙ ap (λ (t : List ℕ). quoted (t ++ 32 ∷ time_text f (s / 3600 % 24) (s / 60 % 60) (s % 60) n)) p.text)
no_stamp_word f word none _ has = absurd has.is_value.2

pub zero_word : (f : ℕ) (moment : MomentParts) (word : List ℕ) → f ≤ 6 → IsMomentWord f moment word → IsNoSecond moment
    → IsWordOf (types.Timestamp f) (values.Timestamp 0 0) word
zero_word f moment word few is none =
    subst (λ (n : ℕ). IsWordOf (types.Timestamp f) (values.Timestamp 0 n) word) none.micro
    (stamp_word f 0 moment word few (omega arith) (λ _. none.micro) is (zero_second moment none))
