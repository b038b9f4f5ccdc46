-- Dates and times of day by their parts.
use Rattle.std.specs.Prelude.{◌≡◌, ℕ, ◌<◌, ◌/◌, ◌%◌, List}
use Rattle.column_values.specs.Moments.{IsFraction}
use Rattle.row_text.specs.declared.read.moments.MomentParts.{MomentParts}
use Rattle.row_text.specs.Calendar.{year_of_day, month_of_day, day_of_day}
use Rattle.row_text.specs.Values.{quoted, moment_text, date_text, day_text}

-- the word is that of a moment with these parts, each in its digits
pub record IsMomentWord (f : ℕ) (moment : MomentParts) (word : List ℕ) : Type 0 where
  pub fraction : IsFraction f moment.micro
  pub year : moment.date.year < 10000
  pub month : moment.date.month < 100
  pub day : moment.date.day < 100
  pub hour : moment.time.hour < 100
  pub minute : moment.time.minute < 100
  pub second : moment.time.second < 100
  pub spelled : word ≡ quoted (moment_text f moment.date.year moment.date.month moment.date.day moment.time.hour
      moment.time.minute moment.time.second moment.micro)

-- the date of a day, counted from 1970-01-01
pub record IsDateOf (n year month day : ℕ) : Type 0 where
  pub year_is : year_of_day n ≡ year
  pub month_is : month_of_day n ≡ month
  pub day_is : day_of_day n ≡ day

-- the date and the time of day of a second since 1970-01-01 00:00:00, where 0 stands for no second at all
pub record IsSecondOf (seconds : ℕ) (moment : MomentParts) : Type 0 where
  pub date : day_text seconds ≡ date_text moment.date.year moment.date.month moment.date.day
  pub hour : seconds / 3600 % 24 ≡ moment.time.hour
  pub minute : seconds / 60 % 60 ≡ moment.time.minute
  pub second : seconds % 60 ≡ moment.time.second

-- each part of the date has no more digits than its place
pub record IsLowMoment (moment : MomentParts) : Type 0 where
  pub year : moment.date.year < 10000
  pub month : moment.date.month < 100
  pub day : moment.date.day < 100

-- all parts are 0
pub record IsNoSecond (moment : MomentParts) : Type 0 where
  pub year : moment.date.year ≡ 0
  pub month : moment.date.month ≡ 0
  pub day : moment.date.day ≡ 0
  pub hour : moment.time.hour ≡ 0
  pub minute : moment.time.minute ≡ 0
  pub second : moment.time.second ≡ 0
  pub micro : moment.micro ≡ 0
