-- Dates from 1970-01-01 on by the number of their day, which is 0 for that date.
use Rattle.std.specs.Prelude.{ℕ, ◌+◌, ◌-◌, pos, unsigned_abs, nat_le, count_by}
use Rattle.std.specs.List.{range_with_len}
use Rattle.jiff_core.specs.Calendar.{days_from_civil}

-- the number of a date's day, from 1970 on
abbrev pub day_number : ℕ → ℕ → ℕ → ℕ
day_number year month day = unsigned_abs (days_from_civil (pos year) month day)

-- the year of a day up to 2038: so many years began by then
unfoldable pub year_of_day : ℕ → ℕ
year_of_day n = 1969 + count_by (λ year. nat_le (day_number year 1 1) n) (range_with_len 1970 69)

-- the month of a day: so many months of the year began by then
unfoldable pub month_of_day : ℕ → ℕ
month_of_day n = count_by (λ month. nat_le (day_number (year_of_day n) month 1) n) (range_with_len 1 12)

-- the place of a day in its month, from 1 on
unfoldable pub day_of_day : ℕ → ℕ
day_of_day n = n + 1 - day_number (year_of_day n) (month_of_day n) 1
