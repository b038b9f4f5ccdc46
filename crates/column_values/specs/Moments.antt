-- The bytes of moments and of years (my_time).
use Rattle.std.specs.Prelude.{◌≡◌, ℕ, ◌+◌, ◌-◌, ◌*◌, ◌/◌, ◌%◌, ◌^◌, ◌<◌, ◌≤◌, ◌==◌, ◌⊎◌, if◌then◌else◌, List, length}
use Rattle.std.specs.Prelude.{drop, Option, Some, None}
use Rattle.page_source.specs.Pages.{num, be_bytes}
use Rattle.column_values.specs.Lengths.{fraction_length}

-- how many microseconds one unit of a fraction is: two digits take a byte
abbrev pub fraction_unit : ℕ → ℕ
fraction_unit f = 10 ^ (6 - 2 * fraction_length f)

-- microseconds that `f` digits of a second's fraction have
pub record IsFraction (f micro : ℕ) : Type 0 where
  pub below : micro < 1000000
  pub digits : micro % 10 ^ (6 - f) ≡ 0

-- the bytes of a fraction of a second in `f` digits, in microseconds
pub record SpellsFraction (f micro : ℕ) (bytes : List ℕ) : Type 0 where
  pub size : length bytes ≡ fraction_length f
  pub units : micro ≡ num bytes 0 (fraction_length f) * fraction_unit f
  pub is_fraction : IsFraction f micro

-- the fraction that bytes spell; none where they spell none
abbrev pub FindsFraction : ℕ → List ℕ → Option ℕ → Type 0
FindsFraction f bytes (Some micro) = SpellsFraction f micro bytes
FindsFraction f bytes None = (micro : ℕ) → ¬ (SpellsFraction f micro bytes)

-- a date with a time of day, packed into one number
abbrev pub packed_moment : ℕ → ℕ → ℕ → ℕ → ℕ → ℕ → ℕ
packed_moment year month day hour minute second =
    ((year * 13 + month) * 32 + day) * 131072 + (hour * 4096 + minute * 64 + second)

-- the parts of a date with a time of day
pub record IsMoment (year month day hour minute second : ℕ) : Type 0 where
  pub greatest_year : year ≤ 9999
  pub greatest_month : month ≤ 12
  pub greatest_day : day ≤ 31
  pub greatest_hour : hour ≤ 23
  pub greatest_minute : minute ≤ 59
  pub greatest_second : second ≤ 59

-- five bytes with the top bit set, and the fraction
pub record SpellsDateTime (f year month day hour minute second micro : ℕ) (bytes : List ℕ) : Type 0 where
  pub size : length bytes ≡ 5 + fraction_length f
  pub is_moment : IsMoment year month day hour minute second
  pub packed : num bytes 0 5 ≡ 2 ^ 39 + packed_moment year month day hour minute second
  pub fraction : SpellsFraction f micro (drop 5 bytes)

-- the seconds since 1970-01-01 00:00:00 UTC, and the fraction; no second has no fraction
pub record IsTimestamp (f seconds micro : ℕ) : Type 0 where
  pub most : seconds ≤ 2147483647
  pub none : seconds ≡ 0 → micro ≡ 0
  pub is_fraction : IsFraction f micro

-- the seconds in four bytes, and the fraction
pub record SpellsTimestamp (f seconds micro : ℕ) (bytes : List ℕ) : Type 0 where
  pub size : length bytes ≡ 4 + fraction_length f
  pub counted : num bytes 0 4 ≡ seconds
  pub is_timestamp : IsTimestamp f seconds micro
  pub fraction : SpellsFraction f micro (drop 4 bytes)

-- the year of a byte: 0 is the year 0, and the others count from 1900
abbrev pub year_of : ℕ → ℕ
year_of byte = if byte == 0 then 0 else 1900 + byte

-- the years that a byte may stand for
abbrev pub IsYear : ℕ → Type 0
IsYear year = (year ≡ 0) ⊎ ((1901 ≤ year) × (year ≤ 2155))

-- a year in one byte
pub record SpellsYear (year : ℕ) (bytes : List ℕ) : Type 0 where
  pub size : length bytes ≡ 1
  pub counted : year ≡ year_of (num bytes 0 1)

-- the bytes that spell a fraction of a second, and a year
abbrev pub fraction_bytes : ℕ → ℕ → List ℕ
fraction_bytes f micro = be_bytes (fraction_length f) (micro / fraction_unit f)

abbrev pub year_byte : ℕ → List ℕ
year_byte year = be_bytes 1 (year - 1900)
