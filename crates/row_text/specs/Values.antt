-- A value as it stands in a line.
use Rattle.std.specs.Prelude.{ℕ, ◌-◌, ◌/◌, ◌%◌, ◌^◌, ◌==◌, if◌then◌else◌, List, [], ◌∷◌, ◌++◌, length, flat_map, codes}
use Rattle.std.specs.Prelude.{decimal, All, ◌≡◌, Bool, not}
use Rattle.std.specs.Fmt.{signed_decimal}
use Rattle.hex.specs.Hex.{encode_lower}
use Rattle.column_values.specs.declared.kind.ColumnType.{ColumnType}
use Rattle.column_values.specs.declared.kind.ColumnType.TheVariants as types
use Rattle.column_values.specs.declared.value.Value.{Value}
use Rattle.column_values.specs.declared.value.Value.TheVariants.{Null, Signed, Unsigned, Date, Text, Bytes, DateTime}
use Rattle.column_values.specs.declared.value.Value.TheVariants.{Timestamp, Year, Decimal}
use Rattle.row_text.specs.Digits.{two_digits, four_digits, behind_point, decimal_text}
use Rattle.row_text.specs.Calendar.{year_of_day, month_of_day, day_of_day}

-- the byte before the letter of an escape
abbrev pub backslash : ℕ
backslash = 92

-- the letter that stands for a byte behind a backslash, or 0
abbrev pub escape_letter : ℕ → ℕ
escape_letter byte =
    if byte == 0 then 48 else (if byte == 10 then 110 else (if byte == 13 then 114 else (if byte == 92 then 92 else
    (if byte == 39 then 39 else (if byte == 34 then 34 else (if byte == 26 then 90 else 0))))))

-- a byte of a text, as it stands in a line
abbrev pub escaped : ℕ → List ℕ
escaped byte = if escape_letter byte == 0 then byte ∷ [] else backslash ∷ escape_letter byte ∷ []

-- a text as it stands in a line, byte by byte
unfoldable pub escaped_text : List ℕ → List ℕ
escaped_text text = flat_map escaped text

-- whether a byte stands behind a backslash
abbrev pub is_escaped : ℕ → Bool
is_escaped byte = not (escape_letter byte == 0)

-- each byte of the text stands for itself
abbrev pub IsPlain : List ℕ → Type 0
IsPlain text = All (λ byte. escape_letter byte ≡ 0) text

-- a text between single quotes
abbrev pub quoted : List ℕ → List ℕ
quoted text = codes "'" ++ text ++ codes "'"

-- bytes of fixed length, and of any length
abbrev pub hex_text : List ℕ → List ℕ
hex_text bytes = codes "0x" ++ encode_lower bytes

abbrev pub hex_or_empty : List ℕ → List ℕ
hex_or_empty bytes = if length bytes == 0 then quoted [] else hex_text bytes

-- a date, and a time of day with `f` digits of the second's fraction
abbrev pub date_text : ℕ → ℕ → ℕ → List ℕ
date_text year month day = four_digits year ++ 45 ∷ two_digits month ++ 45 ∷ two_digits day

abbrev pub clock_text : ℕ → ℕ → ℕ → List ℕ
clock_text hour minute second = two_digits hour ++ 58 ∷ two_digits minute ++ 58 ∷ two_digits second

abbrev pub time_text : ℕ → ℕ → ℕ → ℕ → ℕ → List ℕ
time_text f hour minute second micro = clock_text hour minute second ++ behind_point f (micro / 10 ^ (6 - f))

-- a date and a time of day, with a space between
abbrev pub moment_text : ℕ → ℕ → ℕ → ℕ → ℕ → ℕ → ℕ → ℕ → List ℕ
moment_text f year month day hour minute second micro =
    date_text year month day ++ 32 ∷ time_text f hour minute second micro

-- the date of a day, where 0 stands for no second at all
abbrev pub day_text : ℕ → List ℕ
day_text seconds =
    if seconds == 0 then date_text 0 0 0
    else (let day = seconds / 86400 in date_text (year_of_day day) (month_of_day day) (day_of_day day))

-- a moment in UTC by its seconds since 1970-01-01 00:00:00
unfoldable pub timestamp_text : ℕ → ℕ → ℕ → List ℕ
timestamp_text f seconds micro =
    day_text seconds ++ 32 ∷ time_text f (seconds / 3600 % 24) (seconds / 60 % 60) (seconds % 60) micro

-- how many digits of a second's fraction a type has, and how many digits stand behind its point
abbrev pub fraction_digits : ColumnType → ℕ
fraction_digits (types.DateTime f) = f
fraction_digits (types.Timestamp f) = f
fraction_digits _ = 0

abbrev pub scale_of : ColumnType → ℕ
scale_of (types.Decimal p s) = s
scale_of _ = 0

-- a value of a type
abbrev pub value_text : ColumnType → Value → List ℕ
value_text kind Null = codes "NULL"
value_text kind (Signed z) = signed_decimal z
value_text kind (Unsigned n) = decimal n
value_text kind (Date year month day) = quoted (date_text year month day)
value_text kind (Text text) = quoted (escaped_text text)
value_text kind (DateTime year month day hour minute second micro) =
    quoted (moment_text (fraction_digits kind) year month day hour minute second micro)
value_text kind (Timestamp seconds micro) = quoted (timestamp_text (fraction_digits kind) seconds micro)
value_text kind (Year year) = four_digits year
value_text kind (Decimal units) = decimal_text (scale_of kind) units
value_text (types.Binary n) (Bytes bytes) = hex_text bytes
value_text kind (Bytes bytes) = hex_or_empty bytes
