-- Whether bytes spell a value is decided for each type, and whether they are a text.
use Rattle.std.proofs.Common.{◌≡◌, ◌-◌, ◌*◌, ◌%◌, ℕ, zero, suc, ◌+◌, ◌^◌, ◌<◌, ◌≤◌, ◌⊎◌, true, false, List, []}
use Rattle.std.proofs.Common.{◌∷◌, ◌++◌, length, take, drop, replicate, All, IfSome, Option, Some, None, refl, sym, ap}
use Rattle.std.proofs.Common.{◌∙◌, subst, inl, inr, arith, length-append}
use Rattle.std.specs.Prelude.{ℤ, pos, negsuc, nat_abs, slice_index}
use Rattle.std.specs.List.{concat}
use Rattle.std.proofs.lemmas.List.Elements.{All-nil, All-cons, All-head, All-tail}
use Rattle.page_source.specs.Pages.{num}
use Rattle.page_source.proofs.Decided.{IsDecided, same_decided, both_decided, three_decided, either_decided}
use Rattle.page_source.proofs.Decided.{not_decided}
use Rattle.page_source.proofs.Decided.{given_decided, number_decided, below_decided, most_decided, text_decided}
use Rattle.page_source.proofs.Decided.{some_decided}
use Rattle.column_values.specs.declared.kind.ColumnType.{ColumnType}
use Rattle.column_values.specs.declared.kind.ColumnType.TheVariants as types
use Rattle.column_values.specs.declared.value.Value.{Value}
use Rattle.column_values.specs.declared.value.Value.TheVariants as values
use Rattle.column_values.specs.Lengths.{fraction_length}
use Rattle.column_values.specs.Characters.{IsIn, IsStartOfThree, IsStartOfFour, IsCharacter, HasCharacters}
use Rattle.column_values.specs.Characters.{IsCharacterText, IsTextUpTo, text_limit, IsTextOfKind}
use Rattle.column_values.specs.Moments.{fraction_unit, IsFraction, SpellsFraction, packed_moment, IsMoment}
use Rattle.column_values.specs.Moments.{SpellsDateTime}
use Rattle.column_values.specs.Moments.{SpellsTimestamp, year_of}
use Rattle.column_values.specs.Decimals.{decimal_bytes, SpellsDecimal}
use Rattle.column_values.specs.Spell.{int_of, packed_date, SpellsDate, SpellsChar, Spell, IsSpelling}

-- characters
within : (low high byte : ℕ) → IsDecided (IsIn low high byte)
within low high byte = both_decided (most_decided low byte) (most_decided byte high)

start_of_three : (a b : ℕ) → IsDecided (IsStartOfThree a b)
start_of_three a b =
    either_decided (both_decided (number_decided a 0xE0) (within 0xA0 0xBF b))
    (both_decided (within 0xE1 0xEF a) (within 0x80 0xBF b))

start_of_four : (a b : ℕ) → IsDecided (IsStartOfFour a b)
start_of_four a b =
    either_decided (both_decided (number_decided a 0xF0) (within 0x90 0xBF b))
    (either_decided (both_decided (within 0xF1 0xF3 a) (within 0x80 0xBF b))
    (both_decided (number_decided a 0xF4) (within 0x80 0x8F b)))

character_decided : (bytes : List ℕ) → IsDecided (IsCharacter bytes)
character_decided [] = inr (λ h. h)
character_decided (a ∷ []) = most_decided a 0x7F
character_decided (a ∷ b ∷ []) = both_decided (within 0xC2 0xDF a) (within 0x80 0xBF b)
character_decided (a ∷ b ∷ c ∷ []) = both_decided (start_of_three a b) (within 0x80 0xBF c)
character_decided (a ∷ b ∷ c ∷ d ∷ []) =
    three_decided (start_of_four a b) (within 0x80 0xBF c) (within 0x80 0xBF d)
character_decided (a ∷ b ∷ c ∷ d ∷ e ∷ rest) = inr (λ h. h)

few_bytes : (bytes : List ℕ) → IsCharacter bytes → (0 < length bytes) × (length bytes < 5)
few_bytes [] h = absurd h
few_bytes (a ∷ []) h = (omega arith, omega arith)
few_bytes (a ∷ b ∷ []) h = (omega arith, omega arith)
few_bytes (a ∷ b ∷ c ∷ []) h = (omega arith, omega arith)
few_bytes (a ∷ b ∷ c ∷ d ∷ []) h = (omega arith, omega arith)
few_bytes (a ∷ b ∷ c ∷ d ∷ e ∷ rest) h = absurd h

-- texts of characters: the first one is found by trying each length
pub take_all_front : (front rest : List ℕ) → take (length front) (front ++ rest) ≡ front
take_all_front [] rest = refl
take_all_front (x ∷ front) rest = ap (λ (l : List ℕ). x ∷ l) (take_all_front front rest)

drop_all_front : (front rest : List ℕ) → drop (length front) (front ++ rest) ≡ rest
drop_all_front [] rest = refl
drop_all_front (x ∷ front) rest = drop_all_front front rest

two_parts : (k : ℕ) (xs : List ℕ) → xs ≡ take k xs ++ drop k xs
two_parts zero xs = refl
two_parts (suc k) [] = refl
two_parts (suc k) (x ∷ xs) = ap (λ (l : List ℕ). x ∷ l) (two_parts k xs)

no_characters : (text : List ℕ) (characters : List (List ℕ)) → length characters ≡ 0 → text ≡ concat characters
    → text ≡ []
no_characters text [] size joined = joined
no_characters text (c ∷ cs) size joined = absurd (omega (arith, size))

-- the text begins with a character of k bytes
abbrev BeginsAt : List ℕ → ℕ → ℕ → Type 0
BeginsAt text count k = IsCharacter (take k text) × HasCharacters (drop k text) count

begins_at : (text : List ℕ) (count : ℕ) (characters : List (List ℕ)) → All IsCharacter characters
    → length characters ≡ suc count → text ≡ concat characters → (k : ℕ) × (k < 5) × BeginsAt text count k
begins_at text count [] each size joined = absurd (omega (arith, size))
begins_at text count (c ∷ cs) each size joined =
    let first = All-head IsCharacter c cs each in
    let front : take (length c) text ≡ c = ap (λ (l : List ℕ). take (length c) l) joined
    ∙ take_all_front c (concat cs) in
    let rest : drop (length c) text ≡ concat cs = ap (λ (l : List ℕ). drop (length c) l) joined
    ∙ drop_all_front c (concat cs) in (
      length c,
      (few_bytes c first).1,
      (
        subst IsCharacter (sym front) first,
        record {
          characters = cs;
          each = All-tail IsCharacter c cs each;
          counted = omega (arith, size);
          joined = rest;
        },
      ),
    )

characters_decided : (count : ℕ) (text : List ℕ) → IsDecided (HasCharacters text count)
characters_decided zero text =
    same_decided (λ e. record { characters = []; each = All-nil IsCharacter; counted = refl; joined = e })
    (λ h. no_characters text h.characters h.counted h.joined) (text_decided text [])
characters_decided (suc count) text =
    same_decided
    (λ h. record {
      characters = take h.0 text ∷ h.2.1.characters;
      each = All-cons IsCharacter (take h.0 text) h.2.1.characters h.2.0 h.2.1.each;
      counted = ap suc h.2.1.counted;
      joined = two_parts h.0 text ∙ ap (λ (l : List ℕ). take h.0 text ++ l) h.2.1.joined;
    })
    (λ h. begins_at text count h.characters h.each h.counted h.joined)
    (some_decided (BeginsAt text count)
    (λ k. both_decided (character_decided (take k text)) (characters_decided count (drop k text))) 5)

pub text_up_to : (most : ℕ) (text : List ℕ) → IsDecided (IsTextUpTo most text)
text_up_to most text =
    same_decided (λ h. (h.0, omega (arith, h.1), h.2)) (λ h. (h.0, omega (arith, h.1), h.2))
    (some_decided (HasCharacters text) (λ count. characters_decided count text) (suc most))

count_within : (characters : List (List ℕ)) → All IsCharacter characters
    → length characters ≤ length (concat characters)
count_within [] each = omega arith
count_within (c ∷ cs) each =
    let first = few_bytes c (All-head IsCharacter c cs each) in
    let rest = count_within cs (All-tail IsCharacter c cs each) in
    omega (arith, length-append c (concat cs), first.0, rest)

count_fits : (text : List ℕ) (count : ℕ) → HasCharacters text count → count < suc (length text)
count_fits text count h =
    let few = count_within h.characters h.each in omega (arith, few, h.counted, ap length h.joined)

character_text : (text : List ℕ) → IsDecided (IsCharacterText text)
character_text text =
    same_decided (λ h. (h.0, h.2)) (λ h. (h.0, count_fits text h.0 h.1, h.1))
    (some_decided (HasCharacters text) (λ count. characters_decided count text) (suc (length text)))

limit_decided : (limit : Option ℕ) (text : List ℕ) → IsDecided (IfSome limit (λ most. IsTextUpTo most text))
limit_decided None text = inl tt
limit_decided (Some most) text = text_up_to most text

pub text_of_kind : (kind : ColumnType) (text : List ℕ) → IsDecided (IsTextOfKind kind text)
text_of_kind kind text = limit_decided (text_limit kind) text

-- numbers and texts: the value is told by the bytes
int_back : (width : ℕ) (bytes : List ℕ) (v : Value) → Spell (types.Int width true) v bytes → length bytes ≡ width
int_back width bytes (values.Signed z) h = h.0
int_back width bytes v h = absurd h

unsigned_back : (width : ℕ) (bytes : List ℕ) (v : Value) → Spell (types.Int width false) v bytes
    → length bytes ≡ width
unsigned_back width bytes (values.Unsigned n) h = h.0
unsigned_back width bytes v h = absurd h

binary_back : (n : ℕ) (bytes : List ℕ) (v : Value) → Spell (types.Binary n) v bytes → length bytes ≡ n
binary_back n bytes (values.Bytes value) h = h.0
binary_back n bytes v h = absurd h

varchar_back : (n : ℕ) (bytes : List ℕ) (v : Value) → Spell (types.Varchar n) v bytes → length bytes ≤ n
varchar_back n bytes (values.Text text) h = h.0
varchar_back n bytes v h = absurd h

varbinary_back : (n : ℕ) (bytes : List ℕ) (v : Value) → Spell (types.Varbinary n) v bytes → length bytes ≤ n
varbinary_back n bytes (values.Bytes value) h = h.0
varbinary_back n bytes v h = absurd h

text_back : (n : ℕ) (bytes : List ℕ) (v : Value) → Spell (types.Text n) v bytes → length bytes ≤ n
text_back n bytes (values.Text text) h = h.0
text_back n bytes v h = absurd h

blob_back : (n : ℕ) (bytes : List ℕ) (v : Value) → Spell (types.Blob n) v bytes → length bytes ≤ n
blob_back n bytes (values.Bytes value) h = h.0
blob_back n bytes v h = absurd h

utf8_back : (n : ℕ) (bytes : List ℕ) (v : Value) → Spell (types.Utf8Varchar n) v bytes → IsTextUpTo n bytes
utf8_back n bytes (values.Text text) h = h.0
utf8_back n bytes v h = absurd h

utf8_text_back : (n : ℕ) (bytes : List ℕ) (v : Value) → Spell (types.Utf8Text n) v bytes
    → (length bytes ≤ n) × IsCharacterText bytes
utf8_text_back n bytes (values.Text text) h = (h.0, h.1)
utf8_text_back n bytes v h = absurd h

year_back : (bytes : List ℕ) (v : Value) → Spell types.Year v bytes → length bytes ≡ 1
year_back bytes (values.Year year) h = h.size
year_back bytes v h = absurd h

-- a text of fixed length is one of the fronts
char_decided : (n : ℕ) (text bytes : List ℕ) → IsDecided (SpellsChar n text bytes)
char_decided n text bytes =
    same_decided
    (λ h. record { size = h.0; filled = h.1; is_trimmed = record { fits = h.2.0; trimmed = h.2.1 } })
    (λ h. (h.size, h.filled, (h.is_trimmed.fits, h.is_trimmed.trimmed)))
    (three_decided (number_decided (length bytes) n)
    (text_decided bytes (text ++ replicate (n - length text) 32))
    (both_decided (most_decided (length text) n)
    (given_decided (below_decided 0 (length text))
    (not_decided (number_decided (slice_index text (length text - 1)) 32)))))

char_back : (n : ℕ) (bytes : List ℕ) (v : Value) → Spell (types.Char n) v bytes
    → (k : ℕ) × (k < suc n) × SpellsChar n (take k bytes) bytes
char_back n bytes (values.Text text) h =
    let front : take (length text) bytes ≡ text =
    ap (λ (l : List ℕ). take (length text) l) h.filled ∙ take_all_front text (replicate (n - length text) 32) in (
      length text,
      omega (arith, h.is_trimmed.fits),
      subst (λ (t : List ℕ). SpellsChar n t bytes) (sym front) h,
    )
char_back n bytes v h = absurd h

-- moments
date_decided : (year month day : ℕ) (bytes : List ℕ) → IsDecided (SpellsDate year month day bytes)
date_decided year month day bytes =
    same_decided
    (λ h. record {
      size = h.0.0;
      packed = h.0.1;
      greatest_year = h.1.0;
      greatest_month = h.1.1;
      greatest_day = h.1.2;
    })
    (λ h. ((h.size, h.packed), (h.greatest_year, h.greatest_month, h.greatest_day)))
    (both_decided
    (both_decided (number_decided (length bytes) 3) (number_decided (num bytes 0 3) (packed_date year month day)))
    (three_decided (most_decided year 9999) (most_decided month 12) (most_decided day 31)))

abbrev SomeDate : List ℕ → Type 0
SomeDate bytes =
    (year : ℕ) × (year < 10000) × ((month : ℕ) × (month < 13) × ((day : ℕ) × (day < 32)
    × SpellsDate year month day bytes))

date_back : (bytes : List ℕ) (v : Value) → Spell types.Date v bytes → SomeDate bytes
date_back bytes (values.Date year month day) h = (
  year,
  omega (arith, h.greatest_year),
  (month, omega (arith, h.greatest_month), (day, omega (arith, h.greatest_day), h)),
)
date_back bytes v h = absurd h

some_date : (bytes : List ℕ) → IsDecided (SomeDate bytes)
some_date bytes =
    some_decided _ (λ year. some_decided _ (λ month. some_decided _ (λ day. date_decided year month day bytes) 32) 13)
    10000

fraction_decided : (f micro : ℕ) → IsDecided (IsFraction f micro)
fraction_decided f micro =
    same_decided (λ h. record { below = h.0; digits = h.1 }) (λ h. (h.below, h.digits))
    (both_decided (below_decided micro 1000000) (number_decided (micro % 10 ^ (6 - f)) 0))

spells_fraction : (f micro : ℕ) (bytes : List ℕ) → IsDecided (SpellsFraction f micro bytes)
spells_fraction f micro bytes =
    same_decided (λ h. record { size = h.0; units = h.1; is_fraction = h.2 }) (λ h. (h.size, h.units, h.is_fraction))
    (three_decided (number_decided (length bytes) (fraction_length f))
    (number_decided micro (num bytes 0 (fraction_length f) * fraction_unit f)) (fraction_decided f micro))

moment_decided : (year month day hour minute second : ℕ) → IsDecided (IsMoment year month day hour minute second)
moment_decided year month day hour minute second =
    same_decided
    (λ h. record {
      greatest_year = h.0.0;
      greatest_month = h.0.1;
      greatest_day = h.0.2;
      greatest_hour = h.1.0;
      greatest_minute = h.1.1;
      greatest_second = h.1.2;
    })
    (λ h. (
      (h.greatest_year, h.greatest_month, h.greatest_day),
      (h.greatest_hour, h.greatest_minute, h.greatest_second),
    ))
    (both_decided (three_decided (most_decided year 9999) (most_decided month 12) (most_decided day 31))
    (three_decided (most_decided hour 23) (most_decided minute 59) (most_decided second 59)))

datetime_decided : (f year month day hour minute second micro : ℕ) (bytes : List ℕ)
    → IsDecided (SpellsDateTime f year month day hour minute second micro bytes)
datetime_decided f year month day hour minute second micro bytes =
    same_decided (λ h. record { size = h.0.0; is_moment = h.0.1; packed = h.1.0; fraction = h.1.1 })
    (λ h. ((h.size, h.is_moment), (h.packed, h.fraction)))
    (both_decided
    (both_decided (number_decided (length bytes) (5 + fraction_length f))
    (moment_decided year month day hour minute second))
    (both_decided (number_decided (num bytes 0 5) (2 ^ 39 + packed_moment year month day hour minute second))
    (spells_fraction f micro (drop 5 bytes))))

abbrev SomeMoment : ℕ → List ℕ → Type 0
SomeMoment f bytes =
    (year : ℕ) × (year < 10000) × ((month : ℕ) × (month < 13) × ((day : ℕ) × (day < 32) × ((hour : ℕ) × (hour < 24)
    × ((minute : ℕ) × (minute < 60) × ((second : ℕ) × (second < 60) × ((micro : ℕ) × (micro < 1000000)
    × SpellsDateTime f year month day hour minute second micro bytes))))))

datetime_back : (f : ℕ) (bytes : List ℕ) (v : Value) → Spell (types.DateTime f) v bytes → SomeMoment f bytes
datetime_back f bytes (values.DateTime year month day hour minute second micro) h =
    let m = h.is_moment in (
      year,
      omega (arith, m.greatest_year),
      (
        month,
        omega (arith, m.greatest_month),
        (
          day,
          omega (arith, m.greatest_day),
          (
            hour,
            omega (arith, m.greatest_hour),
            (
              minute,
              omega (arith, m.greatest_minute),
              (second, omega (arith, m.greatest_second), (micro, h.fraction.is_fraction.below, h)),
            ),
          ),
        ),
      ),
    )
datetime_back f bytes v h = absurd h

datetime_there : (f : ℕ) (bytes : List ℕ) → SomeMoment f bytes → IsSpelling (types.DateTime f) bytes
datetime_there f bytes (year, _, (month, _, (day, _, (hour, _, (minute, _, (second, _, (micro, _, h))))))) =
    (values.DateTime year month day hour minute second micro, h)

some_moment : (f : ℕ) (bytes : List ℕ) → IsDecided (SomeMoment f bytes)
some_moment f bytes =
    some_decided _ (λ year. some_decided _ (λ month. some_decided _ (λ day. some_decided _ (λ hour. some_decided _
    (λ minute. some_decided _ (λ second. some_decided _
    (λ micro. datetime_decided f year month day hour minute second micro bytes) 1000000) 60) 60) 24) 32) 13) 10000

timestamp_decided : (f seconds micro : ℕ) (bytes : List ℕ) → IsDecided (SpellsTimestamp f seconds micro bytes)
timestamp_decided f seconds micro bytes =
    same_decided
    (λ h. record {
      size = h.0.0;
      counted = h.0.1;
      is_timestamp = record { most = h.1.0.0; none = h.1.0.1; is_fraction = h.1.0.2 };
      fraction = h.1.1;
    })
    (λ h. (
      (h.size, h.counted),
      ((h.is_timestamp.most, h.is_timestamp.none, h.is_timestamp.is_fraction), h.fraction),
    ))
    (both_decided
    (both_decided (number_decided (length bytes) (4 + fraction_length f)) (number_decided (num bytes 0 4) seconds))
    (both_decided
    (three_decided (most_decided seconds 2147483647)
    (given_decided (number_decided seconds 0) (number_decided micro 0)) (fraction_decided f micro))
    (spells_fraction f micro (drop 4 bytes))))

abbrev SomeTimestamp : ℕ → List ℕ → Type 0
SomeTimestamp f bytes =
    (seconds : ℕ) × (seconds < 2147483648) × ((micro : ℕ) × (micro < 1000000) × SpellsTimestamp f seconds micro bytes)

timestamp_back : (f : ℕ) (bytes : List ℕ) (v : Value) → Spell (types.Timestamp f) v bytes → SomeTimestamp f bytes
timestamp_back f bytes (values.Timestamp seconds micro) h =
    (seconds, omega (arith, h.is_timestamp.most), (micro, h.fraction.is_fraction.below, h))
timestamp_back f bytes v h = absurd h

some_timestamp : (f : ℕ) (bytes : List ℕ) → IsDecided (SomeTimestamp f bytes)
some_timestamp f bytes =
    some_decided _ (λ seconds. some_decided _ (λ micro. timestamp_decided f seconds micro bytes) 1000000) 2147483648

-- decimals
units_decided : (p s : ℕ) (units : ℤ) (bytes : List ℕ) → IsDecided (SpellsDecimal p s units bytes)
units_decided p s units bytes =
    same_decided (λ h. record { few = h.0; digits = h.1 }) (λ h. (h.few, h.digits))
    (both_decided (below_decided (nat_abs units) (10 ^ p)) (text_decided bytes (decimal_bytes p s units)))

abbrev SomeUnits : ℕ → ℕ → List ℕ → Type 0
SomeUnits p s bytes =
    ((n : ℕ) × (n < 10 ^ p) × SpellsDecimal p s (pos n) bytes)
    ⊎ ((n : ℕ) × (n < 10 ^ p) × SpellsDecimal p s (negsuc n) bytes)

units_back : (p s : ℕ) (bytes : List ℕ) (units : ℤ) → SpellsDecimal p s units bytes → SomeUnits p s bytes
units_back p s bytes (pos n) h = inl (n, omega (arith, h.few), h)
units_back p s bytes (negsuc n) h = inr (n, omega (arith, h.few), h)

decimal_back : (p s : ℕ) (bytes : List ℕ) (v : Value) → Spell (types.Decimal p s) v bytes → SomeUnits p s bytes
decimal_back p s bytes (values.Decimal units) h = units_back p s bytes units h
decimal_back p s bytes v h = absurd h

decimal_there : (p s : ℕ) (bytes : List ℕ) → SomeUnits p s bytes → IsSpelling (types.Decimal p s) bytes
decimal_there p s bytes (inl h) = (values.Decimal (pos h.0), h.2)
decimal_there p s bytes (inr h) = (values.Decimal (negsuc h.0), h.2)

some_units : (p s : ℕ) (bytes : List ℕ) → IsDecided (SomeUnits p s bytes)
some_units p s bytes =
    either_decided
    (some_decided (λ n. SpellsDecimal p s (pos n) bytes) (λ n. units_decided p s (pos n) bytes) (10 ^ p))
    (some_decided (λ n. SpellsDecimal p s (negsuc n) bytes) (λ n. units_decided p s (negsuc n) bytes) (10 ^ p))

-- each type
pub spelling_decided : (kind : ColumnType) (bytes : List ℕ) → IsDecided (IsSpelling kind bytes)
spelling_decided (types.Int w true) bytes =
    same_decided (λ e. (values.Signed (int_of true w bytes), (e, refl))) (λ h. int_back w bytes h.0 h.1)
    (number_decided (length bytes) w)
spelling_decided (types.Int w false) bytes =
    same_decided (λ e. (values.Unsigned (num bytes 0 w), (e, refl))) (λ h. unsigned_back w bytes h.0 h.1)
    (number_decided (length bytes) w)
spelling_decided types.Date bytes =
    same_decided (λ h. (values.Date h.0 h.2.0 h.2.2.0, h.2.2.2)) (λ h. date_back bytes h.0 h.1) (some_date bytes)
spelling_decided (types.Char n) bytes =
    same_decided (λ h. (values.Text (take h.0 bytes), h.2)) (λ h. char_back n bytes h.0 h.1)
    (some_decided (λ k. SpellsChar n (take k bytes) bytes) (λ k. char_decided n (take k bytes) bytes) (suc n))
spelling_decided (types.Binary n) bytes =
    same_decided (λ e. (values.Bytes bytes, (e, refl))) (λ h. binary_back n bytes h.0 h.1)
    (number_decided (length bytes) n)
spelling_decided (types.Varchar n) bytes =
    same_decided (λ e. (values.Text bytes, (e, refl))) (λ h. varchar_back n bytes h.0 h.1)
    (most_decided (length bytes) n)
spelling_decided (types.Varbinary n) bytes =
    same_decided (λ e. (values.Bytes bytes, (e, refl))) (λ h. varbinary_back n bytes h.0 h.1)
    (most_decided (length bytes) n)
spelling_decided (types.Text n) bytes =
    same_decided (λ e. (values.Text bytes, (e, refl))) (λ h. text_back n bytes h.0 h.1)
    (most_decided (length bytes) n)
spelling_decided (types.Blob n) bytes =
    same_decided (λ e. (values.Bytes bytes, (e, refl))) (λ h. blob_back n bytes h.0 h.1)
    (most_decided (length bytes) n)
spelling_decided (types.Utf8Varchar n) bytes =
    same_decided (λ e. (values.Text bytes, (e, refl))) (λ h. utf8_back n bytes h.0 h.1) (text_up_to n bytes)
spelling_decided (types.Utf8Text n) bytes =
    same_decided (λ e. (values.Text bytes, (e.0, e.1, refl))) (λ h. utf8_text_back n bytes h.0 h.1)
    (both_decided (most_decided (length bytes) n) (character_text bytes))
spelling_decided (types.DateTime f) bytes =
    same_decided (datetime_there f bytes) (λ h. datetime_back f bytes h.0 h.1) (some_moment f bytes)
spelling_decided (types.Timestamp f) bytes =
    same_decided (λ h. (values.Timestamp h.0 h.2.0, h.2.2)) (λ h. timestamp_back f bytes h.0 h.1)
    (some_timestamp f bytes)
spelling_decided types.Year bytes =
    same_decided (λ e. (values.Year (year_of (num bytes 0 1)), record { size = e; counted = refl }))
    (λ h. year_back bytes h.0 h.1) (number_decided (length bytes) 1)
spelling_decided (types.Decimal p s) bytes =
    same_decided (decimal_there p s bytes) (λ h. decimal_back p s bytes h.0 h.1) (some_units p s bytes)
