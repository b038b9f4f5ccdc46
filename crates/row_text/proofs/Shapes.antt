-- A value's text has neither a comma nor a parenthesis, or is a text in quotes: so it ends where it ends.
use Rattle.std.proofs.Common.{◌≡◌, ℕ, zero, suc, ◌+◌, ◌-◌, ◌/◌, ◌%◌, ◌^◌, ◌<◌, ◌≤◌, ◌⊎◌, inl, inr, Bool, true, false}
use Rattle.std.proofs.Common.{eqb, leb, not, ◌&&◌, ◌||◌, List, [], ◌∷◌, ◌++◌, length, get_or, refl, sym, ap, ◌∙◌, subst}
use Rattle.std.proofs.Common.{ℤ, pos, negsuc, arith}
use Rattle.std.specs.Prelude.{codes, slice_index, All, unsigned_abs, int_lt, nat_abs}
use Rattle.std.specs.Fmt.{decimal, signed_decimal}
use Rattle.std.proofs.lemmas.Int.{ints}
use Rattle.std.proofs.Math.Nat.{pow-le-pow_right}
use Rattle.std.proofs.lemmas.Bool.{eqb-true, eqb-false, leb-true, or_cases, and_parts, not-true, cond_both}
use Rattle.std.proofs.lemmas.List.Elements.{All-nil, All-cons, All-head, All-tail, All-append, All-get_or}
use Rattle.std.proofs.lemmas.List.Elements.{All-from_get_or}
use Rattle.std.proofs.lemmas.Fmt.{decimal_is_IsNumeral_wide}
use Rattle.std.proofs.lemmas.Str.Parse.{digit_at}
use Rattle.hex.specs.Hex.{encode_with, encode_lower, lower_digits}
use Rattle.page_source.specs.Pages.{AreBytes}
use Rattle.column_values.specs.declared.kind.ColumnType.{ColumnType}
use Rattle.column_values.specs.declared.kind.ColumnType.TheVariants as types
use Rattle.column_values.specs.declared.value.Value.{Value}
use Rattle.column_values.specs.declared.value.Value.TheVariants as values
use Rattle.column_values.specs.Types.{IsColumnType}
use Rattle.column_values.specs.Spell.{IsValueOf, IsInRange}
use Rattle.column_values.proofs.IntegerValues.{integer_in_range, num-below}
use Rattle.column_values.proofs.Numbers.{half_is_most, pow256_most}
use Rattle.row_text.specs.Digits.{last_digits, two_digits, four_digits, behind_point, sign_text, whole_text}
use Rattle.row_text.specs.Digits.{decimal_text}
use Rattle.row_text.specs.Values.{escaped_text, quoted, hex_text, hex_or_empty, date_text, clock_text, time_text}
use Rattle.row_text.specs.Values.{moment_text}
use Rattle.row_text.specs.Values.{day_text, timestamp_text, value_text}
use Rattle.row_text.specs.calls.Values.{EndsValue}
use Rattle.row_text.proofs.Quotes.{IsSafe, safe_escaped, quoted_apart}

abbrev is_safe : ℕ → Bool
is_safe b = eqb b 32 || (leb 45 b && (leb b 122 && not (eqb b 92)))

abbrev pub all_safe : List ℕ → Bool
all_safe [] = true
all_safe (b ∷ text) = is_safe b && all_safe text

safe_from : (b : ℕ) → is_safe b ≡ true → IsSafe b
safe_from b t = elim (or_cases (eqb b 32) (leb 45 b && (leb b 122 && not (eqb b 92))) t) [
  | inl e ↦ inl (eqb-true b 32 e)
  | inr h ↦ let p = and_parts (leb 45 b) (leb b 122 && not (eqb b 92)) h in
      let q = and_parts (leb b 122) (not (eqb b 92)) p.1 in
      inr (leb-true 45 b p.0, leb-true b 122 q.0, eqb-false b 92 (not-true (eqb b 92) q.1))
]

-- a text that is written out
pub all_from : (text : List ℕ) → all_safe text ≡ true → All IsSafe text
all_from [] t = All-nil IsSafe
all_from (b ∷ text) t = let p = and_parts (is_safe b) (all_safe text) t in
    All-cons IsSafe b text (safe_from b p.0) (all_from text p.1)

digit_safe : (b : ℕ) → 48 ≤ b → b ≤ 57 → IsSafe b
digit_safe b low high = inr (omega arith, omega arith, λ e. omega (arith, e))

digit : (n : ℕ) → IsSafe (48 + n % 10)
digit n = digit_safe (48 + n % 10) (omega arith) (omega arith)

dash : IsSafe 45
dash = inr (omega arith, omega arith, λ e. omega (arith, e))

colon : IsSafe 58
colon = inr (omega arith, omega arith, λ e. omega (arith, e))

point : IsSafe 46
point = inr (omega arith, omega arith, λ e. omega (arith, e))

blank : IsSafe 32
blank = inl refl

two_safe : (n : ℕ) → All IsSafe (two_digits n)
two_safe n = All-cons IsSafe (48 + n / 10 % 10) ((48 + n % 10) ∷ []) (digit (n / 10))
    (All-cons IsSafe (48 + n % 10) [] (digit n) (All-nil IsSafe))

pub four_safe : (n : ℕ) → All IsSafe (four_digits n)
four_safe n = All-append IsSafe (two_digits (n / 100)) (two_digits n) (two_safe (n / 100)) (two_safe n)

last_safe : (count n : ℕ) → All IsSafe (last_digits count n)
unfolding last_digits
last_safe zero n = All-nil IsSafe
last_safe (suc count) n = All-cons IsSafe (48 + n / 10 ^ count % 10) (last_digits count n) (digit (n / 10 ^ count))
    (last_safe count n)

behind_safe : (count n : ℕ) → All IsSafe (behind_point count n)
behind_safe count n = cond_both (eqb count 0) [] (46 ∷ last_digits count n) (All IsSafe) (λ _. All-nil IsSafe)
    (λ _. All-cons IsSafe 46 (last_digits count n) point (last_safe count n))

pub decimal_safe : (n : ℕ) → n < 10 ^ 64 → All IsSafe (decimal n)
decimal_safe n low = All-from_get_or IsSafe (decimal n) 0 (λ i lt.
    let d = digit_at (decimal n) i (decimal_is_IsNumeral_wide n low).0.1 lt in
    digit_safe (get_or (decimal n) i 0) d.0 d.1)

pub date_safe : (year month day : ℕ) → All IsSafe (date_text year month day)
date_safe year month day = All-append IsSafe (four_digits year) (45 ∷ two_digits month ++ 45 ∷ two_digits day)
    (four_safe year) (All-cons IsSafe 45 (two_digits month ++ 45 ∷ two_digits day) dash
    (All-append IsSafe (two_digits month) (45 ∷ two_digits day) (two_safe month)
    (All-cons IsSafe 45 (two_digits day) dash (two_safe day))))

clock_safe : (hour minute second : ℕ) → All IsSafe (clock_text hour minute second)
clock_safe hour minute second = All-append IsSafe (two_digits hour) (58 ∷ two_digits minute ++ 58 ∷ two_digits second)
    (two_safe hour) (All-cons IsSafe 58 (two_digits minute ++ 58 ∷ two_digits second) colon
    (All-append IsSafe (two_digits minute) (58 ∷ two_digits second) (two_safe minute)
    (All-cons IsSafe 58 (two_digits second) colon (two_safe second))))

time_safe : (f hour minute second micro : ℕ) → All IsSafe (time_text f hour minute second micro)
time_safe f hour minute second micro = All-append IsSafe (clock_text hour minute second)
    (behind_point f (micro / 10 ^ (6 - f))) (clock_safe hour minute second) (behind_safe f (micro / 10 ^ (6 - f)))

pub moment_safe : (f year month day hour minute second micro : ℕ)
    → All IsSafe (moment_text f year month day hour minute second micro)
moment_safe f year month day hour minute second micro = All-append IsSafe (date_text year month day)
    (32 ∷ time_text f hour minute second micro) (date_safe year month day)
    (All-cons IsSafe 32 (time_text f hour minute second micro) blank (time_safe f hour minute second micro))

day_safe : (seconds : ℕ) → All IsSafe (day_text seconds)
day_safe seconds = cond_both (eqb seconds 0) _ _ (All IsSafe) (λ _. date_safe 0 0 0) (λ _. date_safe _ _ _)

pub timestamp_safe : (f seconds micro : ℕ) → All IsSafe (timestamp_text f seconds micro)
unfolding timestamp_text
timestamp_safe f seconds micro =
    let time : List ℕ = time_text f (seconds / 3600 % 24) (seconds / 60 % 60) (seconds % 60) micro in
    All-append IsSafe (day_text seconds) (32 ∷ time) (day_safe seconds) (All-cons IsSafe 32 time blank
    (time_safe f (seconds / 3600 % 24) (seconds / 60 % 60) (seconds % 60) micro))

-- hexadecimal digits
pub hex_safe : (k : ℕ) → k < 16 → IsSafe (slice_index lower_digits k)
hex_safe k lt = All-get_or IsSafe lower_digits k 0 lt (all_from lower_digits refl)

encode_safe : (bytes : List ℕ) → AreBytes bytes → All IsSafe (encode_lower bytes)
unfolding encode_with
encode_safe [] are = All-nil IsSafe
encode_safe (b ∷ bytes) are =
    let low = All-head (λ (x : ℕ). x < 256) b bytes are in
    All-cons IsSafe (slice_index lower_digits (b / 16)) (slice_index lower_digits (b % 16) ∷ encode_lower bytes)
    (hex_safe (b / 16) (omega (arith, low)))
    (All-cons IsSafe (slice_index lower_digits (b % 16)) (encode_lower bytes) (hex_safe (b % 16) (omega arith))
    (encode_safe bytes (All-tail (λ (x : ℕ). x < 256) b bytes are)))

hex_text_safe : (bytes : List ℕ) → AreBytes bytes → All IsSafe (hex_text bytes)
hex_text_safe bytes are = All-append IsSafe (codes "0x") (encode_lower bytes) (all_from (codes "0x") refl)
    (encode_safe bytes are)

-- the two shapes
abbrev pub HasShape : List ℕ → Type 0
HasShape text = All IsSafe text ⊎ ((inside : List ℕ) × (text ≡ quoted (escaped_text inside)))

safe_in_quotes : (text : List ℕ) → All IsSafe text → HasShape (quoted text)
safe_in_quotes text safe = inr (text, ap quoted (sym (safe_escaped text safe)))

pub signed_low : (w : ℕ) (z : ℤ) → IsColumnType (types.Int w true) → IsInRange true w z → nat_abs z ≤ 2 ^ 63
signed_low w z known range =
    let most = half_is_most w (omega (arith, known)) in omega (arith, ints, range.0, range.1, most)

pub signed_safe : (z : ℤ) → nat_abs z ≤ 2 ^ 63 → All IsSafe (signed_decimal z)
signed_safe (pos n) low = decimal_safe n (omega (arith, low))
signed_safe (negsuc n) low = All-cons IsSafe 45 (decimal (suc n)) dash (decimal_safe (suc n) (omega (arith, low)))

pub unsigned_low : (w n : ℕ) → IsColumnType (types.Int w false) → IsValueOf (types.Int w false) (values.Unsigned n)
    → n < 2 ^ 64
unsigned_low w n known (bytes, are, spell) =
    omega (arith, spell.1, num-below w bytes spell.0 are, pow256_most w (omega (arith, known)))

pub decimal_low : (p : ℕ) (n : ℕ) → p ≤ 38 → n < 10 ^ p → n < 10 ^ 64
decimal_low p n known low =
    let most : 10 ^ p ≤ 10 ^ 38 = pow-le-pow_right {n = 10} (omega arith) {i = p} {j = 38} known in
    omega (arith, low, most)

div_low : (n s m : ℕ) → n < m → n / 10 ^ s < m
div_low n s m low = omega (arith, low)

sign_safe : (units : ℤ) → All IsSafe (sign_text units)
sign_safe units = cond_both (int_lt units (pos 0)) (codes "-") [] (All IsSafe)
    (λ _. all_from (codes "-") refl) (λ _. All-nil IsSafe)

pub decimal_text_safe : (s : ℕ) (units : ℤ) → unsigned_abs units < 10 ^ 64 → All IsSafe (decimal_text s units)
decimal_text_safe s units low = All-append IsSafe (whole_text s units) (behind_point s (unsigned_abs units))
    (All-append IsSafe (sign_text units) (decimal (unsigned_abs units / 10 ^ s)) (sign_safe units)
    (decimal_safe (unsigned_abs units / 10 ^ s) (div_low (unsigned_abs units) s (10 ^ 64) low)))
    (behind_safe s (unsigned_abs units))

raw_shape : (raw : List ℕ) → AreBytes raw → HasShape (hex_or_empty raw)
raw_shape raw are = cond_both (eqb (length raw) 0) (quoted []) (hex_text raw) HasShape
    (λ _. safe_in_quotes [] (All-nil IsSafe)) (λ _. inl (hex_text_safe raw are))

pub shape : (kind : ColumnType) (value : Value) → IsColumnType kind → IsValueOf kind value
    → HasShape (value_text kind value)
shape (types.Int w true) (values.Signed z) known is =
    inl (signed_safe z (signed_low w z known
    (integer_in_range w true (values.Signed z) z (omega (arith, known)) refl is)))
shape (types.Int w false) (values.Unsigned n) known is =
    inl (decimal_safe n (omega (arith, unsigned_low w n known is)))
shape types.Date (values.Date year month day) known is = safe_in_quotes (date_text year month day)
    (date_safe year month day)
shape (types.Char n) (values.Text text) known is = inr (text, refl)
shape (types.Varchar n) (values.Text text) known is = inr (text, refl)
shape (types.Text n) (values.Text text) known is = inr (text, refl)
shape (types.Utf8Varchar n) (values.Text text) known is = inr (text, refl)
shape (types.Utf8Text n) (values.Text text) known is = inr (text, refl)
shape (types.Binary n) (values.Bytes raw) known (bytes, are, spell) =
    inl (hex_text_safe raw (subst AreBytes spell.1 are))
shape (types.Varbinary n) (values.Bytes raw) known (bytes, are, spell) =
    raw_shape raw (subst AreBytes spell.1 are)
shape (types.Blob n) (values.Bytes raw) known (bytes, are, spell) = raw_shape raw (subst AreBytes spell.1 are)
shape (types.DateTime f) (values.DateTime year month day hour minute second micro) known is =
    safe_in_quotes (moment_text f year month day hour minute second micro)
    (moment_safe f year month day hour minute second micro)
shape (types.Timestamp f) (values.Timestamp seconds micro) known is =
    safe_in_quotes (timestamp_text f seconds micro) (timestamp_safe f seconds micro)
shape types.Year (values.Year year) known is = inl (four_safe year)
shape (types.Decimal p s) (values.Decimal units) known (bytes, are, spell) =
    inl (decimal_text_safe s units (decimal_low p (unsigned_abs units) (omega (arith, known)) spell.few))
shape (types.Int w true) _ known is = absurd is.2
shape (types.Int w false) _ known is = absurd is.2
shape types.Date _ known is = absurd is.2
shape (types.Char n) _ known is = absurd is.2
shape (types.Varchar n) _ known is = absurd is.2
shape (types.Text n) _ known is = absurd is.2
shape (types.Utf8Varchar n) _ known is = absurd is.2
shape (types.Utf8Text n) _ known is = absurd is.2
shape (types.Binary n) _ known is = absurd is.2
shape (types.Varbinary n) _ known is = absurd is.2
shape (types.Blob n) _ known is = absurd is.2
shape (types.DateTime f) _ known is = absurd is.2
shape (types.Timestamp f) _ known is = absurd is.2
shape types.Year _ known is = absurd is.2
shape (types.Decimal p s) _ known is = absurd is.2

-- two safe texts with an end behind each
ended : (b : ℕ) (rest : List ℕ) → IsSafe b → EndsValue (b ∷ rest) → ⊥
ended b rest safe ends = omega (arith, safe, ends)

no_end : (b : ℕ) (rest text : List ℕ) → IsSafe b → text ≡ b ∷ rest → EndsValue text → ⊥
no_end b rest text safe e ends = ended b rest safe (subst EndsValue e ends)

bare_apart : (s t x y : List ℕ) → All IsSafe s → All IsSafe t → s ++ x ≡ t ++ y → EndsValue x → EndsValue y
    → (s ≡ t) × (x ≡ y)
bare_apart [] [] x y a b e ex ey = (refl, e)
bare_apart [] (c ∷ t) x y a b e ex ey = absurd (no_end c (t ++ y) x (All-head IsSafe c t b) e ex)
bare_apart (c ∷ s) [] x y a b e ex ey = absurd (no_end c (s ++ x) y (All-head IsSafe c s a) (sym e) ey)
bare_apart (c ∷ s) (d ∷ t) x y a b e ex ey =
    let first : c ≡ d = cc in
    let more : s ++ x ≡ t ++ y = cc in
    let rest = bare_apart s t x y (All-tail IsSafe c s a) (All-tail IsSafe d t b) more ex ey in
    (ap (λ (h : ℕ). h ∷ s) first ∙ ap (λ (r : List ℕ). d ∷ r) rest.0, rest.1)

quote_ends : (t : List ℕ) → EndsValue (39 ∷ t) → ⊥
quote_ends t ends = omega (arith, ends)

no_quote : (s x t : List ℕ) → All IsSafe s → s ++ x ≡ 39 ∷ t → EndsValue x → ⊥
no_quote [] x t safe e ends = quote_ends t (subst EndsValue e ends)
no_quote (c ∷ s) x t safe e ends = let is : c ≡ 39 = cc in let here = All-head IsSafe c s safe in
    omega (arith, is, here)

pub shapes_apart : (s t x y : List ℕ) → HasShape s → HasShape t → s ++ x ≡ t ++ y → EndsValue x → EndsValue y
    → (s ≡ t) × (x ≡ y)
shapes_apart s t x y (inl a) (inl b) e ex ey = bare_apart s t x y a b e ex ey
shapes_apart s t x y (inl a) (inr b) e ex ey =
    absurd (no_quote s x _ a (e ∙ ap (λ (r : List ℕ). r ++ y) b.1) ex)
shapes_apart s t x y (inr a) (inl b) e ex ey =
    absurd (no_quote t y _ b (sym e ∙ ap (λ (r : List ℕ). r ++ x) a.1) ey)
shapes_apart s t x y (inr a) (inr b) e ex ey =
    let same = quoted_apart a.0 b.0 x y (sym (ap (λ (r : List ℕ). r ++ x) a.1) ∙ e
    ∙ ap (λ (r : List ℕ). r ++ y) b.1) in
    (a.1 ∙ ap (λ (r : List ℕ). quoted (escaped_text r)) same.0 ∙ sym b.1, same.1)
