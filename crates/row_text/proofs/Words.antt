-- Words, and the numbers and moments, which are words.
use Rattle.std.proofs.Common.{◌≡◌, ◌≢◌, ℕ, ◌+◌, ◌<◌, ◌≤◌, ◌⊎◌, List, [], ◌∷◌, ◌++◌, length}
use Rattle.std.proofs.Common.{take, drop, get_or, true, false, Some, None, refl, sym, ap, ◌∙◌, subst, inl, inr}
use Rattle.std.proofs.Common.{arith, eqb, position}
use Rattle.std.specs.Prelude.{All, unsigned_abs}
use Rattle.std.proofs.lemmas.Bool.{eqb-true, eqb-false, or_cases, or_parts}
use Rattle.std.proofs.lemmas.List.{take-append-drop, drop_more, get_or-take, length-take-le, drop_all, append-nil}
use Rattle.std.proofs.lemmas.List.Elements.{All-nil, All-cons, All-head, All-tail, All-append, All-from_get_or}
use Rattle.std.proofs.lemmas.List.Elements.{All-weaker}
use Rattle.std.proofs.lemmas.List.Quantifiers.{position-Some}
use Rattle.schema_text.proofs.Positions.{none_passes}
use Rattle.column_values.specs.declared.kind.ColumnType.{ColumnType}
use Rattle.column_values.specs.declared.kind.ColumnType.TheVariants as types
use Rattle.column_values.specs.declared.value.Value.{Value}
use Rattle.column_values.specs.declared.value.Value.TheVariants as values
use Rattle.column_values.specs.Types.{IsColumnType, HoldsText}
use Rattle.column_values.specs.Spell.{IsValueOf}
use Rattle.row_text.specs.Values.{quoted, value_text, date_text, moment_text, timestamp_text}
use Rattle.row_text.specs.calls.Values.{EndsValue, BeginsWith}
use Rattle.row_text.specs.calls.Words.{HasNoEnd, IsWordOf, is_end}
use Rattle.row_text.proofs.Quotes.{IsSafe}
use Rattle.row_text.proofs.Shapes.{date_safe, moment_safe, timestamp_safe, four_safe, decimal_safe, decimal_text_safe}
use Rattle.row_text.proofs.Shapes.{signed_safe, signed_low, unsigned_low, decimal_low}
use Rattle.std.specs.Fmt.{decimal, signed_decimal}
use Rattle.column_values.proofs.IntegerValues.{integer_in_range}
use Rattle.row_text.specs.Digits.{four_digits, decimal_text}

abbrev IsInside : ℕ → Type 0
IsInside byte = (byte ≢ 44) × (byte ≢ 41)

inside_of : (b : ℕ) → is_end b ≡ false → IsInside b
inside_of b none = let p = or_parts (eqb b 44) (eqb b 41) none in (eqb-false b 44 p.0, eqb-false b 41 p.1)

end_of : (b : ℕ) → is_end b ≡ true → (b ≡ 44) ⊎ (b ≡ 41)
end_of b is = elim (or_cases (eqb b 44) (eqb b 41) is) [ inl e ↦ inl (eqb-true b 44 e) | inr e ↦ inr (eqb-true b 41 e) ]

-- a word that ends where a value may end
pub record IsCut (text word : List ℕ) : Type 0 where
  pub cut : text ≡ word ++ drop (length word) text
  pub ends : EndsValue (drop (length word) text)
  pub lacks : HasNoEnd word
  pub within : length word ≤ length text

pub cut_at : (text word : List ℕ) (at : ℕ) → position is_end text ≡ Some at → word ≡ take at text → IsCut text word
cut_at text word at found is =
    let place = position-Some is_end text at 0 found in
    let size : length word ≡ at = ap length is ∙ length-take-le at text (omega (arith, place.0)) in
    let rest : drop (length word) text ≡ get_or text at 0 ∷ drop (at + 1) text =
    ap (λ (k : ℕ). drop k text) size ∙ drop_more text at 0 place.0 in
    record {
      cut = sym (take-append-drop at text) ∙ ap (λ (t : List ℕ). t ++ drop at text) (sym is)
          ∙ ap (λ (k : ℕ). word ++ drop k text) (sym size);
      ends = subst EndsValue (sym rest) (end_of (get_or text at 0) place.1);
      lacks = subst HasNoEnd (sym is) (All-from_get_or IsInside (take at text) 0 (λ i lt.
          let short : i < at = omega (arith, lt, length-take-le at text (omega (arith, place.0))) in
          subst IsInside (sym (get_or-take at text i 0 short)) (inside_of (get_or text i 0) (place.2 i short))));
      within = omega (arith, size, place.0);
    }

pub cut_all : (text : List ℕ) → position is_end text ≡ None → IsCut text text
cut_all text none =
    let rest : drop (length text) text ≡ [] = drop_all (length text) text (omega arith) in
    record {
      cut = sym (append-nil text) ∙ ap (λ (t : List ℕ). text ++ t) (sym rest);
      ends = subst EndsValue (sym rest) tt;
      lacks = All-from_get_or IsInside text 0
          (λ i lt. inside_of (get_or text i 0) (none_passes is_end text none i 0 lt));
      within = omega arith;
    }

ended : (b : ℕ) (rest : List ℕ) → IsInside b → EndsValue (b ∷ rest) → ⊥
ended b rest inside ends = omega (arith, inside.0, inside.1, ends)

pub no_end : (b : ℕ) (rest text : List ℕ) → IsInside b → text ≡ b ∷ rest → EndsValue text → ⊥
no_end b rest text inside e ends = ended b rest inside (subst EndsValue e ends)

-- two words with an end behind each
words_apart : (s t x y : List ℕ) → HasNoEnd s → HasNoEnd t → s ++ x ≡ t ++ y → EndsValue x → EndsValue y
    → (s ≡ t) × (x ≡ y)
words_apart [] [] x y a b e ex ey = (refl, e)
words_apart [] (c ∷ t) x y a b e ex ey = absurd (no_end c (t ++ y) x (All-head IsInside c t b) e ex)
words_apart (c ∷ s) [] x y a b e ex ey = absurd (no_end c (s ++ x) y (All-head IsInside c s a) (sym e) ey)
words_apart (c ∷ s) (d ∷ t) x y a b e ex ey =
    let first : c ≡ d = cc in
    let more : s ++ x ≡ t ++ y = cc in
    let rest = words_apart s t x y (All-tail IsInside c s a) (All-tail IsInside d t b) more ex ey in
    (ap (λ (h : ℕ). h ∷ s) first ∙ ap (λ (r : List ℕ). d ∷ r) rest.0, rest.1)

pub safe_inside : (b : ℕ) → IsSafe b → IsInside b
safe_inside b safe = (λ e. omega (arith, safe, e), λ e. omega (arith, safe, e))

safe_word : (text : List ℕ) → All IsSafe text → HasNoEnd text
safe_word text safe = All-weaker IsSafe IsInside safe_inside text safe

quote_inside : IsInside 39
quote_inside = (λ e. omega (arith, e), λ e. omega (arith, e))

quoted_word : (text : List ℕ) → All IsSafe text → HasNoEnd (quoted text)
quoted_word text safe = All-cons IsInside 39 (text ++ 39 ∷ []) quote_inside
    (All-append IsInside text (39 ∷ []) (safe_word text safe) (All-cons IsInside 39 [] quote_inside (All-nil IsInside)))

-- a number and a moment are words
value_word : (kind : ColumnType) (value : Value) → IsColumnType kind → ¬ (HoldsText kind) → IsValueOf kind value
    → HasNoEnd (value_text kind value)
value_word (types.Int w true) (values.Signed z) known plain is =
    safe_word (signed_decimal z) (signed_safe z (signed_low w z known
    (integer_in_range w true (values.Signed z) z (omega (arith, known)) refl is)))
value_word (types.Int w false) (values.Unsigned n) known plain is =
    safe_word (decimal n) (decimal_safe n (omega (arith, unsigned_low w n known is)))
value_word types.Date (values.Date y m d) known plain is = quoted_word (date_text y m d) (date_safe y m d)
value_word (types.DateTime f) (values.DateTime y mo d h mi s n) known plain is =
    quoted_word (moment_text f y mo d h mi s n) (moment_safe f y mo d h mi s n)
value_word (types.Timestamp f) (values.Timestamp s n) known plain is =
    quoted_word (timestamp_text f s n) (timestamp_safe f s n)
value_word types.Year (values.Year year) known plain is = safe_word (four_digits year) (four_safe year)
value_word (types.Decimal p s) (values.Decimal units) known plain is =
    safe_word (decimal_text s units) (decimal_text_safe s units
    (decimal_low p (unsigned_abs units) (omega (arith, known)) is.2.few))
value_word (types.Int w true) _ known plain is = absurd is.2
value_word (types.Int w false) _ known plain is = absurd is.2
value_word types.Date _ known plain is = absurd is.2
value_word (types.DateTime f) _ known plain is = absurd is.2
value_word (types.Timestamp f) _ known plain is = absurd is.2
value_word types.Year _ known plain is = absurd is.2
value_word (types.Decimal p s) _ known plain is = absurd is.2
value_word (types.Char n) value known plain is = absurd (plain tt)
value_word (types.Varchar n) value known plain is = absurd (plain (inl tt))
value_word (types.Text n) value known plain is = absurd (plain (inl tt))
value_word (types.Utf8Varchar n) value known plain is = absurd (plain (inl tt))
value_word (types.Utf8Text n) value known plain is = absurd (plain (inl tt))
value_word (types.Binary n) value known plain is = absurd (plain (inr tt))
value_word (types.Varbinary n) value known plain is = absurd (plain (inr tt))
value_word (types.Blob n) value known plain is = absurd (plain (inr tt))

-- a value that the text begins with is that of the word there
pub word_begins : (kind : ColumnType) (value : Value) (text word rest : List ℕ) → IsColumnType kind
    → ¬ (HoldsText kind) → text ≡ word ++ drop (length word) text → EndsValue (drop (length word) text)
    → HasNoEnd word → BeginsWith kind value text rest → IsWordOf kind value word
word_begins kind value text word rest known plain cut ends lacks begins =
    let same = words_apart word (value_text kind value) (drop (length word) text) rest lacks
    (value_word kind value known plain begins.is_value) (sym cut ∙ begins.spelled) ends begins.ends in
    record { is_value = begins.is_value; spelled = same.0 }
