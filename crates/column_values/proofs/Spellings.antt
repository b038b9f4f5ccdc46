-- One spelling for each value, and one value for each spelling.
use Rattle.std.proofs.Common.{◌≡◌, ℕ, zero, suc, ◌+◌, ◌-◌, ◌*◌, ◌/◌, ◌^◌, ◌<◌, ◌≤◌, Bool, true, false, eqb, List, []}
use Rattle.std.proofs.Common.{◌∷◌, ◌++◌, length, take, drop, replicate, slice_index, refl, sym, ap, ◌∙◌, subst, inl}
use Rattle.std.proofs.Common.{inr, arith}
use Rattle.std.specs.Prelude.{ℤ, pos, negsuc, ◌+ℤ◌, nat_abs}
use Rattle.std.proofs.lemmas.Bool.{cases_lt}
use Rattle.std.proofs.lemmas.Bool.Decides.{nat_tests}
use Rattle.std.proofs.lemmas.Int.{ints}
use Rattle.std.proofs.lemmas.List.{take-append-drop}
use Rattle.std.proofs.lemmas.List.Elements.{All-drop}
use Rattle.std.proofs.lemmas.Nat.{div-mul-add}
use Rattle.page_source.specs.Pages.{num, be_bytes, AreBytes}
use Rattle.column_values.specs.declared.kind.ColumnType.{ColumnType}
use Rattle.column_values.specs.declared.kind.ColumnType.TheVariants as types
use Rattle.column_values.specs.declared.value.Value.{Value}
use Rattle.column_values.specs.declared.value.Value.TheVariants as values
use Rattle.column_values.specs.Types.{IsColumnType}
use Rattle.column_values.specs.Lengths.{fraction_length, decimal_groups}
use Rattle.column_values.specs.Moments.{fraction_unit, fraction_bytes, SpellsFraction, SpellsDateTime, packed_moment}
use Rattle.column_values.specs.Moments.{year_of}
use Rattle.column_values.specs.Decimals.{grouped, complemented, signed_groups}
use Rattle.column_values.specs.Spell.{int_of, int_bytes, packed_date, SpellsDate, SpellsChar, Spell, spelling_of}
use Rattle.column_values.specs.Laws.{HasOneSpelling, HasOneValue, SpellingSpells}
use Rattle.column_values.proofs.Bytes.{be_bytes-num, be_bytes-front}
use Rattle.column_values.proofs.TextValues.{trim, with_front, NoSpaceAtEnd, no_front, one_front}
use Rattle.column_values.proofs.DecimalValues.{turned_back, one_number, signed_low, signed_high, complement_twice}
use Rattle.column_values.proofs.Groups.{are_grouped, some_power}

-- bytes of a number are those that are written
int_back : (w : ℕ) (bytes : List ℕ) (z : ℤ) → length bytes ≡ w → AreBytes bytes → z ≡ int_of true w bytes
    → bytes ≡ int_bytes true w z
int_back w bytes z size are is =
    let e : nat_abs (z +ℤ pos (2 ^ (8 * w - 1))) ≡ num bytes 0 w = rw is (omega (arith, ints)) in
    sym (be_bytes-num w bytes size are) ∙ ap (be_bytes w) (sym e)

number_back : (w n : ℕ) (bytes : List ℕ) → length bytes ≡ w → AreBytes bytes → n ≡ num bytes 0 w → bytes ≡ be_bytes w n
number_back w n bytes size are is = sym (be_bytes-num w bytes size are) ∙ ap (be_bytes w) (sym is)

pub some_unit : (f : ℕ) → 1 ≤ fraction_unit f
some_unit f = some_power (6 - 2 * fraction_length f)

units_back : (f micro : ℕ) (bytes : List ℕ) → AreBytes bytes → SpellsFraction f micro bytes
    → bytes ≡ fraction_bytes f micro
units_back f micro bytes are spell =
    let u : ℕ = fraction_unit f in
    let n : ℕ = num bytes 0 (fraction_length f) in
    let some = some_unit f in
    let back : (n * u + 0) / u ≡ n = div-mul-add n u 0 (omega arith) in
    let whole : micro / u ≡ n = ap (λ (x : ℕ). x / u) (spell.units ∙ omega arith) ∙ back in
    number_back (fraction_length f) (micro / u) bytes spell.size are whole

-- a number, and a fraction behind it
both_back : (w n f micro : ℕ) (bytes : List ℕ) → AreBytes bytes → length bytes ≡ w + fraction_length f
    → num bytes 0 w ≡ n → SpellsFraction f micro (drop w bytes)
    → bytes ≡ be_bytes w n ++ fraction_bytes f micro
both_back w n f micro bytes are size number spell =
    let front : take w bytes ≡ be_bytes w n = sym (be_bytes-front w bytes (omega arith) are) ∙ ap (be_bytes w) number in
    let rest = units_back f micro (drop w bytes) (All-drop (λ (b : ℕ). b < 256) w bytes are) spell in
    sym (take-append-drop w bytes) ∙ (λ i. front i ++ rest i)

year_back : (year byte : ℕ) → year ≡ year_of byte → year - 1900 ≡ byte
year_back year byte is =
    elim (cases_lt 0 byte) [
      | inl some ↦ let t : eqb byte 0 ≡ false = grind (arith, nat_tests) in let y : year ≡ 1900 + byte =
          rw t at is in omega arith
      | inr none ↦ let t : eqb byte 0 ≡ true = grind (arith, nat_tests) in let y : year ≡ 0 = rw t at is in omega arith
    ]

pub spelled_is : (kind : ColumnType) (value : Value) (bytes : List ℕ) → AreBytes bytes → Spell kind value bytes
    → bytes ≡ spelling_of kind value
spelled_is (types.Int w true) (values.Signed z) bytes are spell = int_back w bytes z spell.0 are spell.1
spelled_is (types.Int w false) (values.Unsigned n) bytes are spell = number_back w n bytes spell.0 are spell.1
spelled_is types.Date (values.Date year month day) bytes are spell =
    number_back 3 (packed_date year month day) bytes spell.size are (sym spell.packed)
spelled_is (types.Char n) (values.Text text) bytes are spell = spell.filled
spelled_is (types.Binary n) (values.Bytes value) bytes are spell = spell.1
spelled_is (types.Varchar n) (values.Text text) bytes are spell = spell.1
spelled_is (types.Varbinary n) (values.Bytes value) bytes are spell = spell.1
spelled_is (types.Text n) (values.Text text) bytes are spell = spell.1
spelled_is (types.Blob n) (values.Bytes value) bytes are spell = spell.1
spelled_is (types.Utf8Varchar n) (values.Text text) bytes are spell = spell.1
spelled_is (types.Utf8Text n) (values.Text text) bytes are spell = spell.2
spelled_is (types.DateTime f) (values.DateTime year month day hour minute second micro) bytes are spell =
    both_back 5 (2 ^ 39 + packed_moment year month day hour minute second) f micro bytes are spell.size spell.packed
    spell.fraction
spelled_is (types.Timestamp f) (values.Timestamp seconds micro) bytes are spell =
    both_back 4 seconds f micro bytes are spell.size spell.counted spell.fraction
spelled_is types.Year (values.Year year) bytes are spell =
    number_back 1 (year - 1900) bytes spell.size are (year_back year (num bytes 0 1) spell.counted)
spelled_is (types.Decimal p s) (values.Decimal units) bytes are spell = spell.digits
spelled_is (types.Int w true) _ bytes are spell = absurd spell
spelled_is (types.Int w false) _ bytes are spell = absurd spell
spelled_is _ _ bytes are spell = absurd spell

pub one_spelling : HasOneSpelling
one_spelling kind value a b known are_a are_b first second = spelled_is kind value a are_a first
    ∙ sym (spelled_is kind value b are_b second)

pub spelling_spells : SpellingSpells
spelling_spells kind value known (bytes, are, spell) =
    subst (Spell kind value) (spelled_is kind value bytes are spell) spell

-- the text of a filled one
trim-spaces : (k : ℕ) → trim (replicate k 32) ≡ []
trim-spaces zero = refl
trim-spaces (suc k) = ap (with_front 32) (trim-spaces k) ∙ no_front 32 refl

end_of_rest : (x y : ℕ) (text : List ℕ) → NoSpaceAtEnd (x ∷ y ∷ text) → NoSpaceAtEnd (y ∷ text)
end_of_rest x y text last = λ some e.
    let this : length (x ∷ y ∷ text) - 1 ≡ suc (length text) = omega arith in
    let that : length (y ∷ text) - 1 ≡ length text = omega arith in
    last (omega arith) (ap (slice_index (x ∷ y ∷ text)) this ∙ sym (ap (slice_index (y ∷ text)) that) ∙ e)

trim-filled : (text : List ℕ) (k : ℕ) → NoSpaceAtEnd text → trim (text ++ replicate k 32) ≡ text
trim-filled [] k last = trim-spaces k
trim-filled (x ∷ []) k last = ap (with_front x) (trim-spaces k) ∙ one_front x (last (omega arith))
trim-filled (x ∷ y ∷ text) k last = ap (with_front x) (trim-filled (y ∷ text) k (end_of_rest x y text last))

text_is : (n : ℕ) (text bytes : List ℕ) → SpellsChar n text bytes → trim bytes ≡ text
text_is n text bytes spell = ap trim spell.filled ∙ trim-filled text (n - length text) spell.is_trimmed.trimmed

same_date : (bytes : List ℕ) (y1 m1 d1 y2 m2 d2 : ℕ) → SpellsDate y1 m1 d1 bytes → SpellsDate y2 m2 d2 bytes
    → (y1 ≡ y2) × (m1 ≡ m2) × (d1 ≡ d2)
same_date bytes y1 m1 d1 y2 m2 d2 a b =
    let e : packed_date y1 m1 d1 ≡ packed_date y2 m2 d2 = sym a.packed ∙ b.packed in
    let am = a.greatest_month in let ad = a.greatest_day in let bm = b.greatest_month in let bd = b.greatest_day in
    (omega arith, omega arith, omega arith)

same_fraction : (f u v : ℕ) (bytes : List ℕ) → SpellsFraction f u bytes → SpellsFraction f v bytes → u ≡ v
same_fraction f u v bytes a b = a.units ∙ sym b.units

one_int : (w : ℕ) (s : Bool) (v u : Value) (bytes : List ℕ) → Spell (types.Int w s) v bytes
    → Spell (types.Int w s) u bytes → v ≡ u
one_int w true (values.Signed y) (values.Signed z) bytes a b = ap values.Signed (a.1 ∙ sym b.1)
one_int w false (values.Unsigned m) (values.Unsigned n) bytes a b = ap values.Unsigned (a.1 ∙ sym b.1)
one_int w true (values.Signed y) _ bytes a b = absurd b
one_int w false (values.Unsigned m) _ bytes a b = absurd b
one_int w true _ u bytes a b = absurd a
one_int w false _ u bytes a b = absurd a

one_date : (v u : Value) (bytes : List ℕ) → Spell types.Date v bytes → Spell types.Date u bytes → v ≡ u
one_date (values.Date y1 m1 d1) (values.Date y2 m2 d2) bytes a b = let e = same_date bytes y1 m1 d1 y2 m2 d2 a b in
    rw (e.0, e.1, e.2) refl
one_date (values.Date y1 m1 d1) _ bytes a b = absurd b
one_date _ u bytes a b = absurd a

one_char : (n : ℕ) (v u : Value) (bytes : List ℕ) → Spell (types.Char n) v bytes → Spell (types.Char n) u bytes → v ≡ u
one_char n (values.Text s) (values.Text t) bytes a b = ap values.Text (sym (text_is n s bytes a) ∙ text_is n t bytes b)
one_char n (values.Text s) _ bytes a b = absurd b
one_char n _ u bytes a b = absurd a

one_year : (v u : Value) (bytes : List ℕ) → Spell types.Year v bytes → Spell types.Year u bytes → v ≡ u
one_year (values.Year y) (values.Year z) bytes a b = ap values.Year (a.counted ∙ sym b.counted)
one_year (values.Year y) _ bytes a b = absurd b
one_year _ u bytes a b = absurd a

one_timestamp : (f : ℕ) (v u : Value) (bytes : List ℕ) → Spell (types.Timestamp f) v bytes
    → Spell (types.Timestamp f) u bytes → v ≡ u
one_timestamp f (values.Timestamp s1 u1) (values.Timestamp s2 u2) bytes a b =
    let s : s1 ≡ s2 = sym a.counted ∙ b.counted in let u =
    same_fraction f u1 u2 (drop 4 bytes) a.fraction b.fraction in rw (s, u) refl
one_timestamp f (values.Timestamp s1 u1) _ bytes a b = absurd b
one_timestamp f _ u bytes a b = absurd a

same_moment : (f : ℕ) (bytes : List ℕ) (y1 mo1 d1 h1 mi1 s1 u1 y2 mo2 d2 h2 mi2 s2 u2 : ℕ)
    → SpellsDateTime f y1 mo1 d1 h1 mi1 s1 u1 bytes → SpellsDateTime f y2 mo2 d2 h2 mi2 s2 u2 bytes
    → (y1 ≡ y2) × (mo1 ≡ mo2) × (d1 ≡ d2) × (h1 ≡ h2) × (mi1 ≡ mi2) × (s1 ≡ s2)
same_moment f bytes y1 mo1 d1 h1 mi1 s1 u1 y2 mo2 d2 h2 mi2 s2 u2 a b =
    let e : 2 ^ 39 + packed_moment y1 mo1 d1 h1 mi1 s1 ≡ 2 ^ 39 + packed_moment y2 mo2 d2 h2 mi2 s2 = sym a.packed
    ∙ b.packed in
    let am = a.is_moment in
    let bm = b.is_moment in
    (omega arith, omega arith, omega arith, omega arith, omega arith, omega arith)

one_moment : (f : ℕ) (v u : Value) (bytes : List ℕ) → Spell (types.DateTime f) v bytes
    → Spell (types.DateTime f) u bytes → v ≡ u
one_moment f (values.DateTime y1 mo1 d1 h1 mi1 s1 u1) (values.DateTime y2 mo2 d2 h2 mi2 s2 u2) bytes a b =
    let e = same_moment f bytes y1 mo1 d1 h1 mi1 s1 u1 y2 mo2 d2 h2 mi2 s2 u2 a b in
    let u = same_fraction f u1 u2 (drop 5 bytes) a.fraction b.fraction in
    rw (e.0, e.1, e.2, e.3, e.4, e.5, u) refl
one_moment f (values.DateTime y1 mo1 d1 h1 mi1 s1 u1) _ bytes a b = absurd b
one_moment f _ u bytes a b = absurd a

-- the groups with a sign have one number
same_signed : (p s : ℕ) → IsColumnType (types.Decimal p s) → (y z : ℤ) → nat_abs y < 10 ^ p → nat_abs z < 10 ^ p
    → signed_groups (decimal_groups p s) y ≡ signed_groups (decimal_groups p s) z → y ≡ z
same_signed p s known (pos m) (pos n) y_low z_low e = ap pos (one_number p s known m n y_low z_low e)
same_signed p s known (negsuc m) (negsuc n) y_low z_low e =
    let back : grouped (decimal_groups p s) (suc m) ≡ grouped (decimal_groups p s) (suc n) =
    sym (complement_twice (grouped (decimal_groups p s) (suc m)) (are_grouped (decimal_groups p s) (suc m)))
    ∙ ap complemented e
    ∙ complement_twice (grouped (decimal_groups p s) (suc n)) (are_grouped (decimal_groups p s) (suc n)) in
    let same = one_number p s known (suc m) (suc n) y_low z_low back in
    let less : m ≡ n = omega arith in ap negsuc less
same_signed p s known (pos m) (negsuc n) y_low z_low e =
    absurd (omega (
      arith,
      signed_low p s known m y_low,
      signed_high p s known n z_low,
      ap (λ (t : List ℕ). slice_index t 0) e,
    ))
same_signed p s known (negsuc m) (pos n) y_low z_low e =
    absurd (omega (
      arith,
      signed_low p s known n z_low,
      signed_high p s known m y_low,
      ap (λ (t : List ℕ). slice_index t 0) e,
    ))

one_decimal : (p s : ℕ) → IsColumnType (types.Decimal p s) → (v u : Value) (bytes : List ℕ)
    → Spell (types.Decimal p s) v bytes → Spell (types.Decimal p s) u bytes → v ≡ u
one_decimal p s known (values.Decimal y) (values.Decimal z) bytes a b =
    ap values.Decimal (same_signed p s known y z a.few b.few (sym (turned_back p s known y bytes a)
    ∙ turned_back p s known z bytes b))
one_decimal p s known (values.Decimal y) _ bytes a b = absurd b
one_decimal p s known _ u bytes a b = absurd a

one_varchar : (n : ℕ) (v u : Value) (bytes : List ℕ) → Spell (types.Varchar n) v bytes
    → Spell (types.Varchar n) u bytes → v ≡ u
one_varchar n (values.Text s) (values.Text t) bytes a b = ap values.Text (sym a.1 ∙ b.1)
one_varchar n (values.Text s) _ bytes a b = absurd b
one_varchar n _ u bytes a b = absurd a

one_text : (n : ℕ) (v u : Value) (bytes : List ℕ) → Spell (types.Text n) v bytes → Spell (types.Text n) u bytes → v ≡ u
one_text n (values.Text s) (values.Text t) bytes a b = ap values.Text (sym a.1 ∙ b.1)
one_text n (values.Text s) _ bytes a b = absurd b
one_text n _ u bytes a b = absurd a

one_utf8_varchar : (n : ℕ) (v u : Value) (bytes : List ℕ) → Spell (types.Utf8Varchar n) v bytes
    → Spell (types.Utf8Varchar n) u bytes → v ≡ u
one_utf8_varchar n (values.Text s) (values.Text t) bytes a b = ap values.Text (sym a.1 ∙ b.1)
one_utf8_varchar n (values.Text s) _ bytes a b = absurd b
one_utf8_varchar n _ u bytes a b = absurd a

one_utf8_text : (n : ℕ) (v u : Value) (bytes : List ℕ) → Spell (types.Utf8Text n) v bytes
    → Spell (types.Utf8Text n) u bytes → v ≡ u
one_utf8_text n (values.Text s) (values.Text t) bytes a b = ap values.Text (sym a.2 ∙ b.2)
one_utf8_text n (values.Text s) _ bytes a b = absurd b
one_utf8_text n _ u bytes a b = absurd a

one_binary : (n : ℕ) (v u : Value) (bytes : List ℕ) → Spell (types.Binary n) v bytes → Spell (types.Binary n) u bytes
    → v ≡ u
one_binary n (values.Bytes s) (values.Bytes t) bytes a b = ap values.Bytes (sym a.1 ∙ b.1)
one_binary n (values.Bytes s) _ bytes a b = absurd b
one_binary n _ u bytes a b = absurd a

one_varbinary : (n : ℕ) (v u : Value) (bytes : List ℕ) → Spell (types.Varbinary n) v bytes
    → Spell (types.Varbinary n) u bytes → v ≡ u
one_varbinary n (values.Bytes s) (values.Bytes t) bytes a b = ap values.Bytes (sym a.1 ∙ b.1)
one_varbinary n (values.Bytes s) _ bytes a b = absurd b
one_varbinary n _ u bytes a b = absurd a

one_blob : (n : ℕ) (v u : Value) (bytes : List ℕ) → Spell (types.Blob n) v bytes → Spell (types.Blob n) u bytes → v ≡ u
one_blob n (values.Bytes s) (values.Bytes t) bytes a b = ap values.Bytes (sym a.1 ∙ b.1)
one_blob n (values.Bytes s) _ bytes a b = absurd b
one_blob n _ u bytes a b = absurd a

pub one_value : HasOneValue
one_value (types.Int w s) v u bytes known a b = one_int w s v u bytes a b
one_value types.Date v u bytes known a b = one_date v u bytes a b
one_value (types.Char n) v u bytes known a b = one_char n v u bytes a b
one_value (types.Varchar n) v u bytes known a b = one_varchar n v u bytes a b
one_value (types.Binary n) v u bytes known a b = one_binary n v u bytes a b
one_value (types.Varbinary n) v u bytes known a b = one_varbinary n v u bytes a b
one_value (types.Text n) v u bytes known a b = one_text n v u bytes a b
one_value (types.Blob n) v u bytes known a b = one_blob n v u bytes a b
one_value (types.Utf8Varchar n) v u bytes known a b = one_utf8_varchar n v u bytes a b
one_value (types.Utf8Text n) v u bytes known a b = one_utf8_text n v u bytes a b
one_value (types.DateTime f) v u bytes known a b = one_moment f v u bytes a b
one_value (types.Timestamp f) v u bytes known a b = one_timestamp f v u bytes a b
one_value types.Year v u bytes known a b = one_year v u bytes a b
one_value (types.Decimal p s) v u bytes known a b = one_decimal p s known v u bytes a b
