-- A number, and a list of bytes, has one text, and a text is that of one.
use Rattle.std.proofs.Common.{◌≡◌, ℕ, suc, ◌+◌, ◌*◌, ◌/◌, ◌%◌, ◌^◌, ◌<◌, ◌≤◌, List, [], ◌∷◌, ◌++◌, length, get_or, inl}
use Rattle.std.proofs.Common.{inr}
use Rattle.std.proofs.Common.{refl, sym, ap, ◌∙◌, ℤ, pos, negsuc, eqb, Result, Ok, arith}
use Rattle.std.specs.Prelude.{codes, unsigned_abs, int_lt}
use Rattle.std.specs.Fmt.{decimal}
use Rattle.std.specs.Str.Parse.{digits_value, AllDigits}
use Rattle.std.proofs.lemmas.Str.Parse.{digit_at}
use Rattle.std.proofs.lemmas.Nat.{div-add-mod'}
use Rattle.std.proofs.lemmas.Bool.{cases_eq, cond-true, cond-false, eq-eqb, ne_eqb, cases_lt, le-ltb}
use Rattle.std.proofs.lemmas.List.{append_cancel_left, append_cancel_right, append-nil, nil_from_length, get_or_past}
use Rattle.std.proofs.lemmas.Fmt.{decimal_is_IsNumeral_wide}
use Rattle.std.proofs.lemmas.List.Elements.{All-get_or}
use Rattle.hex.specs.Hex.{encode_lower, decode_of, IsBytes}
use Rattle.hex.specs.declared.error.FromHexError.{FromHexError}
use Rattle.hex.proofs.HexLemmas.{decode_of-encode_lower}
use Rattle.page_source.specs.Pages.{AreBytes}
use Rattle.row_text.specs.Digits.{behind_point, sign_text, whole_text, decimal_text}
use Rattle.row_text.specs.Values.{quoted, escaped_text, hex_text, hex_or_empty}
use Rattle.row_text.proofs.Quotes.{quoted_apart}
use Rattle.row_text.proofs.FixedDigits.{same_parts, behind_size, behind_mod}

pub decimal_one : (m n : ℕ) → m < 10 ^ 64 → n < 10 ^ 64 → decimal m ≡ decimal n → m ≡ n
decimal_one m n low_m low_n e =
    sym (decimal_is_IsNumeral_wide m low_m).1 ∙ ap (digits_value 10) e ∙ (decimal_is_IsNumeral_wide n low_n).1

starts : (ds rest t : List ℕ) (b : ℕ) → 0 < length ds → AllDigits 10 ds → ds ++ rest ≡ b ∷ t → (48 ≤ b) × (b ≤ 57)
starts [] rest t b some digits e = absurd (omega (arith, some))
starts (d ∷ ds) rest t b some digits e =
    let is : d ≡ b = cc in
    let range = digit_at (d ∷ ds) 0 digits some in (omega (arith, is, range.0), omega (arith, is, range.1))

-- a number's text begins with a digit
pub first_digit : (n : ℕ) (rest t : List ℕ) (b : ℕ) → n < 10 ^ 64 → decimal n ++ rest ≡ b ∷ t → (48 ≤ b) × (b ≤ 57)
first_digit n rest t b low e = let is = decimal_is_IsNumeral_wide n low in
    starts (decimal n) rest t b is.0.0 is.0.1 e

no_sign : (n : ℕ) (t : List ℕ) → n < 10 ^ 64 → decimal n ≡ 45 ∷ t → ⊥
no_sign n t low e = let d = first_digit n [] t 45 low (append-nil (decimal n) ∙ e) in omega (arith, d.0)

sign_plus : (n : ℕ) → sign_text (pos n) ≡ []
sign_plus n = cond-false (int_lt (pos n) (pos 0)) (codes "-") [] (le-ltb n 0 (omega arith))

sign_minus : (n : ℕ) → sign_text (negsuc n) ≡ 45 ∷ []
sign_minus n = cond-true (int_lt (negsuc n) (pos 0)) (codes "-") [] refl

pub whole_plus : (s n : ℕ) → whole_text s (pos n) ≡ decimal (n / 10 ^ s)
whole_plus s n = ap (λ (t : List ℕ). t ++ decimal (n / 10 ^ s)) (sign_plus n)

pub whole_minus : (s n : ℕ) → whole_text s (negsuc n) ≡ 45 ∷ decimal (suc n / 10 ^ s)
whole_minus s n = ap (λ (t : List ℕ). t ++ decimal (suc n / 10 ^ s)) (sign_minus n)

pub back : (s m n : ℕ) → m / 10 ^ s ≡ n / 10 ^ s → m % 10 ^ s ≡ n % 10 ^ s → m ≡ n
back s m n whole parts =
    sym (div-add-mod' m (10 ^ s)) ∙ ap (λ (k : ℕ). k * 10 ^ s + m % 10 ^ s) whole
    ∙ ap (λ (k : ℕ). n / 10 ^ s * 10 ^ s + k) parts ∙ div-add-mod' n (10 ^ s)

same_whole : (s : ℕ) (y z : ℤ) → unsigned_abs y < 10 ^ 64 → unsigned_abs z < 10 ^ 64
    → unsigned_abs y % 10 ^ s ≡ unsigned_abs z % 10 ^ s → whole_text s y ≡ whole_text s z → y ≡ z
same_whole s (pos m) (pos n) low_m low_n parts e =
    let f = decimal_one (m / 10 ^ s) (n / 10 ^ s) (omega (arith, low_m)) (omega (arith, low_n))
    (sym (whole_plus s m) ∙ e ∙ whole_plus s n) in
    ap pos (back s m n f parts)
same_whole s (negsuc m) (negsuc n) low_m low_n parts e =
    let g : 45 ∷ decimal (suc m / 10 ^ s) ≡ 45 ∷ decimal (suc n / 10 ^ s) =
    sym (whole_minus s m) ∙ e ∙ whole_minus s n in
    let f = decimal_one (suc m / 10 ^ s) (suc n / 10 ^ s) (omega (arith, low_m)) (omega (arith, low_n)) (cc (g)) in
    let same : suc m ≡ suc n = back s (suc m) (suc n) f parts in
    ap negsuc (omega (arith, same))
same_whole s (pos m) (negsuc n) low_m low_n parts e =
    absurd (no_sign (m / 10 ^ s) (decimal (suc n / 10 ^ s)) (omega (arith, low_m))
    (sym (whole_plus s m) ∙ e ∙ whole_minus s n))
same_whole s (negsuc m) (pos n) low_m low_n parts e =
    absurd (no_sign (n / 10 ^ s) (decimal (suc m / 10 ^ s)) (omega (arith, low_n))
    (sym (whole_plus s n) ∙ sym e ∙ whole_minus s m))

pub decimal_text_one : (s : ℕ) (y z : ℤ) → unsigned_abs y < 10 ^ 64 → unsigned_abs z < 10 ^ 64
    → decimal_text s y ≡ decimal_text s z → y ≡ z
decimal_text_one s y z low_y low_z e =
    let parts = same_parts (whole_text s y) (whole_text s z) (behind_point s (unsigned_abs y))
    (behind_point s (unsigned_abs z)) (behind_size s (unsigned_abs y) (unsigned_abs z)) e in
    same_whole s y z low_y low_z (behind_mod s (unsigned_abs y) (unsigned_abs z) parts.1) parts.0

pub quoted_one : (a b : List ℕ) → quoted (escaped_text a) ≡ quoted (escaped_text b) → a ≡ b
quoted_one a b e = (quoted_apart a b [] [] (append-nil (quoted (escaped_text a)) ∙ e
    ∙ sym (append-nil (quoted (escaped_text b))))).0

-- the same of any text
pub inside_one : (a b : List ℕ) → quoted a ≡ quoted b → a ≡ b
inside_one a b e =
    let f : a ++ 39 ∷ [] ≡ b ++ 39 ∷ [] = cc in append_cancel_right a b (39 ∷ []) f

are_is : (bytes : List ℕ) → AreBytes bytes → IsBytes bytes
are_is bytes are = λ i. elim (cases_lt i (length bytes)) [
  | inl lt ↦ All-get_or (λ (b : ℕ). b < 256) bytes i 0 lt are
  | inr past ↦ omega (arith, get_or_past bytes i 0 past)
]

pub hex_one : (a b : List ℕ) → AreBytes a → AreBytes b → hex_text a ≡ hex_text b → a ≡ b
hex_one a b are_a are_b e =
    let f : encode_lower a ≡ encode_lower b = append_cancel_left (codes "0x") (encode_lower a) (encode_lower b) e in
    let g : ◌≡◌ {A = Result (List ℕ) FromHexError} (Ok a) (Ok b) =
    sym (decode_of-encode_lower a (are_is a are_a)) ∙ ap decode_of f ∙ decode_of-encode_lower b (are_is b are_b) in
    cc

pub hex_of_some : (raw : List ℕ) → (length raw ≡ 0 → ⊥) → hex_or_empty raw ≡ hex_text raw
hex_of_some raw some = cond-false (eqb (length raw) 0) (quoted []) (hex_text raw) (ne_eqb (length raw) 0 some)

quote_no_zero : (raw : List ℕ) → 39 ∷ 39 ∷ [] ≡ hex_text raw → ⊥
quote_no_zero raw e = let first : 39 ≡ 48 = ap (λ (t : List ℕ). get_or t 0 0) e in omega (arith, first)

pub raw_one : (a b : List ℕ) → AreBytes a → AreBytes b → hex_or_empty a ≡ hex_or_empty b → a ≡ b
raw_one a b are_a are_b e = elim (cases_eq (length a) 0) [
  | inl none ↦ elim (cases_eq (length b) 0) [
    | inl none2 ↦ nil_from_length a none ∙ sym (nil_from_length b none2)
    | inr some2 ↦ let f : 39 ∷ 39 ∷ [] ≡ hex_text b =
        sym (cond-true (eqb (length a) 0) (quoted []) (hex_text a) (eq-eqb (length a) 0 none)) ∙ e
        ∙ hex_of_some b some2 in absurd (quote_no_zero b f)
  ]
  | inr some ↦ elim (cases_eq (length b) 0) [
    | inl none2 ↦ let f : 39 ∷ 39 ∷ [] ≡ hex_text a =
        sym (cond-true (eqb (length b) 0) (quoted []) (hex_text b) (eq-eqb (length b) 0 none2)) ∙ sym e
        ∙ hex_of_some a some in absurd (quote_no_zero a f)
    | inr some2 ↦ hex_one a b are_a are_b (sym (hex_of_some a some) ∙ e ∙ hex_of_some b some2)
  ]
]
