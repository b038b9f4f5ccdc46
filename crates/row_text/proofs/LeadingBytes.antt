-- Bytes that are read of their digits, piece by piece.
use Rattle.std.proofs.Common.{◌≡◌, ◌≢◌, ℕ, ◌+◌, ◌-◌, ◌*◌, ◌/◌, ◌%◌, ◌<◌, ◌≤◌, List, [], ◌∷◌, ◌++◌, length, take, drop}
use Rattle.std.proofs.Common.{get_or, refl, sym, ap, ◌∙◌, subst, arith, append_assoc, append-nil}
use Rattle.std.specs.Prelude.{slice_index}
use Rattle.std.proofs.lemmas.List.{take_more, take_all}
use Rattle.std.proofs.lemmas.List.Elements.{All-nil, All-push, All-head, All-tail, All-append, All-cons}
use Rattle.hex.specs.Hex.{encode_with, encode_lower, lower_digits}
use Rattle.page_source.specs.Pages.{AreBytes}
use Rattle.row_text.specs.calls.Values.{EndsValue}
use Rattle.row_text.specs.calls.Bytes.{BeginsNoByte, TakesBytes, AreLeadingBytes}
use Rattle.row_text.proofs.Hex.{encode_append}
use Rattle.row_text.proofs.OneNumber.{hex_one}
use Rattle.row_text.proofs.Shapes.{hex_safe}
use Rattle.row_text.proofs.Unquoted.{left_at}
use Rattle.row_text.proofs.Words.{safe_inside, no_end}

abbrev IsByte : ℕ → Type 0
IsByte b = b < 256

-- so many bytes are those of their digits
pub record AreHexed (digits : List ℕ) (count : ℕ) (list : List ℕ) : Type 0 where
  pub are : AreBytes list
  pub same : take (2 * count) digits ≡ encode_lower list

pub hexed_none : (digits : List ℕ) → AreHexed digits 0 []
unfolding encode_with
hexed_none digits = record { are = All-nil IsByte; same = refl }

pub hexed_more : (digits list longer : List ℕ) (count byte : ℕ) → AreHexed digits count list
    → 2 * count + 1 < length digits → byte < 256
    → slice_index lower_digits (byte / 16) ≡ get_or digits (2 * count) 0
    → slice_index lower_digits (byte % 16) ≡ get_or digits (2 * count + 1) 0
    → longer ≡ list ++ byte ∷ [] → AreHexed digits (count + 1) longer
unfolding encode_with
hexed_more digits list longer count byte is lt below high low grown =
    let two : 2 * (count + 1) ≡ 2 * count + 1 + 1 = omega arith in
    record {
      are = subst AreBytes (sym grown) (All-push IsByte list byte is.are below);
      same = ap (λ (k : ℕ). take k digits) two ∙ take_more digits (2 * count + 1) 0 lt
          ∙ ap (λ (t : List ℕ). t ++ get_or digits (2 * count + 1) 0 ∷ [])
          (take_more digits (2 * count) 0 (omega (arith, lt)))
          ∙ append_assoc (take (2 * count) digits) (get_or digits (2 * count) 0 ∷ [])
          (get_or digits (2 * count + 1) 0 ∷ [])
          ∙ ap (λ (t : List ℕ). t ++ get_or digits (2 * count) 0 ∷ get_or digits (2 * count + 1) 0 ∷ []) is.same
          ∙ ap (λ (h : ℕ). encode_lower list ++ h ∷ get_or digits (2 * count + 1) 0 ∷ []) (sym high)
          ∙ ap (λ (l : ℕ). encode_lower list ++ slice_index lower_digits (byte / 16) ∷ l ∷ []) (sym low)
          ∙ sym (encode_append lower_digits list (byte ∷ [])) ∙ ap encode_lower (sym grown);
    }

-- nothing was read yet
pub takes_none : (list text : List ℕ) → TakesBytes list list text text
unfolding encode_with
takes_none list text =
    record { bytes = []; are = All-nil IsByte; grown = sym (append-nil list); spelled = refl }

-- a piece more was read
pub takes_more : (old new newer text rest digits more piece : List ℕ) → TakesBytes old new text rest
    → rest ≡ digits ++ more → AreBytes piece → digits ≡ encode_lower piece → newer ≡ new ++ piece
    → TakesBytes old newer text more
takes_more old new newer text rest digits more piece is cut are same grown = record {
  bytes = is.bytes ++ piece;
  are = All-append IsByte is.bytes piece is.are are;
  grown = grown ∙ ap (λ (t : List ℕ). t ++ piece) is.grown ∙ append_assoc old is.bytes piece;
  spelled = is.spelled ∙ ap (λ (t : List ℕ). encode_lower is.bytes ++ t) (cut ∙ ap (λ (t : List ℕ). t ++ more) same)
      ∙ sym (append_assoc (encode_lower is.bytes) (encode_lower piece) more)
      ∙ ap (λ (t : List ℕ). t ++ more) (sym (encode_append lower_digits is.bytes piece));
}

two_more : (rest : List ℕ) → 2 ≤ length rest → rest ≡ get_or rest 0 0 ∷ get_or rest 1 0 ∷ drop 2 rest
two_more [] some = absurd (omega (arith, some))
two_more (a ∷ []) some = absurd (omega (arith, some))
two_more (a ∷ b ∷ rest) some = refl

-- and a byte more
pub takes_byte : (old new newer text rest more : List ℕ) (byte : ℕ) → TakesBytes old new text rest → 2 ≤ length rest
    → byte < 256 → slice_index lower_digits (byte / 16) ≡ get_or rest 0 0
    → slice_index lower_digits (byte % 16) ≡ get_or rest 1 0 → newer ≡ new ++ byte ∷ [] → more ≡ drop 2 rest
    → TakesBytes old newer text more
unfolding encode_with
takes_byte old new newer text rest more byte is some low first second grown left =
    let digits : get_or rest 0 0 ∷ get_or rest 1 0 ∷ [] ≡ encode_lower (byte ∷ []) =
    ap (λ (h : ℕ). h ∷ get_or rest 1 0 ∷ []) (sym first)
    ∙ ap (λ (l : ℕ). slice_index lower_digits (byte / 16) ∷ l ∷ []) (sym second) in
    takes_more old new newer text rest (get_or rest 0 0 ∷ get_or rest 1 0 ∷ []) more (byte ∷ []) is
    (two_more rest some ∙ ap (λ (t : List ℕ). get_or rest 0 0 ∷ get_or rest 1 0 ∷ t) (sym left))
    (All-cons IsByte byte [] low (All-nil IsByte)) digits grown

-- no byte more stands there
pub no_pair : (rest : List ℕ) → ((byte : ℕ) → byte < 256 → slice_index lower_digits (byte / 16) ≡ get_or rest 0 0
    → slice_index lower_digits (byte % 16) ≢ get_or rest 1 0) → BeginsNoByte rest
unfolding encode_with
no_pair rest none byte more low e = none byte low (ap (λ (t : List ℕ). get_or t 0 0) (sym e))
    (ap (λ (t : List ℕ). get_or t 1 0) (sym e))

pub too_short : (rest : List ℕ) → length rest < 2 → BeginsNoByte rest
unfolding encode_with
too_short rest short byte more low e =
    let size : length rest ≡ length more + 2 = ap length e ∙ omega arith in omega (arith, short, size)

-- what was read in two steps
pub read_in_two : (old one two text middle rest : List ℕ) → old ≡ [] → TakesBytes old one text middle
    → TakesBytes one two middle rest → (AreBytes two × (text ≡ encode_lower two ++ rest))
read_in_two old one two text middle rest none first second =
    let all = takes_more old one two text middle (encode_lower second.bytes) rest second.bytes first second.spelled
    second.are refl second.grown in
    let same : two ≡ all.bytes = all.grown ∙ ap (λ (t : List ℕ). t ++ all.bytes) none in
    (subst AreBytes (sym same) all.are, all.spelled ∙ ap (λ (t : List ℕ). encode_lower t ++ rest) (sym same))

pub leads : (list text rest : List ℕ) (n : ℕ) → AreBytes list → text ≡ encode_lower list ++ rest → BeginsNoByte rest
    → n ≡ length text - length rest → AreLeadingBytes list text (drop n text)
leads list text rest n are spelled all place =
    let left : drop n text ≡ rest = left_at text (encode_lower list) rest n spelled place in record {
      are = are;
      spelled = spelled ∙ ap (λ (t : List ℕ). encode_lower list ++ t) (sym left);
      all = subst BeginsNoByte (sym left) all;
    }

-- two lists of bytes at the head of a text, with the end of a value behind one and no byte more behind the other
one_byte : (a b : ℕ) → a < 256 → b < 256 → slice_index lower_digits (a / 16) ≡ slice_index lower_digits (b / 16)
    → slice_index lower_digits (a % 16) ≡ slice_index lower_digits (b % 16) → a ≡ b
unfolding encode_with
one_byte a b low_a low_b high low =
    let digits : encode_lower (a ∷ []) ≡ encode_lower (b ∷ []) =
    ap (λ (h : ℕ). h ∷ slice_index lower_digits (a % 16) ∷ []) high
    ∙ ap (λ (l : ℕ). slice_index lower_digits (b / 16) ∷ l ∷ []) low in
    ap (λ (t : List ℕ). get_or t 0 0) (hex_one (a ∷ []) (b ∷ []) (All-cons IsByte a [] low_a (All-nil IsByte))
    (All-cons IsByte b [] low_b (All-nil IsByte)) (ap (λ (t : List ℕ). 48 ∷ 120 ∷ t) digits))

pub bytes_apart : (a b x y : List ℕ) → AreBytes a → AreBytes b → encode_lower a ++ x ≡ encode_lower b ++ y → EndsValue x
    → BeginsNoByte y → (a ≡ b) × (x ≡ y)
unfolding encode_with
bytes_apart [] [] x y are_a are_b e ends none = (refl, e)
bytes_apart [] (d ∷ b) x y are_a are_b e ends none =
    let low = All-head IsByte d b are_b in
    absurd (no_end (slice_index lower_digits (d / 16)) (slice_index lower_digits (d % 16) ∷ (encode_lower b ++ y)) x
    (safe_inside _ (hex_safe (d / 16) (omega (arith, low)))) e ends)
bytes_apart (c ∷ a) [] x y are_a are_b e ends none =
    absurd (none c (encode_lower a ++ x) (All-head IsByte c a are_a) (sym e))
bytes_apart (c ∷ a) (d ∷ b) x y are_a are_b e ends none =
    let high : slice_index lower_digits (c / 16) ≡ slice_index lower_digits (d / 16) =
    ap (λ (t : List ℕ). get_or t 0 0) e in
    let low : slice_index lower_digits (c % 16) ≡ slice_index lower_digits (d % 16) =
    ap (λ (t : List ℕ). get_or t 1 0) e in
    let more : encode_lower a ++ x ≡ encode_lower b ++ y = ap (drop 2) e in
    let first = one_byte c d (All-head IsByte c a are_a) (All-head IsByte d b are_b) high low in
    let rest = bytes_apart a b x y (All-tail IsByte c a are_a) (All-tail IsByte d b are_b) more ends none in
    (ap (λ (h : ℕ). h ∷ a) first ∙ ap (λ (t : List ℕ). d ∷ t) rest.0, rest.1)
