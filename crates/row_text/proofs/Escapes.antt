-- The escapes of a text in parts.
use Rattle.std.proofs.Common.{◌≡◌, ◌≢◌, ℕ, zero, suc, ◌+◌, ◌<◌, List, [], ◌∷◌, ◌++◌, flat_map, take, slice_index, refl}
use Rattle.std.proofs.Common.{sym, ap, ◌∙◌, ◌≤◌, eqb, ltb, get_or, not, false, None, Some, position}
use Rattle.std.proofs.Common.{map, length, drop, set, cond, All, subst, arith, inl, inr}
use Rattle.std.specs.List.{position_or_len}
use Rattle.std.proofs.lemmas.Bool.{cond-true, cond-false, eq-eqb, ne_eqb, eqb-true, eqb-false, not-true, not-false}
use Rattle.std.proofs.lemmas.Bool.{lt-ltb, le-ltb, cases_eq}
use Rattle.std.proofs.lemmas.Grind.{common_steps}
use Rattle.std.proofs.lemmas.List.Quantifiers.{position-Some}
use Rattle.std.proofs.lemmas.List.{append-nil, take_more, take_more_set, take-set-le, length-drop}
use Rattle.std.proofs.lemmas.List.Concat.{flat_map-append}
use Rattle.std.proofs.lemmas.List.Elements.{All-append, All-head, All-tail}
use Rattle.std.proofs.lemmas.List.Sums.{fails_before_first}
use Rattle.std.proofs.Math.Seq.{take-add}
use Rattle.std.proofs.lemmas.List.FromFn.{get_or-map-range_with_len}
use Rattle.std.specs.List.{range_with_len}
use Rattle.hex.proofs.Pairs.{take-two_writes}
use Rattle.row_text.specs.declared.escape.TheConstants.{LETTERS}
use Rattle.row_text.specs.Values.{escape_letter, escaped, escaped_text, is_escaped, IsPlain}

pub escaped_append : (a b : List ℕ) → escaped_text (a ++ b) ≡ escaped_text a ++ escaped_text b
unfolding escaped_text
escaped_append a b = flat_map-append escaped a b

pub itself : (byte : ℕ) → escape_letter byte ≡ 0 → escaped byte ≡ byte ∷ []
itself byte plain = cond-true (eqb (escape_letter byte) 0) (byte ∷ []) (92 ∷ escape_letter byte ∷ []) (eq-eqb _ _ plain)

pub behind_backslash : (byte : ℕ) → escape_letter byte ≢ 0 → escaped byte ≡ 92 ∷ escape_letter byte ∷ []
behind_backslash byte some = cond-false (eqb (escape_letter byte) 0) (byte ∷ []) (92 ∷ escape_letter byte ∷ [])
    (ne_eqb _ _ some)

-- the first byte that is escaped has one
pub first_has_letter : (text : List ℕ) (at : ℕ) → position is_escaped text ≡ Some at
    → escape_letter (slice_index text at) ≡ 0 → ⊥
first_has_letter text at found plain =
    eqb-false _ _ (not-true _ (position-Some is_escaped text at 0 found).1) plain

-- a text whose bytes stand for themselves
pub escaped_plain : (text : List ℕ) → IsPlain text → escaped_text text ≡ text
unfolding escaped_text
escaped_plain [] plain = refl
escaped_plain (x ∷ text) plain =
    ap (λ (t : List ℕ). t ++ flat_map escaped text) (itself x (All-head (λ byte. escape_letter byte ≡ 0) x text plain))
    ∙ ap (λ (t : List ℕ). x ∷ t) (escaped_plain text (All-tail (λ byte. escape_letter byte ≡ 0) x text plain))

pub alone : (byte : ℕ) → escaped_text (byte ∷ []) ≡ escaped byte
unfolding escaped_text
alone byte = append-nil (escaped byte)

-- a front of bytes of which each stands for itself
pub escaped_front : (text : List ℕ) (at : ℕ) → ((k : ℕ) → k < at → is_escaped (get_or text k 0) ≡ false)
    → escaped_text (take at text) ≡ take at text
unfolding escaped_text
escaped_front text zero plain = refl
escaped_front [] (suc at) plain = refl
escaped_front (x ∷ text) (suc at) plain =
    let zeroth : escape_letter x ≡ 0 = eqb-true _ _ (not-false _ (plain 0 (omega arith))) in
    ap (λ (t : List ℕ). t ++ flat_map escaped (take at text)) (itself x zeroth)
    ∙ ap (λ (t : List ℕ). x ∷ t) (escaped_front text at (λ k lt. plain (suc k) (omega (arith, lt))))

-- the bytes up to the first that doesn't stand for itself
pub escape_step : (rest : List ℕ) (at letter : ℕ) → position is_escaped rest ≡ Some at
    → letter ≡ escape_letter (slice_index rest at) → escaped_text (take (at + 1) rest) ≡ take at rest ++ 92 ∷ letter
    ∷ []
escape_step rest at letter found same =
    let place = position-Some is_escaped rest at 0 found in
    let byte = get_or rest at 0 in
    let some : escape_letter byte ≢ 0 = eqb-false _ _ (not-true _ place.1) in
    ap escaped_text (take_more rest at 0 place.0)
    ∙ escaped_append (take at rest) (byte ∷ [])
    ∙ ap (λ (t : List ℕ). t ++ escaped_text (byte ∷ [])) (escaped_front rest at place.2)
    ∙ ap (λ (t : List ℕ). take at rest ++ t) (alone byte ∙ behind_backslash byte some)
    ∙ ap (λ (l : ℕ). take at rest ++ 92 ∷ l ∷ []) (sym same)

-- bytes at the front that stand for themselves are passed over
position_behind : (text : List ℕ) (n : ℕ) → n ≤ length text → IsPlain (take n text)
    → position_or_len is_escaped text ≡ n + position_or_len is_escaped (drop n text)
position_behind text zero most plain = omega arith
position_behind [] (suc n) most plain = absurd (omega (arith, most))
position_behind (x ∷ text) (suc n) most plain =
    let P : ℕ → Type 0 = λ byte. escape_letter byte ≡ 0 in
    let here : is_escaped x ≡ false = ap not (eq-eqb _ _ (All-head P x (take n text) plain)) in
    let rest = position_behind text n (omega (arith, most)) (All-tail P x (take n text) plain) in
    cond-true (not (is_escaped x)) (1 + position_or_len is_escaped text) 0 (ap not here) ∙ omega (arith, rest)

position_or_len_of : (text : List ℕ) (at : ℕ) → position is_escaped text ≡ Some at
    → position_or_len is_escaped text ≡ at
position_or_len_of text at found = grind (arith, common_steps)

position_none : (text : List ℕ) → position is_escaped text ≡ None → length text ≤ position_or_len is_escaped text
position_none text none = grind (arith, common_steps)

pub found_behind : (text : List ℕ) (n at : ℕ) → n ≤ length text → IsPlain (take n text)
    → position is_escaped (drop n text) ≡ Some at → position is_escaped text ≡ Some (n + at)
found_behind text n at most plain found =
    let behind = position_behind text n most plain in
    let inside = (position-Some is_escaped (drop n text) at 0 found).0 in
    let there = position_or_len_of (drop n text) at found in
    let same : position_or_len is_escaped text ≡ n + at = omega (arith, behind, there) in
    cond-true (ltb (position_or_len is_escaped text) (length text)) (Some (position_or_len is_escaped text)) None
    (lt-ltb _ _ (omega (arith, same, inside, length-drop n text))) ∙ ap Some same

pub none_behind : (text : List ℕ) (n : ℕ) → n ≤ length text → IsPlain (take n text)
    → position is_escaped (drop n text) ≡ None → position is_escaped text ≡ None
none_behind text n most plain none =
    let behind = position_behind text n most plain in
    let there = position_none (drop n text) none in
    cond-false (ltb (position_or_len is_escaped text) (length text)) (Some (position_or_len is_escaped text)) None
    (le-ltb _ _ (omega (arith, behind, there, length-drop n text)))

pub none_is_plain : (text : List ℕ) → position is_escaped text ≡ None → IsPlain text
none_is_plain text none k d below =
    let there = position_none text none in
    eqb-true _ _ (not-false _ (fails_before_first is_escaped text k d (omega (arith, below, there))))

-- a plain front, and a plain run behind it
pub plain_run : (text : List ℕ) (front n : ℕ) → IsPlain (take front text) → IsPlain (take n (drop front text))
    → IsPlain (take (front + n) text)
plain_run text front n before here =
    let P : ℕ → Type 0 = λ byte. escape_letter byte ≡ 0 in
    subst (λ (t : List ℕ). All P t) (sym (take-add front n text))
    (All-append P (take front text) (take n (drop front text)) before here)

-- one byte more is written: two bytes, of which as many count as stand for it
pub escape_written : (text room : List ℕ) (i n letter front width : ℕ) → i < length text → n + 1 < length room
    → letter ≡ escape_letter (slice_index text i) → front ≡ cond (eqb letter 0) (slice_index text i) 92
    → width ≡ cond (eqb letter 0) 1 2 → take n room ≡ escaped_text (take i text)
    → take (n + width) (set (set room n front) (n + 1) letter) ≡ escaped_text (take (i + 1) text)
escape_written text room i n letter front width below fits is before counts done =
    let byte : ℕ = slice_index text i in
    let more : escaped_text (take (i + 1) text) ≡ take n room ++ escaped byte =
    ap escaped_text (take_more text i 0 below)
    ∙ escaped_append (take i text) (byte ∷ [])
    ∙ ap (λ (t : List ℕ). t ++ escaped_text (byte ∷ [])) (sym done)
    ∙ ap (λ (t : List ℕ). take n room ++ t) (alone byte) in
    elim (cases_eq letter 0) [
      | inl zeroth ↦
          let one : width ≡ 1 = counts ∙ cond-true (eqb letter 0) 1 2 (eq-eqb _ _ zeroth) in
          let itself' : front ≡ byte = before ∙ cond-true (eqb letter 0) byte 92 (eq-eqb _ _ zeroth) in
          let wrote = ap (λ (w : ℕ). take (n + w) (set (set room n front) (n + 1) letter)) one
          ∙ take-set-le (n + 1) (set room n front) (n + 1) letter (omega arith)
          ∙ take_more_set room n front (omega (arith, fits))
          ∙ ap (λ (b : ℕ). take n room ++ b ∷ []) itself' in
          wrote ∙ ap (λ (t : List ℕ). take n room ++ t) (sym (itself byte (sym is ∙ zeroth))) ∙ sym more
      | inr some ↦
          let two : width ≡ 2 = counts ∙ cond-false (eqb letter 0) 1 2 (ne_eqb _ _ some) in
          let slash : front ≡ 92 = before ∙ cond-false (eqb letter 0) byte 92 (ne_eqb _ _ some) in
          let other : escape_letter byte ≢ 0 = λ none. some (is ∙ none) in
          let wrote = ap (λ (w : ℕ). take (n + w) (set (set room n front) (n + 1) letter)) two
          ∙ take-two_writes room n front letter fits
          ∙ ap (λ (b : ℕ). take n room ++ b ∷ letter ∷ []) slash
          ∙ ap (λ (l : ℕ). take n room ++ 92 ∷ l ∷ []) is in
          wrote ∙ ap (λ (t : List ℕ). take n room ++ t) (sym (behind_backslash byte other)) ∙ sym more
    ]

-- the letters stand in a table
letters_are : map escape_letter (range_with_len 0 256) ≡ LETTERS
letters_are = refl

pub letter_entry : (byte d : ℕ) → byte < 256 → get_or LETTERS byte d ≡ escape_letter byte
letter_entry byte d below =
    ap (λ (xs : List ℕ). get_or xs byte d) (sym letters_are)
    ∙ get_or-map-range_with_len escape_letter 0 256 byte byte d below (omega arith)
