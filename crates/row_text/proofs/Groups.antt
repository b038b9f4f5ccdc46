-- A text with its escapes, a group of bytes at a time.
use Rattle.std.proofs.Common.{◌≡◌, ◌≢◌, ℕ, ◌+◌, ◌<◌, ◌≤◌, List, [], ◌∷◌, ◌++◌, length, take, drop, set, get_or}
use Rattle.std.proofs.Common.{slice_index, position, Some, sym, ap, ◌∙◌, subst, arith, length-take, length-take-le}
use Rattle.std.proofs.lemmas.Bool.{eqb-true, eqb-false, not-true, not-false}
use Rattle.std.proofs.lemmas.List.{get_or-take, get_or_default, take_more, take-take, take-append-le, take-append-drop}
use Rattle.std.proofs.lemmas.List.Quantifiers.{position-Some}
use Rattle.std.proofs.Math.Seq.{take-add, take-append-add}
use Rattle.hex.proofs.Pairs.{take-two_writes}
use Rattle.row_text.specs.Values.{escape_letter, escaped_text, is_escaped, IsPlain}
use Rattle.row_text.proofs.Escapes.{escaped_append, escaped_plain, alone, behind_backslash}

-- the bytes before the first that doesn't stand for itself
pub found_front : (group : List ℕ) (at : ℕ) → position is_escaped group ≡ Some at → IsPlain (take at group)
found_front group at found k d below =
    let place = position-Some is_escaped group at 0 found in
    let inside : k < at = omega (arith, below, length-take at group) in
    ap escape_letter (get_or-take at group k d inside ∙ get_or_default group k d 0 (omega (arith, inside, place.0)))
    ∙ eqb-true _ _ (not-false _ (place.2 k inside))

-- and that byte
pub found_letter : (group : List ℕ) (at : ℕ) → position is_escaped group ≡ Some at
    → escape_letter (slice_index group at) ≢ 0
found_letter group at found = eqb-false _ _ (not-true _ (position-Some is_escaped group at 0 found).1)

-- a group that was copied
pub copied_group : (text room : List ℕ) → 16 ≤ length text
    → take (length (take 16 text)) room ≡ take 16 text → take 16 room ≡ take 16 text
copied_group text room long copied =
    subst (λ (n : ℕ). take n room ≡ take 16 text) (length-take-le 16 text long) copied

-- one that stands for itself
pub plain_group : (text room : List ℕ) (plain : ℕ) → plain ≡ 16 → 16 ≤ length text
    → take (length (take 16 text)) room ≡ take 16 text → IsPlain (take plain (take 16 text))
    → take 16 room ≡ escaped_text (take 16 text)
plain_group text room plain all long copied stands =
    let whole : IsPlain (take 16 text) =
    subst (λ (t : List ℕ). IsPlain t) (take-take 16 16 text (omega arith))
    (subst (λ (n : ℕ). IsPlain (take n (take 16 text))) all stands) in
    copied_group text room long copied ∙ sym (escaped_plain (take 16 text) whole)

-- one with an escape behind a front that stands for itself
pub escape_behind : (text room : List ℕ) (plain letter : ℕ) → plain < 16 → 16 ≤ length text → 32 ≤ length room
    → take (length (take 16 text)) room ≡ take 16 text → IsPlain (take plain (take 16 text))
    → escape_letter (get_or (take 16 text) plain 0) ≢ 0 → letter ≡ escape_letter (get_or text plain 0)
    → take (plain + 2) (set (set room plain 92) (plain + 1) letter) ≡ escaped_text (take (plain + 1) text)
escape_behind text room plain letter few long wide copied stands some same =
    let byte = get_or text plain 0 in
    let front : take plain room ≡ take plain text = sym (take-take plain 16 room (omega (arith, few)))
    ∙ ap (λ (t : List ℕ). take plain t) (copied_group text room long copied)
    ∙ take-take plain 16 text (omega (arith, few)) in
    let itself : IsPlain (take plain text) =
    subst (λ (t : List ℕ). IsPlain t) (take-take plain 16 text (omega (arith, few))) stands in
    let other : escape_letter byte ≢ 0 =
    subst (λ (b : ℕ). escape_letter b ≢ 0) (get_or-take 16 text plain 0 few) some in
    take-two_writes room plain 92 letter (omega (arith, few, wide))
    ∙ ap (λ (t : List ℕ). t ++ 92 ∷ letter ∷ []) front
    ∙ ap (λ (l : ℕ). take plain text ++ 92 ∷ l ∷ []) same
    ∙ sym (ap escaped_text (take_more text plain 0 (omega (arith, few, long)))
    ∙ escaped_append (take plain text) (byte ∷ [])
    ∙ ap (λ (t : List ℕ). t ++ escaped_text (byte ∷ [])) (escaped_plain (take plain text) itself)
    ∙ ap (λ (t : List ℕ). take plain text ++ t) (alone byte ∙ behind_backslash byte other))

-- behind what was written for a front of the text, what was written for the rest, or for a front of it
pub written_rest : (text room ys post : List ℕ) (read n wrote : ℕ) → n ≤ length room → wrote ≤ length ys
    → take n room ≡ escaped_text (take read text) → take wrote ys ≡ escaped_text (drop read text)
    → take (n + wrote) (take n room ++ (ys ++ post)) ≡ escaped_text text
written_rest text room ys post read n wrote within fits before here =
    let size : length (take n room) ≡ n = length-take-le n room within in
    subst (λ (s : ℕ). take (s + wrote) (take n room ++ (ys ++ post)) ≡ escaped_text text) size
    (take-append-add (take n room) (ys ++ post) wrote
    ∙ ap (λ (t : List ℕ). take n room ++ t) (take-append-le wrote ys post fits ∙ here)
    ∙ ap (λ (t : List ℕ). t ++ escaped_text (drop read text)) before
    ∙ sym (escaped_append (take read text) (drop read text))
    ∙ ap escaped_text (take-append-drop read text))

pub written_behind : (text room ys post : List ℕ) (read more n wrote : ℕ) → n ≤ length room → wrote ≤ length ys
    → take n room ≡ escaped_text (take read text) → take wrote ys ≡ escaped_text (take more (drop read text))
    → take (n + wrote) (take n room ++ (ys ++ post)) ≡ escaped_text (take (read + more) text)
written_behind text room ys post read more n wrote within fits before here =
    let size : length (take n room) ≡ n = length-take-le n room within in
    subst (λ (s : ℕ). take (s + wrote) (take n room ++ (ys ++ post)) ≡ escaped_text (take (read + more) text)) size
    (take-append-add (take n room) (ys ++ post) wrote
    ∙ ap (λ (t : List ℕ). take n room ++ t) (take-append-le wrote ys post fits ∙ here)
    ∙ ap (λ (t : List ℕ). t ++ escaped_text (take more (drop read text))) before
    ∙ sym (escaped_append (take read text) (take more (drop read text)))
    ∙ ap escaped_text (sym (take-add read more text)))
