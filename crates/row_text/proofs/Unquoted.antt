-- A text in quotes that is read piece by piece.
use Rattle.std.proofs.Common.{◌≡◌, ◌≢◌, ℕ, ◌+◌, ◌-◌, ◌<◌, ◌≤◌, List, [], ◌∷◌, ◌++◌, length, take, drop}
use Rattle.std.proofs.Common.{set, get_or, subst, refl, sym, ap, ◌∙◌, arith, append_assoc, length-append}
use Rattle.std.proofs.lemmas.List.{drop_at, drop-drop, length-drop, length-set, length-take-le, take_more_set}
use Rattle.std.proofs.lemmas.List.{take-append-drop, take-take, drop_more}
use Rattle.std.proofs.lemmas.Slice.{take-put_mid}
use Rattle.std.proofs.Math.Seq.{take-append-add}
use borrow.Rule.Slice.PartMut.{mid_of, put_mid, mid_len, same_len_mid}
use Rattle.row_text.specs.Values.{escape_letter, escaped, escaped_text, quoted, IsPlain}
use Rattle.row_text.specs.calls.Texts.{LeadsByte, LeadsNoByte, IsWritten, TakesText}
use Rattle.row_text.proofs.Escapes.{escaped_append, escaped_plain, alone, itself, behind_backslash}
use Rattle.row_text.proofs.Quotes.{left_of}

take_behind : (front run : List ℕ) (n k : ℕ) → n ≡ length front + k → take n (front ++ run) ≡ front ++ take k run
take_behind front run n k place = ap (λ (j : ℕ). take j (front ++ run)) place ∙ take-append-add front run k

length_put_mid : (n : ℕ) (room other : List ℕ) → length other ≡ 16 → n + 16 ≤ length room
    → length (put_mid n (n + 16 - n) room other) ≡ length room
length_put_mid n room other long space =
    let part : length (mid_of n (n + 16 - n) room) ≡ n + 16 - n = mid_len n (n + 16) room space in
    same_len_mid n (n + 16 - n) room other (omega (arith, long, part))

pub written_none : (text room : List ℕ) → IsWritten text room 0 0
unfolding escaped_text
written_none text room = record { same = refl; wrote = omega arith; read = omega arith }

written_byte : (text room rest : List ℕ) (n at byte size : ℕ) → n < length room → IsWritten text room n at
    → rest ≡ drop at text → LeadsByte byte size rest → IsWritten text (set room n byte) (n + 1) (at + size)
written_byte text room rest n at byte size lt is left leads =
    let whole : drop at text ≡ escaped byte ++ drop (at + size) text = sym left ∙ leads.spelled
    ∙ ap (λ (t : List ℕ). escaped byte ++ drop size t) left
    ∙ ap (λ (t : List ℕ). escaped byte ++ t) (drop-drop size at text) in
    let longer : escaped_text (take (n + 1) (set room n byte)) ≡ escaped_text (take n room) ++ escaped byte =
    ap escaped_text (take_more_set room n byte lt) ∙ escaped_append (take n room) (byte ∷ [])
    ∙ ap (λ (t : List ℕ). escaped_text (take n room) ++ t) (alone byte) in record {
      same = is.same ∙ ap (λ (t : List ℕ). escaped_text (take n room) ++ t) whole
          ∙ sym (append_assoc (escaped_text (take n room)) (escaped byte) (drop (at + size) text))
          ∙ ap (λ (t : List ℕ). t ++ drop (at + size) text) (sym longer);
      wrote = omega (arith, lt, length-set room n byte);
      read = omega (arith, is.read, leads.within, ap length left, length-drop at text);
    }

pub written_more : (text room rest : List ℕ) (n at byte size more up : ℕ) → n < length room → IsWritten text room n at
    → rest ≡ drop at text → LeadsByte byte size rest → n + 1 ≡ more → at + size ≡ up
    → IsWritten text (set room n byte) more up
written_more text room rest n at byte size more up lt is left leads e f =
    subst (λ (k : ℕ). IsWritten text (set room n byte) k up) e
    (subst (λ (k : ℕ). IsWritten text (set room n byte) (n + 1) k) f
    (written_byte text room rest n at byte size lt is left leads))

-- a byte that stands for itself at a place of a text, and one behind a backslash
pub leads_plain : (text : List ℕ) (k byte : ℕ) → k < length text → byte ≡ get_or text k 0 → escape_letter byte ≡ 0
    → LeadsByte byte 1 (drop k text)
leads_plain text k byte inside is plain =
    let first : drop k text ≡ byte ∷ drop (k + 1) text =
    drop_more text k 0 inside ∙ ap (λ (b : ℕ). b ∷ drop (k + 1) text) (sym is) in record {
      spelled = first ∙ ap (λ (t : List ℕ). byte ∷ t) (sym (drop-drop 1 k text))
          ∙ ap (λ (t : List ℕ). t ++ drop 1 (drop k text)) (sym (itself byte plain));
      some = omega arith;
      within = omega (arith, inside, length-drop k text);
    }

pub leads_escaped : (text : List ℕ) (k byte : ℕ) → k + 2 ≤ length text → get_or text k 0 ≡ 92
    → escape_letter byte ≡ get_or text (k + 1) 0 → get_or text (k + 1) 0 ≢ 0 → LeadsByte byte 2 (drop k text)
leads_escaped text k byte inside slash letter some =
    let other : escape_letter byte ≢ 0 = λ none. some (sym letter ∙ none) in
    let two : k + 1 + 1 ≡ k + 2 = omega arith in
    let first : drop k text ≡ 92 ∷ escape_letter byte ∷ drop (k + 2) text =
    drop_more text k 0 (omega (arith, inside)) ∙ ap (λ (b : ℕ). b ∷ drop (k + 1) text) slash
    ∙ ap (λ (t : List ℕ). 92 ∷ t) (drop_more text (k + 1) 0 (omega (arith, inside))
    ∙ ap (λ (l : ℕ). l ∷ drop (k + 1 + 1) text) (sym letter)
    ∙ ap (λ (j : ℕ). escape_letter byte ∷ drop j text) two) in record {
      spelled = first ∙ ap (λ (t : List ℕ). 92 ∷ escape_letter byte ∷ t) (sym (drop-drop 2 k text))
          ∙ ap (λ (t : List ℕ). t ++ drop 2 (drop k text)) (sym (behind_backslash byte other));
      some = omega arith;
      within = omega (arith, inside, length-drop k text);
    }

pub written_at : (text room : List ℕ) (n at more up : ℕ) → IsWritten text room n at → n ≡ more → at ≡ up
    → IsWritten text room more up
written_at text room n at more up is e f =
    subst (λ (k : ℕ). IsWritten text room k up) e (subst (λ (k : ℕ). IsWritten text room n k) f is)

-- a run of bytes that stand for themselves, of which more were written
pub written_run : (text room rest run other : List ℕ) (n at k : ℕ) → IsWritten text room n at → rest ≡ drop at text
    → run ≡ take 16 rest → other ≡ run → IsPlain (take k run) → k ≤ 16 → at + 16 ≤ length text → n + 16 ≤ length room
    → IsWritten text (put_mid n (n + 16 - n) room other) (n + k) (at + k)
written_run text room rest run other n at k is left cut same plain most fits space =
    let size : length run ≡ 16 =
    ap length cut ∙ length-take-le 16 rest (omega (arith, fits, ap length left, length-drop at text)) in
    let long : length other ≡ 16 = ap length same ∙ size in
    let front : take k run ≡ take k (drop at text) =
    ap (take k) (cut ∙ ap (take 16) left) ∙ take-take k 16 (drop at text) most in
    let wrote : take (n + k) (put_mid n (n + 16 - n) room other) ≡ take n room ++ take k run =
    sym (take-take (n + k) (n + 16) (put_mid n (n + 16 - n) room other) (omega (arith, most)))
    ∙ ap (take (n + k)) (take-put_mid n (n + 16 - n) room other (n + 16) (omega (arith, long)) (omega (arith, space))
    ∙ ap (λ (t : List ℕ). take n room ++ t) same)
    ∙ take_behind (take n room) run (n + k) k (omega (arith, length-take-le n room (omega (arith, space)))) in
    let longer : escaped_text (take (n + k) (put_mid n (n + 16 - n) room other))
    ≡ escaped_text (take n room) ++ take k (drop at text) =
    ap escaped_text wrote ∙ escaped_append (take n room) (take k run)
    ∙ ap (λ (t : List ℕ). escaped_text (take n room) ++ t) (escaped_plain (take k run) plain ∙ front) in
    let whole_text : drop at text ≡ take k (drop at text) ++ drop (at + k) text =
    sym (take-append-drop k (drop at text))
    ∙ ap (λ (t : List ℕ). take k (drop at text) ++ t) (drop-drop k at text) in record {
      same = is.same ∙ ap (λ (t : List ℕ). escaped_text (take n room) ++ t) whole_text
          ∙ sym (append_assoc (escaped_text (take n room)) (take k (drop at text)) (drop (at + k) text))
          ∙ ap (λ (t : List ℕ). t ++ drop (at + k) text) (sym longer);
      wrote = omega (arith, most, space, length_put_mid n room other long space);
      read = omega (arith, most, fits);
    }

-- the bytes that stand in the room were taken
pub written_taken : (old new text room rest : List ℕ) (n at : ℕ) → IsWritten text room n at
    → new ≡ old ++ take n room → rest ≡ drop at text → TakesText old new text rest
written_taken old new text room rest n at is grown back = record {
  bytes = take n room;
  grown = grown;
  spelled = is.same ∙ ap (λ (t : List ℕ). escaped_text (take n room) ++ t) (sym back);
}

-- the byte at the head was
pub byte_taken : (old new text rest : List ℕ) (byte size : ℕ) → LeadsByte byte size text → new ≡ old ++ byte ∷ []
    → rest ≡ drop size text → TakesText old new text rest
byte_taken old new text rest byte size leads grown back = record {
  bytes = byte ∷ [];
  grown = grown;
  spelled = leads.spelled ∙ ap (λ (t : List ℕ). escaped byte ++ t) (sym back)
      ∙ ap (λ (t : List ℕ). t ++ rest) (sym (alone byte));
}

-- a front of bytes that stand for themselves
pub plain_taken : (old new text plain rest : List ℕ) (n : ℕ) → IsPlain (take n text) → plain ≡ take n text
    → rest ≡ drop n text → new ≡ old ++ plain → TakesText old new text rest
plain_taken old new text plain rest n self front back grown = record {
  bytes = take n text;
  grown = grown ∙ ap (λ (t : List ℕ). old ++ t) front;
  spelled = sym (take-append-drop n text)
      ∙ ap (λ (t : List ℕ). t ++ drop n text) (sym (escaped_plain (take n text) self))
      ∙ ap (λ (t : List ℕ). escaped_text (take n text) ++ t) (sym back);
}

-- what was read is longer by what was taken
pub read_more : (text list list2 rest more : List ℕ) → text ≡ 39 ∷ (escaped_text list ++ rest)
    → TakesText list list2 rest more → text ≡ 39 ∷ (escaped_text list2 ++ more)
read_more text list list2 rest more is takes =
    let longer : escaped_text list2 ≡ escaped_text list ++ escaped_text takes.bytes =
    ap escaped_text takes.grown ∙ escaped_append list takes.bytes in
    is ∙ ap (λ (t : List ℕ). 39 ∷ (escaped_text list ++ t)) takes.spelled
    ∙ ap (λ (t : List ℕ). 39 ∷ t) (sym (append_assoc (escaped_text list) (escaped_text takes.bytes) more))
    ∙ ap (λ (t : List ℕ). 39 ∷ (t ++ more)) (sym longer)

-- what is left, counted from the end
pub left_at : (text front rest : List ℕ) (n : ℕ) → text ≡ front ++ rest → n ≡ length text - length rest
    → drop n text ≡ rest
left_at text front rest n e place =
    let size : length text ≡ length front + length rest = ap length e ∙ length-append front rest in
    ap (λ (k : ℕ). drop k text) (place ∙ omega (arith, size)) ∙ ap (drop (length front)) e
    ∙ drop_at front rest (length front) refl

pub quote_read : (text list rest more : List ℕ) (n : ℕ) → text ≡ 39 ∷ (escaped_text list ++ rest) → rest ≡ 39 ∷ more
    → n ≡ length text - length more → text ≡ quoted (escaped_text list) ++ drop n text
quote_read text list rest more n is stop place =
    let whole : text ≡ quoted (escaped_text list) ++ more =
    is ∙ ap (λ (t : List ℕ). 39 ∷ (escaped_text list ++ t)) stop
    ∙ ap (λ (t : List ℕ). 39 ∷ t) (sym (append_assoc (escaped_text list) (39 ∷ []) more)) in
    whole ∙ ap (λ (t : List ℕ). quoted (escaped_text list) ++ t)
    (sym (left_at text (quoted (escaped_text list)) more n whole place))

-- no text in quotes stands there
no_more : (text inside rest : List ℕ) → LeadsNoByte text → ((more : List ℕ) → text ≢ 39 ∷ more)
    → text ≡ escaped_text inside ++ 39 ∷ rest → ⊥
unfolding escaped_text
no_more text [] rest none other e = other rest e
no_more text (byte ∷ inside) rest none other e =
    none byte (escaped_text inside ++ 39 ∷ rest) (e ∙ append_assoc (escaped byte) _ _)

pub none_left : (text list more : List ℕ) → text ≡ 39 ∷ (escaped_text list ++ more) → LeadsNoByte more
    → ((rest : List ℕ) → more ≢ 39 ∷ rest) → (inside rest : List ℕ) → text ≢ quoted (escaped_text inside) ++ rest
none_left text list more is none other inside rest e =
    let f : 39 ∷ (escaped_text list ++ more) ≡ 39 ∷ (escaped_text inside ++ 39 ∷ rest) =
    sym is ∙ e ∙ ap (λ (t : List ℕ). 39 ∷ t) (append_assoc (escaped_text inside) (39 ∷ []) rest) in
    let g : escaped_text list ++ more ≡ escaped_text inside ++ 39 ∷ rest = cc in
    let left = left_of list more inside rest g in
    no_more more left.inside rest none other left.same
