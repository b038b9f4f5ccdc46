-- A text of utf8mb4 has one cut at the most, and each front of a text with a cut has one.
use Rattle.std.proofs.Common.{◌≡◌, ℕ, suc, ◌≤◌, cond, List, [], ◌∷◌, ◌++◌, length, slice_index, refl, sym, ap, ◌∙◌}
use Rattle.std.proofs.Common.{subst, inl, inr, arith, append_assoc, length-append}
use Rattle.std.specs.Prelude.{◌⊎◌, All, nat_le}
use Rattle.std.specs.List.{concat}
use Rattle.std.proofs.lemmas.Bool.{cases_lt}
use Rattle.std.proofs.lemmas.Bool.Decides.{nat_tests}
use Rattle.std.proofs.lemmas.List.{append-nil}
use Rattle.std.proofs.lemmas.List.Folds.{concat-append}
use Rattle.std.proofs.lemmas.List.Elements.{All-head, All-tail, All-take, All-drop}
use Rattle.std.proofs.Math.Seq.{take_at, drop_at}
use Rattle.column_values.specs.Characters.{IsStartOfThree, IsStartOfFour, IsCharacter, HasCharacters}
use Rattle.column_values.specs.Utf8Reader.{IsPending, IsCut}
use Rattle.column_values.specs.Utf8View.{IsFront}

-- how many bytes the character has that begins so
abbrev width_of : ℕ → ℕ
width_of a = cond (nat_le a 0x7F) 1 (cond (nat_le a 0xDF) 2 (cond (nat_le a 0xEF) 3 4))

width_is : (c : List ℕ) → IsCharacter c → length c ≡ width_of (slice_index c 0)
width_is (a ∷ []) h = grind (arith, nat_tests)
width_is (a ∷ b ∷ []) h = grind (arith, nat_tests)
width_is (a ∷ b ∷ c ∷ []) h = grind (arith, nat_tests)
width_is (a ∷ b ∷ c ∷ d ∷ []) h = grind (arith, nat_tests)
width_is _ h = absurd h

some_bytes : (c : List ℕ) → IsCharacter c → 1 ≤ length c
some_bytes [] h = absurd h
some_bytes (a ∷ c) h = omega arith

-- two lists that go on differently and are one have one front of a length
same_fronts : (c d x y : List ℕ) → length c ≡ length d → c ++ x ≡ d ++ y → (c ≡ d) × (x ≡ y)
same_fronts [] [] x y size e = (refl, e)
same_fronts [] (b ∷ d) x y size e = absurd (omega arith)
same_fronts (a ∷ c) [] x y size e = absurd (omega arith)
same_fronts (a ∷ c) (b ∷ d) x y size e =
    let head : a ≡ b = cc e in
    let tail : c ++ x ≡ d ++ y = cc e in
    let rest = same_fronts c d x y (omega arith) tail in
    (rw (head, rest.0) refl, rest.1)

first_of_append : (c x : List ℕ) → 1 ≤ length c → slice_index (c ++ x) 0 ≡ slice_index c 0
first_of_append [] x h = absurd (omega arith)
first_of_append (a ∷ c) x h = refl

-- no character begins another
same_characters : (c d x y : List ℕ) → IsCharacter c → IsCharacter d → c ++ x ≡ d ++ y → (c ≡ d) × (x ≡ y)
same_characters c d x y is_c is_d e =
    let head : slice_index c 0 ≡ slice_index d 0 =
    sym (first_of_append c x (some_bytes c is_c)) ∙ ap (λ (t : List ℕ). slice_index t 0) e
    ∙ first_of_append d y (some_bytes d is_d) in
    same_fronts c d x y (width_is c is_c ∙ ap width_of head ∙ sym (width_is d is_d)) e

front_of_four : (a : ℕ) → 0xF0 ≤ a → a ≤ 0xF4 → IsPending (a ∷ [])
front_of_four a low high =
    elim (cases_lt a 0xF1) [
      | inl first ↦ record {
        rest = 0x90 ∷ 0x80 ∷ 0x80 ∷ [];
        some_left = omega arith;
        whole =
            (inl (omega arith, (omega arith, omega arith)), (omega arith, omega arith), (omega arith, omega arith));
      }
      | inr up ↦ elim (cases_lt a 0xF4) [
        | inl second ↦ record {
          rest = 0x80 ∷ 0x80 ∷ 0x80 ∷ [];
          some_left = omega arith;
          whole = (
            inr (inl ((omega arith, omega arith), (omega arith, omega arith))),
            (omega arith, omega arith),
            (omega arith, omega arith),
          );
        }
        | inr last ↦ record {
          rest = 0x80 ∷ 0x80 ∷ 0x80 ∷ [];
          some_left = omega arith;
          whole = (
            inr (inr (omega arith, (omega arith, omega arith))),
            (omega arith, omega arith),
            (omega arith, omega arith),
          );
        }
      ]
    ]

three_front : (a b : ℕ) → IsStartOfThree a b → IsFront (a ∷ [])
three_front a b h = elim h [ inl e ↦ (omega arith, omega arith) | inr r ↦ (omega arith, omega arith) ]

four_front : (a b : ℕ) → IsStartOfFour a b → IsFront (a ∷ [])
four_front a b h = elim h [
  | inl e ↦ (omega arith, omega arith)
  | inr r ↦
      elim r [ inl m ↦ (omega arith, omega arith) | inr l ↦ (omega arith, omega arith) ]
]

-- a front is followed by the rest of a character
pub front_pending : (xs : List ℕ) → IsFront xs → IsPending xs
front_pending [] h = record { rest = 0 ∷ []; some_left = omega arith; whole = omega arith }
front_pending (a ∷ []) h =
    elim (cases_lt a 0xE0) [
      | inl two ↦ record {
        rest = 0x80 ∷ [];
        some_left = omega arith;
        whole =
            ((omega arith, omega arith), (omega arith, omega arith));
      }
      | inr up ↦ elim (cases_lt a 0xE1) [
        | inl three ↦ record {
          rest = 0xA0 ∷ 0x80 ∷ [];
          some_left = omega arith;
          whole =
              (inl (omega arith, (omega arith, omega arith)), (omega arith, omega arith));
        }
        | inr up ↦ elim (cases_lt a 0xF0) [
          | inl three ↦ record {
            rest = 0x80 ∷ 0x80 ∷ [];
            some_left = omega arith;
            whole =
                (inr ((omega arith, omega arith), (omega arith, omega arith)), (omega arith, omega arith));
          }
          | inr up ↦ front_of_four a up h.1
        ]
      ]
    ]
front_pending (a ∷ b ∷ []) h =
    elim h [
      | inl three ↦ record { rest = 0x80 ∷ []; some_left = omega arith; whole = (three, (omega arith, omega arith)) }
      | inr four ↦ record {
        rest = 0x80 ∷ 0x80 ∷ [];
        some_left = omega arith;
        whole =
            (four, (omega arith, omega arith), (omega arith, omega arith));
      }
    ]
front_pending (a ∷ b ∷ c ∷ []) h = record {
  rest = 0x80 ∷ [];
  some_left = omega arith;
  whole =
      (h.0, h.1, (omega arith, omega arith));
}
front_pending _ h = absurd h

pending_front : (xs rest : List ℕ) → 1 ≤ length rest → IsCharacter (xs ++ rest) → IsFront xs
pending_front [] rest some h = tt
pending_front (a ∷ []) [] some h = absurd (omega arith)
pending_front (a ∷ []) (b ∷ []) some h = (omega arith, omega arith)
pending_front (a ∷ []) (b ∷ c ∷ []) some h = three_front a b h.0
pending_front (a ∷ []) (b ∷ c ∷ d ∷ []) some h = four_front a b h.0
pending_front (a ∷ []) (b ∷ c ∷ d ∷ e ∷ rest) some h = absurd h
pending_front (a ∷ b ∷ []) [] some h = absurd (omega arith)
pending_front (a ∷ b ∷ []) (c ∷ []) some h = inl h.0
pending_front (a ∷ b ∷ []) (c ∷ d ∷ []) some h = inr h.0
pending_front (a ∷ b ∷ []) (c ∷ d ∷ e ∷ rest) some h = absurd h
pending_front (a ∷ b ∷ c ∷ []) [] some h = absurd (omega arith)
pending_front (a ∷ b ∷ c ∷ []) (d ∷ []) some h = (h.0, h.1)
pending_front (a ∷ b ∷ c ∷ []) (d ∷ e ∷ rest) some h = absurd h
pending_front (a ∷ b ∷ c ∷ d ∷ xs) [] some h = absurd (omega arith)
pending_front (a ∷ b ∷ c ∷ d ∷ []) (e ∷ rest) some h = absurd h
pending_front (a ∷ b ∷ c ∷ d ∷ x ∷ xs) (e ∷ rest) some h = absurd h

-- a character is no front of one
shorter : (p c x rest : List ℕ) → 1 ≤ length rest → IsCharacter (p ++ rest) → IsCharacter c → p ≡ c ++ x → ⊥
shorter p c x rest some whole is_c e =
    let joined : (p ++ rest) ++ [] ≡ c ++ (x ++ rest) = append-nil (p ++ rest) ∙ ap (λ (t : List ℕ). t ++ rest) e
    ∙ append_assoc c x rest in
    let same = same_characters (p ++ rest) c [] (x ++ rest) whole is_c joined in
    let size : 0 ≡ length (x ++ rest) = ap length same.1 in
    omega (arith, length-append x rest)

-- the characters of a text with a cut are known
one_cut : (cs ds : List (List ℕ)) (p q : List ℕ) → All IsCharacter cs → All IsCharacter ds → IsPending p → IsPending q
    → concat cs ++ p ≡ concat ds ++ q → (length cs ≡ length ds) × (p ≡ q)
one_cut [] [] p q are_c are_d is_p is_q e = (refl, e)
one_cut [] (d ∷ ds) p q are_c are_d is_p is_q e =
    absurd (shorter p d (concat ds ++ q) is_p.rest is_p.some_left is_p.whole (All-head IsCharacter d ds are_d) (e
    ∙ append_assoc d (concat ds) q))
one_cut (c ∷ cs) [] p q are_c are_d is_p is_q e =
    absurd (shorter q c (concat cs ++ p) is_q.rest is_q.some_left is_q.whole (All-head IsCharacter c cs are_c) (sym e
    ∙ append_assoc c (concat cs) p))
one_cut (c ∷ cs) (d ∷ ds) p q are_c are_d is_p is_q e =
    let same = same_characters c d (concat cs ++ p) (concat ds ++ q) (All-head IsCharacter c cs are_c)
    (All-head IsCharacter d ds are_d)
    (sym (append_assoc c (concat cs) p) ∙ e ∙ append_assoc d (concat ds) q) in
    let rest = one_cut cs ds p q (All-tail IsCharacter c cs are_c) (All-tail IsCharacter d ds are_d) is_p is_q same.1 in
    (ap suc rest.0, rest.1)

pub same_cut : (text : List ℕ) (m n : ℕ) (p q : List ℕ) → IsCut text m p → IsCut text n q → (m ≡ n) × (p ≡ q)
same_cut text m n p q first second =
    let one = first.characters in
    let two = second.characters in
    let e : concat one.characters ++ p ≡ concat two.characters ++ q =
    ap (λ (t : List ℕ). t ++ p) (sym one.joined) ∙ sym first.cut ∙ second.cut
    ∙ ap (λ (t : List ℕ). t ++ q) two.joined in
    let same = one_cut one.characters two.characters p q one.each two.each first.is_pending second.is_pending e in
    (sym one.counted ∙ same.0 ∙ two.counted, same.1)

-- the last of a list
last_of : {A : Type 0} (xs : List A) → (xs ≡ []) ⊎ ((ys : List A) × (y : A) × (xs ≡ ys ++ y ∷ []))
last_of [] = inl refl
last_of (x ∷ xs) =
    elim (last_of xs) [
      | inl none ↦ inr ([], x, ap (λ t. x ∷ t) none)
      | inr some ↦ inr (x ∷ some.0, some.1, ap (λ t. x ∷ t) some.2)
    ]

last_same : (xs ys : List ℕ) (x y : ℕ) → xs ++ x ∷ [] ≡ ys ++ y ∷ [] → (xs ≡ ys) × (x ≡ y)
last_same [] [] x y e = (refl, cc e)
last_same [] (z ∷ ys) x y e = absurd (omega (arith, ap length e, length-append ys (y ∷ [])))
last_same (z ∷ xs) [] x y e = absurd (omega (arith, ap length e, length-append xs (x ∷ [])))
last_same (z ∷ xs) (w ∷ ys) x y e =
    let head : z ≡ w = cc e in
    let tail : xs ++ x ∷ [] ≡ ys ++ y ∷ [] = cc e in
    let rest = last_same xs ys x y tail in
    (rw (head, rest.0) refl, rest.1)

-- what stands before the last byte of a text with a cut, and how the byte goes on
pub record IsBefore (text : List ℕ) (byte : ℕ) : Type 0 where
  pub count : ℕ
  pub pending : List ℕ
  pub cut : IsCut text count pending
  pub goes_on : IsCharacter (pending ++ byte ∷ []) ⊎ IsFront (pending ++ byte ∷ [])

before_pending : (text cs p : List ℕ) (byte y count : ℕ) → HasCharacters cs count → IsPending (p ++ y ∷ [])
    → text ++ byte ∷ [] ≡ cs ++ (p ++ y ∷ []) → IsBefore text byte
before_pending text cs p byte y count are is e =
    let same = last_same text (cs ++ p) byte y (e ∙ sym (append_assoc cs p (y ∷ []))) in
    let whole : IsCharacter (p ++ (y ∷ is.rest)) = subst IsCharacter (append_assoc p (y ∷ []) is.rest) is.whole in
    record {
      count = count;
      pending = p;
      cut = record {
        front = cs;
        characters = are;
        is_pending =
            record { rest = y ∷ is.rest; some_left = omega arith; whole = whole };
        cut = same.0;
      };
      goes_on = inr (subst (λ (t : ℕ). IsFront (p ++ t ∷ [])) (sym same.1)
          (pending_front (p ++ y ∷ []) is.rest is.some_left is.whole));
    }

before_character : (text : List ℕ) (byte : ℕ) (cs : List (List ℕ)) (c p : List ℕ) (y : ℕ) → All IsCharacter cs
    → IsCharacter c → c ≡ p ++ y ∷ []
    → text ++ byte ∷ [] ≡ concat cs ++ c → IsBefore text byte
before_character text byte cs c p y are is same e =
    let joined : text ++ byte ∷ [] ≡ (concat cs ++ p) ++ y ∷ [] = e ∙ ap (λ (t : List ℕ). concat cs ++ t) same
    ∙ sym (append_assoc (concat cs) p (y ∷ [])) in
    let ends = last_same text (concat cs ++ p) byte y joined in
    let whole : IsCharacter (p ++ y ∷ []) = subst IsCharacter same is in
    record {
      count = length cs;
      pending = p;
      cut = record {
        front = concat cs;
        characters = record { characters = cs; each = are; counted = refl; joined = refl };
        is_pending = record { rest = y ∷ []; some_left = omega arith; whole = whole };
        cut = ends.0;
      };
      goes_on = inl (subst (λ (t : ℕ). IsCharacter (p ++ t ∷ [])) (sym ends.1) whole);
    }

before_last : (text : List ℕ) (byte : ℕ) (cs : List (List ℕ)) (c : List ℕ) → All IsCharacter (cs ++ c ∷ [])
    → text ++ byte ∷ [] ≡ concat (cs ++ c ∷ []) → IsBefore text byte
before_last text byte cs c are e =
    let front : All IsCharacter cs = subst (All IsCharacter) (take_at cs (c ∷ []) (length cs) refl)
    (All-take IsCharacter (length cs) (cs ++ c ∷ []) are) in
    let back : All IsCharacter (c ∷ []) = subst (All IsCharacter) (drop_at cs (c ∷ []) (length cs) refl)
    (All-drop IsCharacter (length cs) (cs ++ c ∷ []) are) in
    let is : IsCharacter c = All-head IsCharacter c [] back in
    let joined : text ++ byte ∷ [] ≡ concat cs ++ c = e ∙ concat-append cs (c ∷ [])
    ∙ ap (λ (t : List ℕ). concat cs ++ t) (append-nil c) in
    elim (last_of c) [
      | inl none ↦ absurd (omega (arith, some_bytes c is, ap length none))
      | inr some ↦ before_character text byte cs c some.0 some.1 front is some.2 joined
    ]

before_whole : (text : List ℕ) (byte : ℕ) (cs : List (List ℕ)) → All IsCharacter cs → text ++ byte ∷ [] ≡ concat cs
    → IsBefore text byte
before_whole text byte cs are e =
    elim (last_of cs) [
      | inl none ↦ absurd (omega (arith, ap length (e ∙ ap concat none), length-append text (byte ∷ [])))
      | inr some ↦ before_last text byte some.0 some.1 (subst (All IsCharacter) some.2 are) (e ∙ ap concat some.2)
    ]

pub before : (text : List ℕ) (byte count : ℕ) (pending : List ℕ) → IsCut (text ++ byte ∷ []) count pending
    → IsBefore text byte
before text byte count pending cut =
    elim (last_of pending) [
      | inl none ↦ before_whole text byte cut.characters.characters cut.characters.each
          (cut.cut ∙ ap (λ (t : List ℕ). cut.front ++ t) none ∙ append-nil cut.front ∙ cut.characters.joined)
      | inr some ↦ before_pending text cut.front some.0 byte some.1 count cut.characters
          (subst IsPending some.2 cut.is_pending)
          (cut.cut ∙ ap (λ (t : List ℕ). cut.front ++ t) some.2)
    ]
