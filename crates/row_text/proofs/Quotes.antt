-- Where a text in quotes ends.
use Rattle.std.proofs.Common.{◌≡◌, ◌≢◌, ℕ, ◌≤◌, ◌⊎◌, inl, inr, List, [], ◌∷◌, ◌++◌, flat_map}
use Rattle.std.proofs.Common.{refl, sym, ap, ◌∙◌, arith, append_assoc}
use Rattle.std.proofs.lemmas.Bool.{cases_eq, ne_eqb}
use Rattle.std.proofs.lemmas.List.Elements.{All-nil, All-cons, All-head, All-tail}
use Rattle.std.specs.List.{All}
use Rattle.row_text.specs.Values.{escape_letter, escaped, escaped_text, IsPlain, quoted}
use Rattle.row_text.specs.calls.Texts.{byte_of}
use Rattle.row_text.proofs.Escapes.{itself, behind_backslash, escaped_plain}

-- the letters
abbrev pub IsLetter : ℕ → Type 0
IsLetter l = (l ≡ 48) ⊎ (l ≡ 110) ⊎ (l ≡ 114) ⊎ (l ≡ 92) ⊎ (l ≡ 39) ⊎ (l ≡ 34) ⊎ (l ≡ 90)

pub record HasLetter (byte : ℕ) : Type 0 where
  pub back : byte_of (escape_letter byte) ≡ byte
  pub known : IsLetter (escape_letter byte)

-- a byte that is none of these stands for itself
plain_byte : (b : ℕ) → b ≢ 0 → b ≢ 10 → b ≢ 13 → b ≢ 92 → b ≢ 39 → b ≢ 34 → b ≢ 26 → escape_letter b ≡ 0
plain_byte b n0 n1 n2 n3 n4 n5 n6 =
    rw (ne_eqb b 0 n0, ne_eqb b 10 n1, ne_eqb b 13 n2, ne_eqb b 92 n3, ne_eqb b 39 n4, ne_eqb b 34 n5, ne_eqb b 26 n6)
    refl

-- a byte stands for itself, or its letter stands for it
pub cases_letter : (b : ℕ) → (escape_letter b ≡ 0) ⊎ HasLetter b
cases_letter b = elim (cases_eq b 0) [
  | inl e ↦ rw e (inr (record { back = refl; known = inl refl }))
  | inr n0 ↦ elim (cases_eq b 10) [
    | inl e ↦ rw e (inr (record { back = refl; known = inr (inl refl) }))
    | inr n1 ↦ elim (cases_eq b 13) [
      | inl e ↦ rw e (inr (record { back = refl; known = inr (inr (inl refl)) }))
      | inr n2 ↦ elim (cases_eq b 92) [
        | inl e ↦ rw e (inr (record { back = refl; known = inr (inr (inr (inl refl))) }))
        | inr n3 ↦ elim (cases_eq b 39) [
          | inl e ↦ rw e (inr (record { back = refl; known = inr (inr (inr (inr (inl refl)))) }))
          | inr n4 ↦ elim (cases_eq b 34) [
            | inl e ↦ rw e (inr (record { back = refl; known = inr (inr (inr (inr (inr (inl refl))))) }))
            | inr n5 ↦ elim (cases_eq b 26) [
              | inl e ↦ rw e (inr (record {
                back = refl;
                known = inr (inr (inr (inr (inr (inr refl)))));
              }))
              | inr n6 ↦ inl (plain_byte b n0 n1 n2 n3 n4 n5 n6)
            ]
          ]
        ]
      ]
    ]
  ]
]

-- the bytes of numbers, moments and hexadecimal digits, and the letters
abbrev pub IsSafe : ℕ → Type 0
IsSafe b = (b ≡ 32) ⊎ ((45 ≤ b) × (b ≤ 122) × (b ≢ 92))

safe_is_plain : (b : ℕ) → IsSafe b → escape_letter b ≡ 0
safe_is_plain b safe = elim safe [
  | inl e ↦ rw e refl
  | inr h ↦ rw (
    ne_eqb b 0 (λ e. omega (arith, h.0, e)),
    ne_eqb b 10 (λ e. omega (arith, h.0, e)),
    ne_eqb b 13 (λ e.
        omega (arith, h.0, e)),
    ne_eqb b 92 h.2,
    ne_eqb b 39 (λ e. omega (arith, h.0, e)),
    ne_eqb b 34 (λ e.
        omega (arith, h.0, e)),
    ne_eqb b 26 (λ e. omega (arith, h.0, e)),
  ) refl
]

safe_text : (text : List ℕ) → All IsSafe text → IsPlain text
safe_text [] safe = All-nil (λ byte. escape_letter byte ≡ 0)
safe_text (b ∷ text) safe = All-cons (λ byte. escape_letter byte ≡ 0) b text
    (safe_is_plain b (All-head IsSafe b text safe)) (safe_text text (All-tail IsSafe b text safe))

pub safe_escaped : (text : List ℕ) → All IsSafe text → escaped_text text ≡ text
safe_escaped text safe = escaped_plain text (safe_text text safe)

-- a letter is none of 0
pub some_letter : (b : ℕ) → HasLetter b → escape_letter b ≢ 0
some_letter b has none = omega (arith, has.known, none)

-- a backslash has one
backslash_has : (b : ℕ) → b ≡ 92 → escape_letter b ≡ 0 → ⊥
backslash_has b is none = let e : escape_letter b ≡ 92 = ap escape_letter is in omega (arith, e, none)

-- a byte's text ends before another one's, and is that of no other
escaped_apart : (a b : ℕ) (s t : List ℕ) → escaped a ++ s ≡ escaped b ++ t → (a ≡ b) × (s ≡ t)
escaped_apart a b s t e = elim (cases_letter a) [
  | inl pa ↦ elim (cases_letter b) [
    | inl pb ↦ let f : a ∷ s ≡ b ∷ t = sym (ap (λ (h : List ℕ). h ++ s) (itself a pa)) ∙ e
        ∙ ap (λ (h : List ℕ). h ++ t) (itself b pb) in (cc, cc)
    | inr sb ↦ let f : a ∷ s ≡ 92 ∷ escape_letter b ∷ t = sym (ap (λ (h : List ℕ). h ++ s) (itself a pa)) ∙ e
        ∙ ap (λ (h : List ℕ). h ++ t) (behind_backslash b (some_letter b sb)) in
        let is : a ≡ 92 = cc in absurd (backslash_has a is pa)
  ]
  | inr sa ↦ elim (cases_letter b) [
    | inl pb ↦ let f : 92 ∷ escape_letter a ∷ s ≡ b ∷ t =
        sym (ap (λ (h : List ℕ). h ++ s) (behind_backslash a (some_letter a sa))) ∙ e
        ∙ ap (λ (h : List ℕ). h ++ t) (itself b pb) in
        let is : b ≡ 92 = cc in absurd (backslash_has b is pb)
    | inr sb ↦ let f : 92 ∷ escape_letter a ∷ s ≡ 92 ∷ escape_letter b ∷ t =
        sym (ap (λ (h : List ℕ). h ++ s) (behind_backslash a (some_letter a sa))) ∙ e
        ∙ ap (λ (h : List ℕ). h ++ t) (behind_backslash b (some_letter b sb)) in
        let same : escape_letter a ≡ escape_letter b = cc in
        (sym sa.back ∙ ap byte_of same ∙ sb.back, cc)
  ]
]

-- no byte's text begins with a quote
escaped_no_quote : (a : ℕ) (s t : List ℕ) → escaped a ++ s ≡ 39 ∷ t → ⊥
escaped_no_quote a s t e = elim (cases_letter a) [
  | inl pa ↦ let f : a ∷ s ≡ 39 ∷ t = sym (ap (λ (h : List ℕ). h ++ s) (itself a pa)) ∙ e in
      let is : a ≡ 39 = cc in
      let has : escape_letter a ≡ 39 = ap escape_letter is in omega (arith, has, pa)
  | inr sa ↦ let f : 92 ∷ escape_letter a ∷ s ≡ 39 ∷ t =
      sym (ap (λ (h : List ℕ). h ++ s) (behind_backslash a (some_letter a sa))) ∙ e in
      let first : ℕ = 92 in let is : first ≡ 39 = cc in omega (arith, is)
]

-- a text ends at its quote
unquoted_apart : (a b x y : List ℕ) → escaped_text a ++ 39 ∷ x ≡ escaped_text b ++ 39 ∷ y → (a ≡ b) × (x ≡ y)
unfolding escaped_text
unquoted_apart [] [] x y e = (refl, cc)
unquoted_apart [] (b ∷ others) x y e =
    absurd (escaped_no_quote b (flat_map escaped others ++ 39 ∷ y) x (sym (e ∙ append_assoc (escaped b) _ _)))
unquoted_apart (a ∷ more) [] x y e =
    absurd (escaped_no_quote a (flat_map escaped more ++ 39 ∷ x) y (sym (append_assoc (escaped a) _ _) ∙ e))
unquoted_apart (a ∷ more) (b ∷ others) x y e =
    let heads = escaped_apart a b (flat_map escaped more ++ 39 ∷ x) (flat_map escaped others ++ 39 ∷ y)
    (sym (append_assoc (escaped a) _ _) ∙ e ∙ append_assoc (escaped b) _ _) in
    let rest = unquoted_apart more others x y heads.1 in
    (ap (λ (h : ℕ). h ∷ more) heads.0 ∙ ap (λ (t : List ℕ). b ∷ t) rest.0, rest.1)

pub quoted_apart : (a b x y : List ℕ) → quoted (escaped_text a) ++ x ≡ quoted (escaped_text b) ++ y
    → (a ≡ b) × (x ≡ y)
quoted_apart a b x y e =
    let f : 39 ∷ (escaped_text a ++ 39 ∷ x) ≡ 39 ∷ (escaped_text b ++ 39 ∷ y) =
    ap (λ (t : List ℕ). 39 ∷ t) (sym (append_assoc (escaped_text a) (39 ∷ []) x)) ∙ e
    ∙ ap (λ (t : List ℕ). 39 ∷ t) (append_assoc (escaped_text b) (39 ∷ []) y) in
    let g : escaped_text a ++ 39 ∷ x ≡ escaped_text b ++ 39 ∷ y = cc in
    unquoted_apart a b x y g

-- what is left of a text behind a front of it
pub record LeftOf (rest more : List ℕ) : Type 0 where
  pub inside : List ℕ
  pub same : rest ≡ escaped_text inside ++ 39 ∷ more

pub left_of : (list rest inside more : List ℕ) → escaped_text list ++ rest ≡ escaped_text inside ++ 39 ∷ more
    → LeftOf rest more
unfolding escaped_text
left_of [] rest inside more e = record { inside = inside; same = e }
left_of (a ∷ list) rest [] more e =
    absurd (escaped_no_quote a (flat_map escaped list ++ rest) more (sym (append_assoc (escaped a) _ _) ∙ e))
left_of (a ∷ list) rest (b ∷ inside) more e =
    left_of list rest inside more
    (escaped_apart a b (flat_map escaped list ++ rest) (flat_map escaped inside ++ 39 ∷ more)
    (sym (append_assoc (escaped a) _ _) ∙ e ∙ append_assoc (escaped b) _ _)).1
