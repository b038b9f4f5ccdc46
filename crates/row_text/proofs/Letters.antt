-- The byte that a letter stands for behind a backslash.
use Rattle.std.proofs.Common.{◌≡◌, ◌≢◌, ℕ, ◌<◌, List, map, get_or, inl, inr, refl, sym, ap, ◌∙◌, arith}
use Rattle.std.proofs.lemmas.Bool.{cases_eq, ne_eqb}
use Rattle.std.proofs.lemmas.List.FromFn.{get_or-map-range_with_len}
use Rattle.std.specs.List.{range_with_len}
use Rattle.row_text.specs.declared.read.runs.TheConstants.{BYTES}
use Rattle.row_text.specs.Values.{escape_letter}
use Rattle.row_text.specs.calls.Texts.{byte_of}
use Rattle.row_text.proofs.Quotes.{cases_letter}

-- the bytes stand in a table
bytes_are : map byte_of (range_with_len 0 256) ≡ BYTES
bytes_are = refl

pub byte_entry : (letter d : ℕ) → letter < 256 → get_or BYTES letter d ≡ byte_of letter
byte_entry letter d below =
    ap (λ (xs : List ℕ). get_or xs letter d) (sym bytes_are)
    ∙ get_or-map-range_with_len byte_of 0 256 letter letter d below (omega arith)

-- the byte of a letter has that letter
abbrev IsLetterOf : ℕ → ℕ → Type 0
IsLetterOf letter byte = (escape_letter byte ≡ letter) × (letter ≢ 0)

letter_back : (l : ℕ) → byte_of l ≢ 255 → IsLetterOf l (byte_of l)
letter_back l some = elim (cases_eq l 48) [
  | inl e ↦ rw e (refl, λ z. omega (arith, z))
  | inr n0 ↦ elim (cases_eq l 110) [
    | inl e ↦ rw e (refl, λ z. omega (arith, z))
    | inr n1 ↦ elim (cases_eq l 114) [
      | inl e ↦ rw e (refl, λ z. omega (arith, z))
      | inr n2 ↦ elim (cases_eq l 92) [
        | inl e ↦ rw e (refl, λ z. omega (arith, z))
        | inr n3 ↦ elim (cases_eq l 39) [
          | inl e ↦ rw e (refl, λ z. omega (arith, z))
          | inr n4 ↦ elim (cases_eq l 34) [
            | inl e ↦ rw e (refl, λ z. omega (arith, z))
            | inr n5 ↦ elim (cases_eq l 90) [
              | inl e ↦ rw e (refl, λ z. omega (arith, z))
              | inr n6 ↦ absurd (some (none l n0 n1 n2 n3 n4 n5 n6))
            ]
          ]
        ]
      ]
    ]
  ]
]
  where
    none : (l : ℕ) → l ≢ 48 → l ≢ 110 → l ≢ 114 → l ≢ 92 → l ≢ 39 → l ≢ 34 → l ≢ 90 → byte_of l ≡ 255
    none l n0 n1 n2 n3 n4 n5 n6 =
        rw (
          ne_eqb l 48 n0,
          ne_eqb l 110 n1,
          ne_eqb l 114 n2,
          ne_eqb l 92 n3,
          ne_eqb l 39 n4,
          ne_eqb l 34 n5,
          ne_eqb l 90 n6,
        )
        refl

-- an entry of the table that is a byte, and one that is none
pub entry_is : (letter byte : ℕ) → byte ≡ byte_of letter → byte ≢ 255 → IsLetterOf letter byte
entry_is letter byte is some =
    let back = letter_back letter (λ none. some (is ∙ none)) in (ap escape_letter is ∙ back.0, back.1)

pub no_entry : (letter entry byte : ℕ) → entry ≡ byte_of letter → entry ≡ 255 → escape_letter byte ≡ letter → letter ≡ 0
no_entry letter entry byte is none e = elim (cases_letter byte) [
  | inl self ↦ sym e ∙ self
  | inr has ↦ let last : byte ≡ 255 = sym has.back ∙ ap byte_of e ∙ sym is ∙ none in
      let plain : escape_letter byte ≡ 0 = ap escape_letter last in sym e ∙ plain
]
