-- Texts of characters of one byte.
use Rattle.std.proofs.Common.{◌≡◌, ℕ, suc, ◌≤◌, List, [], ◌∷◌, length, map, refl, ap, arith}
use Rattle.std.specs.Prelude.{All, Bool, true, false, IsTrue, MatchBool}
use Rattle.std.specs.List.{concat}
use Rattle.std.specs.Str.{IsAscii, IsNotAscii}
use Rattle.std.proofs.lemmas.Bool.{false≢true}
use Rattle.std.proofs.lemmas.List.{length-map}
use Rattle.std.proofs.lemmas.List.Elements.{All-nil, All-cons}
use Rattle.column_values.specs.Characters.{IsCharacter, IsTextUpTo}
use Rattle.column_values.specs.declared.kind.ColumnType.TheVariants as types
use Rattle.column_values.specs.declared.value.Value.TheVariants as values
use Rattle.column_values.specs.Spell.{IsSpelling}

abbrev alone : ℕ → List ℕ
alone byte = byte ∷ []

each_alone : (text : List ℕ) → IsAscii text → All IsCharacter (map alone text)
each_alone [] ascii = All-nil IsCharacter
each_alone (byte ∷ text) ascii =
    All-cons IsCharacter (byte ∷ []) (map alone text) (omega (arith, ascii 0)) (each_alone text (λ i. ascii (suc i)))

joined_alone : (text : List ℕ) → text ≡ concat (map alone text)
joined_alone [] = refl
joined_alone (byte ∷ text) = ap (λ (t : List ℕ). byte ∷ t) (joined_alone text)

up_to : (n : ℕ) (text : List ℕ) → length text ≤ n → IsAscii text → IsTextUpTo n text
up_to n text fits ascii = (
  length text,
  fits,
  record {
    characters = map alone text;
    each = each_alone text ascii;
    counted = length-map text alone;
    joined = joined_alone text;
  },
)

pub ascii_varchar : (n : ℕ) (text : List ℕ) → length text ≤ n → IsAscii text → IsSpelling (types.Utf8Varchar n) text
ascii_varchar n text fits ascii = (values.Text text, (up_to n text fits ascii, refl))

pub ascii_text : (n : ℕ) (text : List ℕ) → length text ≤ n → IsAscii text → IsSpelling (types.Utf8Text n) text
ascii_text n text fits ascii =
    let is = up_to n text fits ascii in (values.Text text, (fits, (is.0, is.2), refl))

-- what a test for such a text says where it answers yes
pub tested : (result : Bool) (text : List ℕ) → MatchBool result (IsAscii text) (IsNotAscii text) → IsTrue result
    → IsAscii text
tested true text cases t = cases
tested false text cases t = absurd (false≢true t)
