-- The words of types: how many there are, and where they stand on a column line.
use Rattle.std.proofs.Common.{◌≡◌, suc, ◌+◌, ◌-◌, ◌<◌, ◌≤◌, inl, inr, true, false, [], ◌∷◌, ◌++◌, length, drop, refl}
use Rattle.std.proofs.Common.{sym, ap, ◌∙◌, arith}
use Rattle.std.proofs.lemmas.List.{length-take-le, length-drop, take_more, take_all}
use Rattle.column_values.specs.declared.kind.ColumnType.{ColumnType}
use Rattle.column_values.specs.declared.kind.ColumnType.TheVariants.{Int, Date, Char, Varchar, Binary, Varbinary, Text}
use Rattle.column_values.specs.declared.kind.ColumnType.TheVariants.{Blob, Utf8Varchar, Utf8Text, DateTime, Timestamp}
use Rattle.column_values.specs.declared.kind.ColumnType.TheVariants.{Year, Decimal}
use Rattle.schema_text.specs.Grammar.{type_words}
use Rattle.schema_text.specs.Refusals.{Line, word, type_part, last_word, IsTypeForm}

pub few_type_words : (kind : ColumnType) → length (type_words kind) ≤ 3
few_type_words (Int w true) = omega arith
few_type_words (Int w false) = omega arith
few_type_words Date = omega arith
few_type_words (Char n) = omega arith
few_type_words (Varchar n) = omega arith
few_type_words (Binary n) = omega arith
few_type_words (Varbinary n) = omega arith
few_type_words (Text n) = omega arith
few_type_words (Blob n) = omega arith
few_type_words (Utf8Varchar n) = omega arith
few_type_words (Utf8Text n) = omega arith
few_type_words (DateTime f) = omega arith
few_type_words (Timestamp f) = omega arith
few_type_words Year = omega arith
few_type_words (Decimal p s) = omega arith

-- no type has four words
pub too_long : (words : Line) → 3 < length words → IsTypeForm words → ⊥
too_long words long form =
    elim form [
      | inl h ↦ omega (arith, few_type_words h.0, ap length h.2)
      | inr rest ↦ elim rest [
        | inl h ↦ omega (arith, ap length h.3)
        | inr more ↦ elim more [ inl h ↦ omega (arith, ap length h.1) | inr h ↦ omega (arith, ap length h.2) ]
      ]
    ]

pub length_type_part : (line : Line) → 4 ≤ length line → length (type_part line) ≡ length line - 3
length_type_part line h = length-take-le (length line - 3) (drop 2 line) (omega (arith, length-drop 2 line))

pub two_on_line : (line : Line) → length line ≡ 5 → type_part line ≡ word line 2 ∷ word line 3 ∷ []
two_on_line (a ∷ b ∷ c ∷ d ∷ e ∷ []) h = refl
two_on_line _ h = absurd (omega arith)

pub three_on_line : (line : Line) → length line ≡ 6 → type_part line ≡ word line 2 ∷ word line 3 ∷ word line 4 ∷ []
three_on_line (a ∷ b ∷ c ∷ d ∷ e ∷ f ∷ []) h = refl
three_on_line _ h = absurd (omega arith)

-- a column line, put together from its words
pub column_line_is : (line : Line) → 4 ≤ length line
    → line ≡ ((word line 0 ∷ word line 1 ∷ []) ++ type_part line) ++ last_word line ∷ []
column_line_is (a ∷ b ∷ line) h =
    let size : length line ≡ suc (length line - 1) = omega arith in
    let inner : suc (suc (length line)) - 3 ≡ length line - 1 = omega arith in
    let last : suc (suc (length line)) - 1 ≡ suc (length line) = omega arith in
    let parts = take_more line (length line - 1) [] (omega arith) in
    let whole = take_all (length line - 1 + 1) line (omega arith) in
    let behind : suc (length line) ≡ suc (suc (length line - 1)) = omega arith in
    ap (λ rest. a ∷ b ∷ rest) (sym whole ∙ parts) ∙ rw (inner, last, behind) refl
column_line_is (a ∷ []) h = absurd (omega arith)
column_line_is [] h = absurd (omega arith)
