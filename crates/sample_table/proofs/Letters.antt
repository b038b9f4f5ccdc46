-- The texts of the made rows: letters and digits, which stand for themselves in a line.
use Rattle.std.proofs.Common.{◌≡◌, ◌≢◌, ℕ, ◌+◌, ◌*◌, ◌%◌, ◌<◌, ◌≤◌, ◌^◌, Bool, true, cond, eqb, List, [], ◌∷◌}
use Rattle.std.proofs.Common.{◌++◌}
use Rattle.std.proofs.Common.{length, codes, decimal, flat_map, replicate, refl, ap, ◌∙◌, arith}
use Rattle.std.specs.List.{All}
use Rattle.std.proofs.lemmas.Bool.{agree_below_at, eqb-true, eq-eqb, cond_both}
use Rattle.std.proofs.lemmas.Fmt.{decimal_by_steps, length-decimal-le}
use Rattle.std.proofs.lemmas.List.{length-replicate}
use Rattle.std.proofs.lemmas.List.Elements.{All-nil, All-cons, All-head, All-tail, All-push, All-replicate, All-weaker}
use Rattle.column_values.specs.declared.value.Value.{Value}
use Rattle.column_values.specs.declared.value.Value.TheVariants.{Null, Text}
use Rattle.row_text.specs.Values.{escape_letter, escaped, escaped_text}
use Rattle.sample_table.specs.Sample.{sample_number, sample_tag, sample_note, letters}

-- a byte that stands for itself
abbrev pub IsPlainByte : ℕ → Type 0
IsPlainByte b = (b < 128) × (escape_letter b ≡ 0)

-- null, or a text of at most so many of these
abbrev pub IsPlainValue : ℕ → Value → Type 0
IsPlainValue most Null = Unit {0}
IsPlainValue most (Text text) = (length text ≤ most) × All IsPlainByte text
IsPlainValue most value = ⊥

digit_plain : (d : ℕ) → d < 10 → IsPlainByte (48 + d)
digit_plain d small = (
  omega arith,
  eqb-true (escape_letter (48 + d)) 0
      (agree_below_at (λ k. eqb (escape_letter (48 + k)) 0) (λ k. true) 10 d refl small),
)

pub decimal_plain : (n : ℕ) → n < 2 ^ 64 → All IsPlainByte (decimal n)
decimal_plain n fits =
    decimal_by_steps (λ k ds. All IsPlainByte ds)
    (λ k small. All-cons IsPlainByte (48 + k) [] (digit_plain k small) (All-nil IsPlainByte))
    (λ k ds large front. All-push IsPlainByte ds (48 + k % 10) front (digit_plain (k % 10) (omega arith)))
    n fits

-- the tag and the note of a row
pub tag_plain : (i : ℕ) → IsPlainValue 6 (sample_tag i)
unfolding sample_tag
tag_plain i =
    cond_both (eqb (sample_number i % 10) 0) Null (Text (codes "t" ++ decimal (sample_number i))) (IsPlainValue 6)
    (λ same. tt) (λ other. text)
  where
    text : IsPlainValue 6 (Text (codes "t" ++ decimal (sample_number i)))
    text =
        let size = length-decimal-le 5 (i * 7919 % 10007) (omega arith) (omega arith) (omega arith) in (
          omega arith,
          All-cons IsPlainByte 116 (decimal (i * 7919 % 10007)) (omega arith, refl)
              (decimal_plain (i * 7919 % 10007) (omega arith)),
        )

letters_plain : (count most : ℕ) → count ≤ most → IsPlainValue most (Text (letters count))
unfolding letters
letters_plain count most few =
    let size : length (replicate {A = ℕ} count 110) ≡ count = length-replicate {A = ℕ} count 110 in
    (omega arith, All-replicate IsPlainByte count 110 (omega arith, refl))

pub note_plain : (i : ℕ) → IsPlainValue 20000 (sample_note i)
unfolding sample_note
note_plain i =
    cond_both (eqb (i % 1000) 0) (Text (letters 20000))
    (cond (eqb (i % 3) 0) Null (Text (letters (sample_number i % 300)))) (IsPlainValue 20000)
    (λ same. letters_plain 20000 20000 (omega arith))
    (λ other. cond_both (eqb (i % 3) 0) Null (Text (letters (sample_number i % 300))) (IsPlainValue 20000)
    (λ same. tt) (λ rest. letters_plain (i * 7919 % 10007 % 300) 20000 (omega arith)))

-- a plain text stands as it is
plain_escaped : (b : ℕ) → IsPlainByte b → escaped b ≡ b ∷ []
plain_escaped b plain =
    ap (λ (t : Bool). cond t (b ∷ []) (92 ∷ escape_letter b ∷ [])) (eq-eqb (escape_letter b) 0 plain.1)

pub plain_text : (text : List ℕ) → All IsPlainByte text → escaped_text text ≡ text
unfolding escaped_text
plain_text [] plain = refl
plain_text (b ∷ bs) plain =
    ap (λ (front : List ℕ). front ++ flat_map escaped bs) (plain_escaped b (All-head IsPlainByte b bs plain))
    ∙ ap (λ (rest : List ℕ). b ∷ rest) (plain_text bs (All-tail IsPlainByte b bs plain))

-- and has no LF
pub plain_lacks : (b : ℕ) → IsPlainByte b → b ≢ 10
plain_lacks b plain same =
    let letter : escape_letter b ≡ 110 = ap escape_letter same in let none = plain.1 in omega arith

pub are_bytes : (text : List ℕ) → All IsPlainByte text → All (λ b. b < 256) text
are_bytes text plain = All-weaker IsPlainByte (λ b. b < 256) (λ b here. let small = here.0 in omega arith) text plain
