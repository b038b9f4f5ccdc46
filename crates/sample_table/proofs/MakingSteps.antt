-- The steps by which the made rows and their text are made.
use Rattle.std.proofs.Common.{◌≡◌, ℕ, ◌+◌, ◌%◌, cond, eqb, List, [], ◌∷◌, ◌++◌, length, codes}
use Rattle.std.proofs.Common.{decimal}
use Rattle.std.proofs.Common.{refl, sym, ap, ◌∙◌, arith}
use Rattle.std.proofs.lemmas.Bool.{cond-true, cond-false, eq-eqb, ne_eqb}
use Rattle.std.proofs.lemmas.List.{append-nil, replicate_more, drop_all}
use Rattle.std.proofs.lemmas.List.Concat.{flat_map-append}
use Rattle.page_source.specs.Pages.{with_bytes}
use Rattle.column_values.specs.declared.value.Value.{Value}
use Rattle.column_values.specs.declared.value.Value.TheVariants.{Null, Unsigned, Text}
use Rattle.row_text.specs.Line.{line_of, text_of}
use Rattle.sample_table.specs.Sample.{sample_table, sample_number, sample_tag, sample_note, sample_row, sample_rows}
use Rattle.sample_table.specs.Sample.{letters}
use Rattle.sample_table.proofs.MadeRows.{rows_more}

pub letters_none : letters 0 ≡ []
unfolding letters
letters_none = refl

pub letters_more : (n : ℕ) → letters n ++ 110 ∷ [] ≡ letters (n + 1)
unfolding letters
letters_more n = replicate_more n 110

pub text_none : text_of sample_table (sample_rows 0) ≡ []
unfolding text_of sample_rows
text_none = refl

pub text_more : (n : ℕ)
    → text_of sample_table (sample_rows n) ++ line_of sample_table (sample_row (n + 1))
    ≡ text_of sample_table (sample_rows (n + 1))
unfolding text_of
text_more n =
    sym (ap (text_of sample_table) (rows_more n)
    ∙ flat_map-append (line_of sample_table) (sample_rows n) (sample_row (n + 1) ∷ [])
    ∙ ap (λ (line : List ℕ). text_of sample_table (sample_rows n) ++ line)
    (append-nil (line_of sample_table (sample_row (n + 1)))))

-- a row, value by value
pub three_values : (r s t u : List Value) (a b d : Value) (i : ℕ) → r ≡ [] → s ≡ r ++ a ∷ [] → t ≡ s ++ b ∷ []
    → u ≡ t ++ d ∷ [] → a ≡ Unsigned i → b ≡ sample_tag i → d ≡ sample_note i → u ≡ sample_row i
unfolding sample_row
three_values r s t u a b d i first second third fourth id tag note =
    fourth ∙ ap (λ (xs : List Value). xs ++ d ∷ []) (third ∙ ap (λ (xs : List Value). xs ++ b ∷ [])
    (second ∙ ap (λ (xs : List Value). xs ++ a ∷ []) first))
    ∙ ap (λ (x : Value). x ∷ b ∷ d ∷ []) id ∙ ap (λ (x : Value). Unsigned i ∷ x ∷ d ∷ []) tag
    ∙ ap (λ (x : Value). Unsigned i ∷ sample_tag i ∷ x ∷ []) note

-- its tag
pub null_tag : (i k : ℕ) → k ≡ sample_number i → k % 10 ≡ 0 → Null ≡ sample_tag i
unfolding sample_tag
null_tag i k is ends =
    sym (cond-true (eqb (sample_number i % 10) 0) Null (Text (codes "t" ++ decimal (sample_number i)))
    (eq-eqb (sample_number i % 10) 0 (ap (λ n. n % 10) (sym is) ∙ ends)))

pub some_tag : (i k : ℕ) (xs ys zs ds : List ℕ) → k ≡ sample_number i → ¬ (k % 10 ≡ 0) → xs ≡ []
    → ys ≡ xs ++ 116 ∷ [] → zs ≡ ys ++ ds → ds ≡ decimal k → Text zs ≡ sample_tag i
unfolding sample_tag
some_tag i k xs ys zs ds is other none letter more digits =
    ap Text (more ∙ ap (λ (front : List ℕ). front ++ ds) (letter ∙ ap (λ (front : List ℕ). front ++ 116 ∷ []) none)
    ∙ ap (λ (rest : List ℕ). 116 ∷ rest) (digits ∙ ap decimal is))
    ∙ sym (cond-false (eqb (sample_number i % 10) 0) Null (Text (codes "t" ++ decimal (sample_number i)))
    (ne_eqb (sample_number i % 10) 0 (λ same. other (ap (λ n. n % 10) is ∙ same))))

-- and its note
abbrev other_note : ℕ → Value
other_note i = cond (eqb (i % 3) 0) Null (Text (letters (sample_number i % 300)))

later : (i : ℕ) → ¬ (i % 1000 ≡ 0) → other_note i ≡ sample_note i
unfolding sample_note
later i other =
    sym (cond-false (eqb (i % 1000) 0) (Text (letters 20000)) (other_note i) (ne_eqb (i % 1000) 0 other))

pub long_note : (i : ℕ) (xs : List ℕ) → i % 1000 ≡ 0 → xs ≡ letters 20000 → Text xs ≡ sample_note i
unfolding sample_note
long_note i xs same is =
    ap Text is
    ∙ sym (cond-true (eqb (i % 1000) 0) (Text (letters 20000)) (other_note i) (eq-eqb (i % 1000) 0 same))

pub null_note : (i : ℕ) → ¬ (i % 1000 ≡ 0) → i % 3 ≡ 0 → Null ≡ sample_note i
null_note i other same =
    sym (cond-true (eqb (i % 3) 0) Null (Text (letters (sample_number i % 300))) (eq-eqb (i % 3) 0 same))
    ∙ later i other

pub some_note : (i k : ℕ) (xs : List ℕ) → ¬ (i % 1000 ≡ 0) → ¬ (i % 3 ≡ 0) → k ≡ sample_number i
    → xs ≡ letters (k % 300) → Text xs ≡ sample_note i
some_note i k xs other rest is letters_are =
    ap Text (letters_are ∙ ap (λ n. letters (n % 300)) is)
    ∙ sym (cond-false (eqb (i % 3) 0) Null (Text (letters (sample_number i % 300))) (ne_eqb (i % 3) 0 rest))
    ∙ later i other

-- a page that was copied whole
pub copied : (blank new bytes page : List ℕ) → length blank ≡ 16384 → length bytes ≡ 16384
    → new ≡ with_bytes blank 0 bytes → bytes ≡ page → new ≡ page
unfolding with_bytes
copied blank new bytes page size same is of_page =
    is ∙ ap (λ (rest : List ℕ). bytes ++ rest) (drop_all (0 + length bytes) blank (omega arith)) ∙ append-nil bytes
    ∙ of_page
