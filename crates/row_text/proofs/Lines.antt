-- The line of a row, value after value.
use Rattle.std.proofs.Common.{◌≡◌, ℕ, eqb, zero, suc, ◌+◌, ◌<◌, List, [], ◌∷◌, ◌++◌, length, take, get_or, refl, sym}
use Rattle.std.proofs.Common.{ap, ◌∙◌, arith}
use Rattle.std.specs.List.{AllZip, join_with_byte}
use Rattle.std.proofs.lemmas.Bool.{cond-false, ne_eqb}
use Rattle.std.proofs.lemmas.List.{append_assoc, append-nil, take_all}
use Rattle.column_values.specs.declared.value.Value.{Value}
use Rattle.column_values.specs.declared.value.Value.TheVariants.{Null}
use Rattle.schema_text.specs.declared.table.Column.{Column}
use Rattle.schema_text.specs.TableDef.{TableDef}
use Rattle.row_text.specs.Values.{value_text}
use Rattle.row_text.specs.Line.{FitsColumn, IsTableRow, comma, texts_of, line_of}
use Rattle.row_text.specs.Writer.{line_open, line_close, before_value}
use Rattle.row_text.specs.Laws.{line_up_to, text_at}

abbrev joined : List (List ℕ) → List ℕ
joined texts = join_with_byte comma texts

pub behind_value : (k : ℕ) → before_value (suc k) ≡ comma ∷ []
behind_value k = cond-false (eqb (suc k) 0) [] (comma ∷ []) (ne_eqb (suc k) 0 (λ e. omega (arith, e)))

-- one text more behind the others
joined_more : (texts : List (List ℕ)) (k : ℕ) → k < length texts
    → joined (take (suc k) texts) ≡ joined (take k texts) ++ (before_value k ++ get_or texts k [])
joined_more [] k lt = absurd (omega (arith, lt))
joined_more (t ∷ texts) zero lt = refl
joined_more (t ∷ []) (suc k) lt = absurd (omega (arith, lt))
joined_more (t ∷ u ∷ texts) (suc zero) lt = refl
joined_more (t ∷ u ∷ texts) (suc (suc k)) lt =
    let front = joined (u ∷ take k texts) in
    let text = get_or texts k [] in
    ap (λ (rest : List ℕ). t ++ comma ∷ rest) (joined_more (u ∷ texts) (suc k) (omega (arith, lt)))
    ∙ ap (λ (mark : List ℕ). t ++ comma ∷ (front ++ (mark ++ text))) (behind_value k ∙ sym (behind_value (suc k)))
    ∙ sym (append_assoc t (comma ∷ front) (before_value (suc (suc k)) ++ text))

-- a row has as many values as there are columns, and each has a text
texts_size : (columns : List Column) (row : List Value) → AllZip FitsColumn columns row
    → length (texts_of columns row) ≡ length row
texts_size [] [] fits = refl
texts_size [] (v ∷ row) fits = absurd fits
texts_size (c ∷ columns) [] fits = absurd fits
texts_size (c ∷ columns) (v ∷ row) fits = ap suc (texts_size columns row fits.1)

text_is : (columns : List Column) (row : List Value) (k : ℕ) (d : Column) → AllZip FitsColumn columns row
    → k < length row → get_or (texts_of columns row) k [] ≡ value_text (get_or columns k d).kind (get_or row k Null)
text_is [] [] k d fits lt = absurd (omega (arith, lt))
text_is [] (v ∷ row) k d fits lt = absurd fits
text_is (c ∷ columns) [] k d fits lt = absurd fits
text_is (c ∷ columns) (v ∷ row) zero d fits lt = refl
text_is (c ∷ columns) (v ∷ row) (suc k) d fits lt = text_is columns row k d fits.1 (omega (arith, lt))

pub line_opens : (table : TableDef) (row : List Value) → line_up_to table row 0 ≡ line_open table
line_opens table row = append-nil (line_open table)

pub line_goes_on : (table : TableDef) (row : List Value) (k : ℕ) → IsTableRow table row → k < length row
    → line_up_to table row (k + 1) ≡ line_up_to table row k ++ (before_value k ++ text_at table row k)
line_goes_on table row k fits lt =
    let texts = texts_of table.columns row in
    let front = line_open table in
    let next : k + 1 ≡ suc k = omega arith in
    let within : k < length texts = omega (arith, lt, texts_size table.columns row fits) in
    ap (λ (n : ℕ). front ++ joined (take n texts)) next
    ∙ ap (λ (t : List ℕ). front ++ t) (joined_more texts k within
    ∙ ap (λ (t : List ℕ). joined (take k texts) ++ (before_value k ++ t)) (text_is table.columns row k _ fits lt))
    ∙ sym (append_assoc front (joined (take k texts)) (before_value k ++ text_at table row k))

pub line_closes : (table : TableDef) (row : List Value) → IsTableRow table row
    → line_up_to table row (length row) ++ line_close ≡ line_of table row
unfolding line_of
line_closes table row fits =
    let texts = texts_of table.columns row in
    let all : take (length row) texts ≡ texts =
    ap (λ (n : ℕ). take n texts) (sym (texts_size table.columns row fits)) ∙ take_all (length texts) texts
    (omega arith) in
    ap (λ (ts : List (List ℕ)). (line_open table ++ joined ts) ++ line_close) all
