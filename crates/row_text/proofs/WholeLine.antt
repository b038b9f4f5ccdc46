-- A line round its values.
use Rattle.std.proofs.Common.{◌≡◌, ◌≢◌, ℕ, List, [], ◌∷◌, ◌++◌, refl, sym, ap, ◌∙◌, append_assoc, Result, Ok, Err}
use Rattle.std.proofs.Common.{◌+◌, ◌-◌, length, take, drop, arith, length-append}
use Rattle.std.specs.Prelude.{codes}
use Rattle.std.proofs.lemmas.List.{append_cancel_left, append_cancel_right, take_at, drop_at}
use Rattle.column_values.specs.declared.value.Value.{Value}
use Rattle.schema_text.specs.TableDef.{TableDef}
use Rattle.row_text.specs.declared.row.RowError.{RowError}
use Rattle.row_text.specs.declared.row.RowError.TheVariants.{Refused, Memory}
use Rattle.row_text.specs.Line.{values_of, line_of, IsLineOf}
use Rattle.row_text.specs.KeyText.{IsColumnsText}
use Rattle.row_text.specs.Writer.{line_open, line_close}
use Rattle.row_text.specs.calls.Rows.{FindsValues}
use Rattle.row_text.specs.Reads.{FindsRow}

abbrev front : List ℕ
front = codes "INSERT INTO `"

abbrev middle : List ℕ
middle = codes "` VALUES ("

abbrev pub opened : List ℕ → List ℕ
opened name = codes "INSERT INTO `" ++ name ++ codes "` VALUES ("

pub is_front : (text front rest : List ℕ) → text ≡ front ++ rest → take (length front) text ≡ front
is_front text front rest e = ap (take (length front)) e ∙ take_at front rest (length front) refl

pub is_end : (text end front : List ℕ) → text ≡ front ++ end → drop (length text - length end) text ≡ end
is_end text end front e =
    let size : length text ≡ length front + length end = ap length e ∙ length-append front end in
    let place : length text - length end ≡ length front = omega (arith, size) in
    ap (λ (n : ℕ). drop n text) place ∙ ap (drop (length front)) e ∙ drop_at front end (length front) refl

-- a line that begins otherwise is none
pub no_name : (line behind name text : List ℕ) → line ≡ codes "INSERT INTO `" ++ behind
    → ((rest : List ℕ) → behind ≢ name ++ rest) → line ≡ opened name ++ (text ++ codes ");") → ⊥
no_name line behind name text is none e =
    let f : front ++ behind ≡ front ++ (name ++ (middle ++ (text ++ codes ");"))) =
    sym is ∙ e ∙ ap (λ (t : List ℕ). front ++ t) (append_assoc name middle (text ++ codes ");")) in
    none (middle ++ (text ++ codes ");")) (append_cancel_left front behind _ f)

pub no_front : (line name text : List ℕ) → ((rest : List ℕ) → line ≢ codes "INSERT INTO `" ++ rest)
    → line ≡ opened name ++ (text ++ codes ");") → ⊥
no_front line name text none e = none (name ++ middle ++ (text ++ codes ");")) e

-- what stands behind the name
behind_name : (line one name two text : List ℕ) → line ≡ codes "INSERT INTO `" ++ one → one ≡ name ++ two
    → line ≡ opened name ++ (text ++ codes ");") → two ≡ codes "` VALUES (" ++ (text ++ codes ");")
behind_name line one name two text a b e =
    append_cancel_left (front ++ name) two (middle ++ (text ++ codes ");")) (append_assoc front name two
    ∙ ap (λ (t : List ℕ). front ++ t) (sym b) ∙ sym a ∙ e
    ∙ ap (λ (t : List ℕ). front ++ t) (append_assoc name middle (text ++ codes ");")))

pub no_middle : (line one name two text : List ℕ) → line ≡ codes "INSERT INTO `" ++ one → one ≡ name ++ two
    → ((rest : List ℕ) → two ≢ codes "` VALUES (" ++ rest) → line ≡ opened name ++ (text ++ codes ");") → ⊥
no_middle line one name two text a b none e = none (text ++ codes ");") (behind_name line one name two text a b e)

pub no_end : (line one name two three text : List ℕ) → line ≡ codes "INSERT INTO `" ++ one → one ≡ name ++ two
    → two ≡ codes "` VALUES (" ++ three → ((front : List ℕ) → three ≢ front ++ codes ");")
    → line ≡ opened name ++ (text ++ codes ");") → ⊥
no_end line one name two three text a b c none e = none text (append_cancel_left middle three (text ++ codes ");")
    (sym c ∙ behind_name line one name two text a b e))

-- the line of a row, without its LF
pub line_is : (table : TableDef) (row : List Value) (line : List ℕ) → IsLineOf table row line
    → line ≡ line_open table ++ (values_of table row ++ codes ");")
unfolding line_of
line_is table row line is =
    append_cancel_right line (line_open table ++ (values_of table row ++ codes ");")) (10 ∷ []) (is.spelled
    ∙ append_assoc (line_open table) (values_of table row) line_close
    ∙ ap (λ (t : List ℕ). line_open table ++ t) (sym (append_assoc (values_of table row) (codes ");") (10 ∷ [])))
    ∙ sym (append_assoc (line_open table) (values_of table row ++ codes ");") (10 ∷ [])))

is_line : (table : TableDef) (row : List Value) (line text : List ℕ)
    → line ≡ line_open table ++ (text ++ codes ");") → IsColumnsText table.columns row text → IsLineOf table row line
unfolding line_of
is_line table row line text is has = record {
  is_row = has.fits;
  spelled = ap (λ (t : List ℕ). t ++ 10 ∷ []) is
      ∙ append_assoc (line_open table) (text ++ codes ");") (10 ∷ [])
      ∙ ap (λ (t : List ℕ). line_open table ++ t) (append_assoc text (codes ");") (10 ∷ [])
      ∙ ap (λ (t : List ℕ). t ++ line_close) has.spelled)
      ∙ sym (append_assoc (line_open table) (values_of table row) line_close);
}

pub row_found : (table : TableDef) (line text : List ℕ) (r : Result (List Value) RowError)
    → line ≡ line_open table ++ (text ++ codes ");") → FindsValues table.columns text r → FindsRow table line r
row_found table line text (Ok row) is has = is_line table row line text is has
row_found table line text (Err Refused) is none = λ row has.
    none row (record {
      fits = has.is_row;
      spelled = append_cancel_right text (values_of table row) (codes ");")
          (append_cancel_left (line_open table) (text ++ codes ");") (values_of table row ++ codes ");")
          (sym is ∙ line_is table row line has));
    })
row_found table line text (Err Memory) is has = tt
