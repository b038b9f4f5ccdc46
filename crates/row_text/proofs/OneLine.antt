-- A row has one line, and a line is that of one row.
use Rattle.std.proofs.Common.{◌≡◌, ℕ, List, [], ◌∷◌, ◌++◌, length, inl, inr, get_or, Option, Some, None}
use Rattle.std.proofs.Common.{refl, sym, ap, ◌∙◌, subst, eqb, arith, append_assoc}
use Rattle.std.specs.Prelude.{All, slice_get, filter_map}
use Rattle.std.specs.List.{AllZip, cons_option}
use Rattle.std.specs.Fmt.{decimal}
use Rattle.std.proofs.lemmas.Bool.{cases_Bool, MatchBool-at_true, MatchBool-at_false}
use Rattle.std.proofs.lemmas.List.{append-nil, append_cancel_left, append_cancel_right}
use Rattle.std.proofs.lemmas.List.Elements.{All-nil, All-cons, All-head, All-tail, All-get_or}
use Rattle.std.proofs.lemmas.Option.{slice_get_within, get_or_from_slice_get}
use Rattle.column_values.specs.declared.value.Value.{Value}
use Rattle.column_values.specs.declared.value.Value.TheVariants.{Unsigned}
use Rattle.column_values.specs.Types.{IsColumnType}
use Rattle.schema_text.specs.declared.table.Column.{Column}
use Rattle.schema_text.specs.TableDef.{TableDef, clustered}
use Rattle.schema_text.specs.Grammar.{IsTable, line_feed}
use Rattle.schema_text.specs.IndexFields.{clustered_positions}
use Rattle.row_text.specs.Values.{value_text}
use Rattle.row_text.specs.Line.{FitsColumn, IsTableRow, comma, joined_values, values_of, line_of}
use Rattle.row_text.specs.KeyText.{key_columns, IsRowIdText, IsColumnsText}
use Rattle.row_text.specs.Writer.{line_open, line_close}
use Rattle.row_text.specs.calls.Values.{EndsValue}
use Rattle.row_text.specs.Laws.{HasOneLine, HasOneRow, BeginsNoOther, HasOneKeyText, HasOneKey}
use Rattle.row_text.proofs.OneNumber.{decimal_one}
use Rattle.row_text.proofs.Columns.{one_column}

abbrev pub IsKnown : Column → Type 0
IsKnown column = IsColumnType column.kind

-- the texts of values behind another one
abbrev pub led_values : List Column → List Value → List ℕ
led_values (c ∷ columns) (v ∷ row) = comma ∷ (value_text c.kind v ++ led_values columns row)
led_values [] row = []
led_values (c ∷ columns) [] = []

-- the texts of values are the first one, and the others behind it
pub joined_led : (c : Column) (columns : List Column) (v : Value) (row : List Value)
    → joined_values (c ∷ columns) (v ∷ row) ≡ value_text c.kind v ++ led_values columns row
joined_led c [] v row = sym (append-nil (value_text c.kind v))
joined_led c (d ∷ columns) v [] = sym (append-nil (value_text c.kind v))
joined_led c (d ∷ columns) v (w ∷ row) =
    ap (λ (t : List ℕ). value_text c.kind v ++ comma ∷ t) (joined_led d columns w row)

pub ends_led : (columns : List Column) (row : List Value) (rest : List ℕ) → EndsValue rest
    → EndsValue (led_values columns row ++ rest)
ends_led [] row rest ends = ends
ends_led (c ∷ columns) [] rest ends = ends
ends_led (c ∷ columns) (v ∷ row) rest ends = inl refl

-- values end where they end, and their text is that of no others
led_apart : (columns : List Column) (v w : List Value) (x y : List ℕ) → All IsKnown columns
    → AllZip FitsColumn columns v → AllZip FitsColumn columns w → led_values columns v ++ x ≡ led_values columns w ++ y
    → EndsValue x → EndsValue y → (v ≡ w) × (x ≡ y)
led_apart [] [] [] x y known a b e ex ey = (refl, e)
led_apart [] (p ∷ v) w x y known a b e ex ey = absurd a
led_apart [] [] (q ∷ w) x y known a b e ex ey = absurd b
led_apart (c ∷ columns) [] w x y known a b e ex ey = absurd a
led_apart (c ∷ columns) (p ∷ v) [] x y known a b e ex ey = absurd b
led_apart (c ∷ columns) (p ∷ v) (q ∷ w) x y known a b e ex ey =
    let f : (value_text c.kind p ++ led_values columns v) ++ x
    ≡ (value_text c.kind q ++ led_values columns w) ++ y = cc in
    let first = one_column c p q (led_values columns v ++ x) (led_values columns w ++ y)
    (All-head IsKnown c columns known) a.0 b.0
    (sym (append_assoc (value_text c.kind p) (led_values columns v) x) ∙ f
    ∙ append_assoc (value_text c.kind q) (led_values columns w) y)
    (ends_led columns v x ex) (ends_led columns w y ey) in
    let rest = led_apart columns v w x y (All-tail IsKnown c columns known) a.1 b.1 first.1 ex ey in
    (ap (λ (h : Value). h ∷ v) first.0 ∙ ap (λ (t : List Value). q ∷ t) rest.0, rest.1)

rows_apart : (columns : List Column) (v w : List Value) (x y : List ℕ) → All IsKnown columns
    → AllZip FitsColumn columns v → AllZip FitsColumn columns w
    → joined_values columns v ++ x ≡ joined_values columns w ++ y → EndsValue x → EndsValue y → (v ≡ w) × (x ≡ y)
rows_apart [] [] [] x y known a b e ex ey = (refl, e)
rows_apart [] (p ∷ v) w x y known a b e ex ey = absurd a
rows_apart [] [] (q ∷ w) x y known a b e ex ey = absurd b
rows_apart (c ∷ columns) [] w x y known a b e ex ey = absurd a
rows_apart (c ∷ columns) (p ∷ v) [] x y known a b e ex ey = absurd b
rows_apart (c ∷ columns) (p ∷ v) (q ∷ w) x y known a b e ex ey =
    led_apart (c ∷ columns) (p ∷ v) (q ∷ w) x y known a b
    (ap (λ (t : List ℕ). comma ∷ (t ++ x)) (sym (joined_led c columns p v)) ∙ ap (λ (t : List ℕ). comma ∷ t) e
    ∙ ap (λ (t : List ℕ). comma ∷ (t ++ y)) (joined_led c columns q w)) ex ey

pub has_one_line : HasOneLine
has_one_line table row a b one two = append_cancel_right a b (line_feed ∷ []) (one.spelled ∙ sym two.spelled)

-- the line of a row, from its values on
line_parts : (table : TableDef) (row : List Value) (x : List ℕ)
    → line_of table row ++ x ≡ line_open table ++ (values_of table row ++ (line_close ++ x))
unfolding line_of
line_parts table row x =
    append_assoc (line_open table ++ values_of table row) line_close x
    ∙ append_assoc (line_open table) (values_of table row) (line_close ++ x)

same_row : (table : TableDef) (v w : List Value) (x y : List ℕ) → IsTable table → IsTableRow table v
    → IsTableRow table w → line_of table v ++ x ≡ line_of table w ++ y → v ≡ w
same_row table v w x y is a b e =
    let values : values_of table v ++ (line_close ++ x) ≡ values_of table w ++ (line_close ++ y) =
    append_cancel_left (line_open table) (values_of table v ++ (line_close ++ x))
    (values_of table w ++ (line_close ++ y))
    (sym (line_parts table v x) ∙ e ∙ line_parts table w y) in
    (rows_apart table.columns v w (line_close ++ x) (line_close ++ y) is.kinds a b values (inr refl) (inr refl)).0

pub begins_no_other : BeginsNoOther
begins_no_other table v w x y is a b e = ap (line_of table) (same_row table v w x y is a b e)

pub has_one_row : HasOneRow
has_one_row table v w line is one two =
    same_row table v w [] [] is one.is_row two.is_row
    (ap (λ (t : List ℕ). t ++ []) (sym one.spelled ∙ two.spelled))

-- the columns of a key are columns of the table
known_at : (columns : List Column) (i : ℕ) (o : Option Column) (more : List Column) → All IsKnown columns
    → slice_get columns i ≡ o → All IsKnown more → All IsKnown (cons_option o more)
known_at columns i None more known is others = others
known_at columns i (Some c) more known is others =
    let here : get_or columns i c ≡ c = get_or_from_slice_get columns i c c is in
    All-cons IsKnown c more
    (subst IsKnown here (All-get_or IsKnown columns i c (slice_get_within columns i c is) known))
    others

known_columns : (columns : List Column) (places : List ℕ) → All IsKnown columns
    → All IsKnown (filter_map (slice_get columns) places)
known_columns columns [] known = All-nil IsKnown
known_columns columns (i ∷ places) known =
    known_at columns i (slice_get columns i) (filter_map (slice_get columns) places)
    known refl (known_columns columns places known)

known_key : (table : TableDef) → IsTable table → All IsKnown (key_columns table)
known_key table is = known_columns table.columns (clustered table).columns is.kinds

columns_text_one : (columns : List Column) (v w : List Value) (text : List ℕ) → All IsKnown columns
    → IsColumnsText columns v text → IsColumnsText columns w text → v ≡ w
columns_text_one columns v w text known a b =
    (rows_apart columns v w [] [] known a.fits b.fits (append-nil (joined_values columns v) ∙ sym a.spelled ∙ b.spelled
    ∙ sym (append-nil (joined_values columns w))) tt tt).0

id_text_one : (v w : List Value) (text : List ℕ) → IsRowIdText v text → IsRowIdText w text → v ≡ w
id_text_one v w text a b =
    let same = decimal_one a.id b.id (omega (arith, a.below)) (omega (arith, b.below)) (sym a.spelled ∙ b.spelled) in
    a.only ∙ ap (λ (n : ℕ). Unsigned n ∷ []) same ∙ sym b.only

pub has_one_key : HasOneKey
has_one_key table v w text is a b = elim (cases_Bool (eqb (length (clustered_positions table)) 0)) [
  | inl none ↦ id_text_one v w text
      (MatchBool-at_true (IsRowIdText v text) (IsColumnsText (key_columns table) v text) none a)
      (MatchBool-at_true (IsRowIdText w text) (IsColumnsText (key_columns table) w text) none b)
  | inr some ↦ columns_text_one (key_columns table) v w text (known_key table is)
      (MatchBool-at_false (IsRowIdText v text) (IsColumnsText (key_columns table) v text) some a)
      (MatchBool-at_false (IsRowIdText w text) (IsColumnsText (key_columns table) w text) some b)
]

pub has_one_key_text : HasOneKeyText
has_one_key_text table values a b one two = elim (cases_Bool (eqb (length (clustered_positions table)) 0)) [
  | inl none ↦
      let x = MatchBool-at_true (IsRowIdText values a) (IsColumnsText (key_columns table) values a) none one in
      let y = MatchBool-at_true (IsRowIdText values b) (IsColumnsText (key_columns table) values b) none two in
      let same : Unsigned x.id ∷ [] ≡ Unsigned y.id ∷ [] = sym x.only ∙ y.only in
      let ids : x.id ≡ y.id = cc in
      x.spelled ∙ ap decimal ids ∙ sym y.spelled
  | inr some ↦
      let x = MatchBool-at_false (IsRowIdText values a) (IsColumnsText (key_columns table) values a) some one in
      let y = MatchBool-at_false (IsRowIdText values b) (IsColumnsText (key_columns table) values b) some two in
      x.spelled ∙ sym y.spelled
]
