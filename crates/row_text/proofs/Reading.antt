-- One value more of a row or of a key.
use Rattle.std.proofs.Common.{◌≡◌, ℕ, zero, suc, ◌+◌, ◌<◌, ◌≤◌, List, [], ◌∷◌, ◌++◌, length, take, drop, get_or, Some}
use Rattle.std.proofs.Common.{refl, sym, ap, ◌∙◌, subst, arith, append_assoc}
use Rattle.std.specs.Prelude.{slice_get}
use Rattle.std.specs.List.{AllZip}
use Rattle.std.proofs.lemmas.List.{append-nil, append_cancel_left, take_more, drop-drop, length_push, take_all}
use Rattle.std.proofs.lemmas.List.{length-drop}
use Rattle.std.proofs.lemmas.Option.{slice_get_within, get_or_from_slice_get}
use Rattle.column_values.specs.declared.value.Value.{Value}
use Rattle.column_values.specs.declared.value.Value.TheVariants.{Null}
use Rattle.column_values.specs.Types.{IsColumnType}
use Rattle.schema_text.specs.declared.table.Column.{Column}
use Rattle.row_text.specs.Values.{value_text}
use Rattle.row_text.specs.Line.{FitsColumn, comma, joined_values}
use Rattle.row_text.specs.KeyText.{IsColumnsText}
use Rattle.row_text.specs.Writer.{before_value}
use Rattle.row_text.specs.calls.Values.{EndsValue, BeginsColumn}
use Rattle.row_text.specs.calls.Rows.{HasRead, IsNoText}
use Rattle.row_text.proofs.Columns.{one_column}
use Rattle.row_text.proofs.OneLine.{led_values, joined_led, ends_led}
use Rattle.row_text.proofs.Lines.{behind_value}

-- as many values as columns
pub row_size : (columns : List Column) (row : List Value) → AllZip FitsColumn columns row → length columns ≡ length row
row_size [] [] fits = refl
row_size [] (v ∷ row) fits = absurd fits
row_size (c ∷ columns) [] fits = absurd fits
row_size (c ∷ columns) (v ∷ row) fits = ap suc (row_size columns row fits.1)

pub fits_at : (columns : List Column) (row : List Value) (k : ℕ) (d : Column) (e : Value)
    → AllZip FitsColumn columns row
    → k < length columns → FitsColumn (get_or columns k d) (get_or row k e)
fits_at [] [] k d e fits lt = absurd (omega (arith, lt))
fits_at [] (v ∷ row) k d e fits lt = absurd fits
fits_at (c ∷ columns) [] k d e fits lt = absurd fits
fits_at (c ∷ columns) (v ∷ row) zero d e fits lt = fits.0
fits_at (c ∷ columns) (v ∷ row) (suc k) d e fits lt = fits_at columns row k d e fits.1 (omega (arith, lt))

-- one value more
fits_more : (columns : List Column) (values : List Value) (column : Column) (v : Value)
    → AllZip FitsColumn columns values → FitsColumn column v
    → AllZip FitsColumn (columns ++ column ∷ []) (values ++ v ∷ [])
fits_more [] [] column v fits more = (more, tt)
fits_more [] (w ∷ values) column v fits more = absurd fits
fits_more (c ∷ columns) [] column v fits more = absurd fits
fits_more (c ∷ columns) (w ∷ values) column v fits more = (fits.0, fits_more columns values column v fits.1 more)

led_more : (columns : List Column) (values : List Value) (column : Column) (v : Value)
    → AllZip FitsColumn columns values
    → led_values (columns ++ column ∷ []) (values ++ v ∷ [])
    ≡ led_values columns values ++ comma ∷ value_text column.kind v
led_more [] [] column v fits = ap (λ (t : List ℕ). comma ∷ t) (append-nil (value_text column.kind v))
led_more [] (w ∷ values) column v fits = absurd fits
led_more (c ∷ columns) [] column v fits = absurd fits
led_more (c ∷ columns) (w ∷ values) column v fits =
    ap (λ (t : List ℕ). comma ∷ (value_text c.kind w ++ t)) (led_more columns values column v fits.1)
    ∙ ap (λ (t : List ℕ). comma ∷ t) (sym (append_assoc (value_text c.kind w) (led_values columns values)
    (comma ∷ value_text column.kind v)))

joined_more : (columns : List Column) (values : List Value) (column : Column) (v : Value)
    → AllZip FitsColumn columns values → joined_values (columns ++ column ∷ []) (values ++ v ∷ [])
    ≡ joined_values columns values ++ (before_value (length values) ++ value_text column.kind v)
joined_more [] [] column v fits = refl
joined_more [] (w ∷ values) column v fits = absurd fits
joined_more (c ∷ columns) [] column v fits = absurd fits
joined_more (c ∷ columns) (w ∷ values) column v fits =
    joined_led c (columns ++ column ∷ []) w (values ++ v ∷ [])
    ∙ ap (λ (t : List ℕ). value_text c.kind w ++ t) (led_more columns values column v fits.1)
    ∙ sym (append_assoc (value_text c.kind w) (led_values columns values) (comma ∷ value_text column.kind v))
    ∙ ap (λ (t : List ℕ). t ++ comma ∷ value_text column.kind v) (sym (joined_led c columns w values))
    ∙ ap (λ (t : List ℕ). joined_values (c ∷ columns) (w ∷ values) ++ (t ++ value_text column.kind v))
    (sym (behind_value (length values)))

-- the texts up to a value, that value's, and those behind it
led_split : (columns : List Column) (row : List Value) (k : ℕ) (d : Column) → AllZip FitsColumn columns row
    → k < length columns → led_values columns row ≡ led_values (take k columns) (take k row)
    ++ comma ∷ (value_text (get_or columns k d).kind (get_or row k Null)
    ++ led_values (drop (suc k) columns) (drop (suc k) row))
led_split [] [] k d fits lt = absurd (omega (arith, lt))
led_split [] (v ∷ row) k d fits lt = absurd fits
led_split (c ∷ columns) [] k d fits lt = absurd fits
led_split (c ∷ columns) (v ∷ row) zero d fits lt = refl
led_split (c ∷ columns) (v ∷ row) (suc k) d fits lt =
    ap (λ (t : List ℕ). comma ∷ (value_text c.kind v ++ t)) (led_split columns row k d fits.1 (omega (arith, lt)))
    ∙ ap (λ (t : List ℕ). comma ∷ t) (sym (append_assoc (value_text c.kind v) (led_values (take k columns) (take k row))
    (comma ∷ (value_text (get_or columns k d).kind (get_or row k Null)
    ++ led_values (drop (suc k) columns) (drop (suc k) row)))))

joined_split : (columns : List Column) (row : List Value) (k : ℕ) (d : Column) → AllZip FitsColumn columns row
    → k < length columns → joined_values columns row ≡ joined_values (take k columns) (take k row)
    ++ (before_value k ++ (value_text (get_or columns k d).kind (get_or row k Null)
    ++ led_values (drop (suc k) columns) (drop (suc k) row)))
joined_split [] [] k d fits lt = absurd (omega (arith, lt))
joined_split [] (v ∷ row) k d fits lt = absurd fits
joined_split (c ∷ columns) [] k d fits lt = absurd fits
joined_split (c ∷ columns) (v ∷ row) zero d fits lt = joined_led c columns v row
joined_split (c ∷ columns) (v ∷ row) (suc k) d fits lt =
    let rest : List ℕ = value_text (get_or columns k d).kind (get_or row k Null)
    ++ led_values (drop (suc k) columns) (drop (suc k) row) in
    joined_led c columns v row
    ∙ ap (λ (t : List ℕ). value_text c.kind v ++ t) (led_split columns row k d fits.1 (omega (arith, lt)))
    ∙ sym (append_assoc (value_text c.kind v) (led_values (take k columns) (take k row)) (comma ∷ rest))
    ∙ ap (λ (t : List ℕ). t ++ comma ∷ rest) (sym (joined_led c (take k columns) v (take k row)))
    ∙ ap (λ (t : List ℕ). joined_values (c ∷ take k columns) (v ∷ take k row) ++ (t ++ rest)) (sym (behind_value k))

-- where a row with this text has its next value
pub record NextIs (column : Column) (text : List ℕ) (values row : List Value) (at : ℕ) : Type 0 where
  pub more : List ℕ
  pub fits : FitsColumn column (get_or row (length values) Null)
  pub there : drop at text ≡ before_value (length values)
      ++ (value_text column.kind (get_or row (length values) Null) ++ more)
  pub ends : EndsValue more

next_is : (columns : List Column) (column : Column) (text : List ℕ) (values row : List Value) (at : ℕ)
    → slice_get columns (length values) ≡ Some column → HasRead columns text values at → IsColumnsText columns row text
    → NextIs column text values row at
next_is columns column text values row at is read has =
    let k : ℕ = length values in
    let lt : k < length columns = slice_get_within columns k column is in
    let here : get_or columns k column ≡ column = get_or_from_slice_get columns k column column is in
    let more : List ℕ = led_values (drop (suc k) columns) (drop (suc k) row) in
    let split = joined_split columns row k column has.fits lt in
    let rest : List ℕ = before_value k ++ (value_text (get_or columns k column).kind (get_or row k Null) ++ more) in
    let same : joined_values (take k columns) values ++ drop at text ≡ joined_values (take k columns) values ++ rest =
    sym read.spelled ∙ has.spelled ∙ split
    ∙ ap (λ (v : List Value). joined_values (take k columns) v ++ rest) (read.only row has) in
    let there = append_cancel_left (joined_values (take k columns) values) (drop at text) rest same in
    record {
      more = more;
      fits = subst (λ (c : Column). FitsColumn c (get_or row k Null)) here
          (fits_at columns row k column Null has.fits lt);
      there = there ∙ ap (λ (c : Column). before_value k ++ (value_text c.kind (get_or row k Null) ++ more)) here;
      ends = subst EndsValue (append-nil more) (ends_led (drop (suc k) columns) (drop (suc k) row) [] tt);
    }

-- the value at that place is the row's
row_value : (columns : List Column) (column : Column) (text rest : List ℕ) (values row : List Value) (at place : ℕ)
    (v : Value) → IsColumnType column.kind → slice_get columns (length values) ≡ Some column
    → HasRead columns text values at → drop at text ≡ before_value (length values) ++ drop place text
    → BeginsColumn column v (drop place text) rest → IsColumnsText columns row text
    → get_or row (length values) Null ≡ v
row_value columns column text rest values row at place v known is read led begins has =
    let next = next_is columns column text values row at is read has in
    let u : Value = get_or row (length values) Null in
    let same = append_cancel_left (before_value (length values)) (drop place text)
    (value_text column.kind u ++ next.more)
    (sym led ∙ next.there) in
    (one_column column u v next.more rest known next.fits begins.fits
    (sym same ∙ begins.spelled) next.ends begins.ends).0

pub next_found : (columns : List Column) (column : Column) (text : List ℕ) (values : List Value) (at place n : ℕ)
    (v : Value) → IsColumnType column.kind → slice_get columns (length values) ≡ Some column
    → HasRead columns text values at → drop at text ≡ before_value (length values) ++ drop place text
    → BeginsColumn column v (drop place text) (drop n (drop place text))
    → HasRead columns text (values ++ v ∷ []) (place + n)
next_found columns column text values at place n v known is read led begins =
    let k : ℕ = length values in
    let lt : k < length columns = slice_get_within columns k column is in
    let here : get_or columns k column ≡ column = get_or_from_slice_get columns k column column is in
    let size : length (values ++ v ∷ []) ≡ k + 1 = length_push values v in
    let front : take (k + 1) columns ≡ take k columns ++ column ∷ [] =
    take_more columns k column lt ∙ ap (λ (c : Column). take k columns ++ c ∷ []) here in
    let there : take (length (values ++ v ∷ [])) columns ≡ take k columns ++ column ∷ [] =
    ap (λ (m : ℕ). take m columns) size ∙ front in
    let joined = joined_more (take k columns) values column v read.fits in
    let text_v : List ℕ = value_text column.kind v in
    let rest : drop n (drop place text) ≡ drop (place + n) text = drop-drop n place text in
    let old : List ℕ = joined_values (take k columns) values in
    record {
      few = omega (arith, size, lt);
      fits = subst (λ (cs : List Column). AllZip FitsColumn cs (values ++ v ∷ [])) (sym there)
          (fits_more (take k columns) values column v read.fits begins.fits);
      spelled = read.spelled
          ∙ ap (λ (t : List ℕ). old ++ t) (led ∙ ap (λ (t : List ℕ). before_value k ++ t) (begins.spelled
          ∙ ap (λ (t : List ℕ). text_v ++ t) rest) ∙ sym (append_assoc (before_value k) text_v (drop (place + n) text)))
          ∙ sym (append_assoc old (before_value k ++ text_v) (drop (place + n) text))
          ∙ ap (λ (t : List ℕ). t ++ drop (place + n) text) (sym joined
          ∙ ap (λ (cs : List Column). joined_values cs (values ++ v ∷ [])) (sym there));
      only = λ row has.
          let same = row_value columns column text
          (drop n (drop place text)) values row at place v known is read led begins has in
          let within : k < length row = omega (arith, lt, row_size columns row has.fits) in
          ap (λ (m : ℕ). take m row) size ∙ take_more row k Null within
          ∙ ap (λ (front : List Value). front ++ get_or row k Null ∷ []) (read.only row has)
          ∙ ap (λ (w : Value). values ++ w ∷ []) same;
    }

-- no value stands there
pub next_none : (columns : List Column) (column : Column) (text : List ℕ) (values : List Value) (at place : ℕ)
    → slice_get columns (length values) ≡ Some column → HasRead columns text values at
    → drop at text ≡ before_value (length values) ++ drop place text
    → ((v : Value) (rest : List ℕ) → ¬ (BeginsColumn column v (drop place text) rest)) → IsNoText columns text
next_none columns column text values at place is read led none = λ row has.
    let next = next_is columns column text values row at is read has in
    let u : Value = get_or row (length values) Null in
    none u next.more (record {
      fits = next.fits;
      spelled = append_cancel_left (before_value (length values)) (drop place text)
          (value_text column.kind u ++ next.more) (sym led ∙ next.there);
      ends = next.ends;
    })

-- no comma stands there
pub next_unled : (columns : List Column) (column : Column) (text : List ℕ) (values : List Value) (at : ℕ)
    → slice_get columns (length values) ≡ Some column → HasRead columns text values at
    → ((rest : List ℕ) → drop at text ≡ before_value (length values) ++ rest → ⊥) → IsNoText columns text
next_unled columns column text values at is read none = λ row has.
    let next = next_is columns column text values row at is read has in none _ next.there

-- behind the last value nothing is left, or no values have the text
pub read_all : (columns : List Column) (text : List ℕ) (values : List Value) (at : ℕ) → HasRead columns text values at
    → length values ≡ length columns → drop at text ≡ [] → IsColumnsText columns values text
read_all columns text values at read whole ended =
    let all : take (length values) columns ≡ columns = take_all (length values) columns (omega (arith, whole)) in
    record {
      fits = subst (λ (cs : List Column). AllZip FitsColumn cs values) all read.fits;
      spelled = read.spelled ∙ ap (λ (t : List ℕ). joined_values (take (length values) columns) values ++ t) ended
          ∙ append-nil (joined_values (take (length values) columns) values)
          ∙ ap (λ (cs : List Column). joined_values cs values) all;
    }

pub read_over : (columns : List Column) (text : List ℕ) (values : List Value) (at : ℕ) → HasRead columns text values at
    → length values ≡ length columns → (drop at text ≡ [] → ⊥) → IsNoText columns text
read_over columns text values at read whole left = λ row has.
    let all : take (length values) columns ≡ columns = take_all (length values) columns (omega (arith, whole)) in
    let same : row ≡ values = sym (take_all (length values) row (omega (arith, whole, row_size columns row has.fits)))
    ∙ read.only row has in
    let both : joined_values columns values ++ drop at text ≡ joined_values columns values ++ [] =
    ap (λ (cs : List Column). joined_values cs values ++ drop at text) (sym all) ∙ sym read.spelled ∙ has.spelled
    ∙ ap (joined_values columns) same ∙ sym (append-nil (joined_values columns values)) in
    left (append_cancel_left (joined_values columns values) (drop at text) [] both)

pub some_left : (text : List ℕ) (at : ℕ) → at < length text → drop at text ≡ [] → ⊥
some_left text at lt none =
    let size : length (drop at text) ≡ 0 = ap length none in omega (arith, size, length-drop at text, lt)

-- so many values were read
pub record AreRead (columns : List Column) (text : List ℕ) (count : ℕ) (row : List Value) (at : ℕ) : Type 0 where
  pub read : HasRead columns text row at
  pub counted : length row ≡ count
  pub inside : at ≤ length text
