-- The line of a row that is written value after value.
use Rattle.std.proofs.Common.{◌≡◌, ℕ, zero, suc, ◌+◌, ◌<◌, List, ◌++◌, length, get_or, sym, ap, ◌∙◌, subst, arith}
use Rattle.std.proofs.Common.{append_assoc}
use Rattle.std.proofs.lemmas.List.{get_or_read}
use Rattle.column_values.specs.declared.value.Value.{Value}
use Rattle.column_values.specs.declared.value.Value.TheVariants.{Null}
use Rattle.schema_text.specs.declared.table.Column.{Column}
use Rattle.schema_text.specs.TableDef.{TableDef, column_at}
use Rattle.row_text.specs.Values.{value_text}
use Rattle.row_text.specs.Line.{IsTableRow, FitsColumn, line_of}
use Rattle.row_text.specs.Writer.{line_close, before_value}
use Rattle.row_text.specs.Laws.{line_up_to, text_at}
use Rattle.row_text.proofs.Lines.{line_goes_on, line_closes}
use Rattle.row_text.proofs.Reading.{row_size, fits_at}

-- what follows the first k values
pub record RestOf (table : TableDef) (row : List Value) (k : ℕ) : Type 0 where
  pub rest : List ℕ
  pub whole : line_of table row ≡ line_up_to table row k ++ rest

pub rest_from : (table : TableDef) (row : List Value) (n k : ℕ) → IsTableRow table row → k + n ≡ length row
    → RestOf table row k
rest_from table row zero k fits e =
    let all : k ≡ length row = omega (arith, e) in record {
      rest = line_close;
      whole = sym (line_closes table row fits) ∙ ap (λ (j : ℕ). line_up_to table row j ++ line_close) (sym all);
    }
rest_from table row (suc n) k fits e =
    let more = rest_from table row n (k + 1) fits (omega (arith, e)) in
    let piece : List ℕ = before_value k ++ text_at table row k in record {
      rest = piece ++ more.rest;
      whole = more.whole
          ∙ ap (λ (t : List ℕ). t ++ more.rest) (line_goes_on table row k fits (omega (arith, e)))
          ∙ append_assoc (line_up_to table row k) piece more.rest;
    }

-- what follows the value k
pub record RestBehind (table : TableDef) (row : List Value) (k : ℕ) : Type 0 where
  pub rest : List ℕ
  pub whole : line_of table row ≡ line_up_to table row k ++ ((before_value k ++ text_at table row k) ++ rest)

pub rest_behind : (table : TableDef) (row : List Value) (k left : ℕ) → IsTableRow table row → k + suc left ≡ length row
    → RestBehind table row k
rest_behind table row k left fits e =
    let more = rest_from table row left (k + 1) fits (omega (arith, e)) in
    let piece : List ℕ = before_value k ++ text_at table row k in record {
      rest = more.rest;
      whole = more.whole
          ∙ ap (λ (t : List ℕ). t ++ more.rest) (line_goes_on table row k fits (omega (arith, e)))
          ∙ append_assoc (line_up_to table row k) piece more.rest;
    }

-- the column and the value at a place
pub record IsPair (table : TableDef) (row : List Value) (k : ℕ) (column : Column) (value : Value) : Type 0 where
  pub column_is : column ≡ column_at table k
  pub value_is : value ≡ get_or row k Null
  pub within : k < length table.columns

pub pair_at : (table : TableDef) (row vals : List Value) (cols : List Column) (k : ℕ) (column : Column) (value : Value)
    → IsTableRow table row → cols ≡ table.columns → vals ≡ row → k < length vals → column ≡ get_or cols k column
    → value ≡ get_or vals k value → IsPair table row k column value
pair_at table row vals cols k column value fits whole same lt is_column is_value =
    let size = row_size table.columns row fits in
    let long : length vals ≡ length row = ap length same in
    let within : k < length table.columns = omega (arith, size, long, lt) in record {
      column_is = get_or_read table.columns k column within (is_column
          ∙ ap (λ (cs : List Column). get_or cs k column) whole) _;
      value_is = get_or_read row k value (omega (arith, long, lt)) (is_value
          ∙ ap (λ (vs : List Value). get_or vs k value) same) Null;
      within = within;
    }

pub pair_fits : (table : TableDef) (row : List Value) (k : ℕ) (column : Column) (value : Value) → IsTableRow table row
    → IsPair table row k column value → FitsColumn column value
pair_fits table row k column value fits is =
    subst (λ (v : Value). FitsColumn column v) (sym is.value_is)
    (subst (λ (c : Column). FitsColumn c (get_or row k Null))
    (sym is.column_is) (fits_at table.columns row k _ Null fits is.within))

pub pair_text : (table : TableDef) (row : List Value) (k : ℕ) (column : Column) (value : Value)
    → IsPair table row k column value → value_text column.kind value ≡ text_at table row k
pair_text table row k column value is =
    ap (λ (c : Column). value_text c.kind value) is.column_is ∙ ap (value_text (column_at table k).kind) is.value_is
