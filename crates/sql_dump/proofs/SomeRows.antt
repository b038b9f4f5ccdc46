-- The lines of some rows, piece by piece, of a file that may not tell its bytes.
use Rattle.std.proofs.Common.{◌≡◌, ℕ, ◌+◌, ◌<◌, List, [], ◌∷◌, ◌++◌, length, All, flat_map, take, Option, Some, None}
use Rattle.std.proofs.Common.{Result, Ok, Err, OnOk, true, false, unwrap_or, refl, sym, ap, ◌∙◌, subst, arith}
use Rattle.std.proofs.Common.{append_assoc, length-append}
use Rattle.std.proofs.Math.Seq.{take-append_seam}
use Rattle.std.proofs.lemmas.List.{append-nil, take_more, take_all, length-take-le}
use Rattle.std.proofs.lemmas.List.Concat.{flat_map-append}
use Rattle.std.proofs.lemmas.List.Elements.{All-nil, All-push}
use Rattle.page_source.specs.Objects.{GrowsBy, GrowsByPart}
use Rattle.page_source.proofs.Texts.{grows_on}
use Rattle.column_values.specs.declared.kind.ColumnType.{ColumnType}
use Rattle.column_values.specs.declared.value.Value.{Value}
use Rattle.schema_text.specs.declared.table.Column.{Column}
use Rattle.schema_text.specs.TableDef.{TableDef, column_at}
use Rattle.row_text.specs.Line.{joined_values, line_of, text_of}
use Rattle.row_text.specs.Values.{value_text}
use Rattle.row_text.specs.Writer.{line_open, line_close, before_value}
use Rattle.sql_dump.specs.declared.stop.WriteStop.{WriteStop}
use Rattle.sql_dump.specs.Buffer.{IsSent}
use Rattle.sql_dump.specs.SomeRows.{IsFull, Grows, PutsSomeRow, KeepsSomeRow, MovesSomeRow, GrowsByRows}
use Rattle.sql_dump.proofs.RowLines.{joined_more}
use Rattle.sql_dump.proofs.Sends.{sent_more, flushed_line, all_sent}
use Rattle.sql_dump.proofs.SomeValues.{grows_none, part_grows, grows_more}

-- a line up to its first c values
pub record SomeValues (table : TableDef) (old new : Option (List ℕ)) (c : ℕ) : Type 0 where
  pub row : List Value
  pub count : length row ≡ c
  pub grown : GrowsBy old new (line_open table ++ joined_values (take c table.columns) row)

pub row_begins : (table : TableDef) (a b : Option (List ℕ)) → GrowsBy a b (line_open table) → SomeValues table a b 0
row_begins table a b grown = record {
  row = [];
  count = refl;
  grown = subst (λ (t : List ℕ). GrowsBy a b t) (sym (append-nil (line_open table))) grown;
}

pub row_goes_on : (table : TableDef) (a b d : Option (List ℕ)) (c came : ℕ) (kind : ColumnType)
    → SomeValues table a b c → c < length table.columns → came ≡ c → kind ≡ (column_at table c).kind
    → (value : Value) × GrowsBy b d (before_value came ++ value_text kind value) → SomeValues table a d (c + 1)
row_goes_on table a b d c came kind so within came_is kind_is next =
    let columns = table.columns in
    let front = take c columns in
    let size : length front ≡ length so.row =
    omega (arith, length-take-le c columns (omega (arith, within)), so.count) in
    let more : joined_values (take (c + 1) columns) (so.row ++ next.0 ∷ [])
    ≡ joined_values front so.row ++ (before_value came ++ value_text kind next.0) =
    ap (λ (cs : List Column). joined_values cs (so.row ++ next.0 ∷ [])) (take_more columns c _ within)
    ∙ joined_more front so.row (column_at table c) next.0 size
    ∙ ap (λ n. joined_values front so.row ++ (before_value n ++ value_text (column_at table c).kind next.0))
    (so.count ∙ sym came_is)
    ∙ ap (λ (k : ColumnType). joined_values front so.row ++ (before_value came ++ value_text k next.0)) (sym kind_is) in
    let whole = grows_on a b d (line_open table ++ joined_values front so.row)
    (before_value came ++ value_text kind next.0) so.grown next.1 in
    record {
      row = so.row ++ next.0 ∷ [];
      count = omega (arith, length-append so.row (next.0 ∷ []), so.count);
      grown =
          subst (λ (t : List ℕ). GrowsBy a d t)
          (append_assoc (line_open table) (joined_values front so.row) (before_value came ++ value_text kind next.0)
          ∙ ap (λ (t : List ℕ). line_open table ++ t) (sym more)) whole;
    }

-- the line broke off, or was closed
pub row_breaks : (table : TableDef) (a b : Option (List ℕ)) (c : ℕ) → SomeValues table a b c → Grows a b
row_breaks table a b c so =
    record { text = line_open table ++ joined_values (take c table.columns) so.row; grown = so.grown }

pub row_stops : (table : TableDef) (a b d : Option (List ℕ)) (c : ℕ) → SomeValues table a b c → Grows b d → Grows a d
row_stops table a b d c so next =
    grows_more a b d (line_open table ++ joined_values (take c table.columns) so.row) so.grown next

pub row_closes : (table : TableDef) (a b d : Option (List ℕ)) (c : ℕ) → SomeValues table a b c
    → c ≡ length table.columns → GrowsBy b d line_close
    → (row : List Value) × IsFull table row × GrowsBy a d (line_of table row)
unfolding line_of
row_closes table a b d c so last close =
    let all : take c table.columns ≡ table.columns = take_all c table.columns (omega (arith, last)) in
    let whole = grows_on a b d (line_open table ++ joined_values (take c table.columns) so.row) line_close so.grown
    close in (
      so.row,
      so.count ∙ last,
      subst (λ (cs : List Column). GrowsBy a d ((line_open table ++ joined_values cs so.row) ++ line_close)) all whole,
    )

-- a line behind what was held: in the buffer, or put behind it
pub moves_kept : (table : TableDef) (o p : Option (List ℕ)) (held kept now : List ℕ) → IsSent o p held kept
    → KeepsSomeRow table (Ok true) kept now → MovesSomeRow table o p held now
moves_kept table o p held kept now is keeps =
    let line = line_of table keeps.0 in
    record {
      row = keeps.0;
      full = keeps.1;
      sent = record {
        sent = is.sent;
        grown = is.grown;
        split = ap (λ (t : List ℕ). t ++ line) is.split ∙ append_assoc is.sent kept line
            ∙ ap (λ (t : List ℕ). is.sent ++ t) (sym keeps.2);
      };
    }

pub moves_flushed : (table : TableDef) (o p q r : Option (List ℕ)) (held kept same now : List ℕ)
    (result : Result (Unit {0}) WriteStop) → IsSent o p held kept → same ≡ kept → GrowsBy p q same → now ≡ []
    → PutsSomeRow table result q r → OnOk result (MovesSomeRow table o r held now)
moves_flushed table o p q r held kept same now (Ok u) is kept_is grown none puts = record {
  row = puts.0;
  full = puts.1;
  sent = flushed_line o p q r held kept same now (line_of table puts.0) (Ok u) is kept_is grown none puts.2;
}
moves_flushed table o p q r held kept same now (Err e) is kept_is grown none puts = tt

-- the lines of some rows, but for what is held, with so many rows to follow
pub record SomeSoFar (table : TableDef) (old now : Option (List ℕ)) (held : List ℕ) (all left : ℕ) : Type 0 where
  pub rows : List (List Value)
  pub full : All (IsFull table) rows
  pub sent : IsSent old now (flat_map (line_of table) rows) held
  pub left_is : length rows + left ≡ all

pub no_rows : (table : TableDef) (a : Option (List ℕ)) (held : List ℕ) (all left : ℕ) → held ≡ [] → left ≡ all
    → SomeSoFar table a a held all left
no_rows table a held all left none is = record {
  rows = [];
  full = All-nil (IsFull table);
  sent = record { sent = []; grown = grows_none a; split = sym none };
  left_is = omega (arith, is);
}

pub one_more : (table : TableDef) (a b c : Option (List ℕ)) (held now : List ℕ) (all left less : ℕ)
    → SomeSoFar table a b held all left → MovesSomeRow table b c held now → less + 1 ≡ left
    → SomeSoFar table a c now all less
one_more table a b c held now all left less so moves few =
    let line = line_of table in
    let step : flat_map line (so.rows ++ moves.row ∷ []) ≡ flat_map line so.rows ++ line moves.row =
    flat_map-append line so.rows (moves.row ∷ [])
    ∙ ap (λ (t : List ℕ). flat_map line so.rows ++ t) (append-nil (line moves.row)) in
    record {
      rows = so.rows ++ moves.row ∷ [];
      full = All-push (IsFull table) so.rows moves.row so.full moves.full;
      sent = rw step (sent_more a b c (flat_map line so.rows) held now (line moves.row) so.sent moves.sent);
      left_is = omega (arith, so.left_is, few, length-append so.rows (moves.row ∷ []));
    }

pub all_rows : (table : TableDef) (a b c : Option (List ℕ)) (held : List ℕ) (all left : ℕ)
    → SomeSoFar table a b held all left → left ≡ 0 → GrowsBy b c held → GrowsByRows table a c all
unfolding text_of
all_rows table a b c held all left so none flushed = record {
  rows = so.rows;
  number = omega (arith, so.left_is, none);
  full = so.full;
  grown = all_sent a b c (flat_map (line_of table) so.rows) held so.sent flushed;
}
