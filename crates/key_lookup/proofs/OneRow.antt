-- The line of a row that was put, of a file that may not tell its bytes.
use Rattle.std.proofs.Common.{ℕ, List, [], ◌∷◌, length, All, Option, Result, Ok, Err, OnOk, refl, sym, subst}
use Rattle.std.proofs.lemmas.List.{append-nil}
use Rattle.std.proofs.lemmas.List.Elements.{All-nil, All-push}
use Rattle.page_source.specs.Objects.{GrowsBy}
use Rattle.schema_text.specs.TableDef.{TableDef}
use Rattle.row_text.specs.Line.{line_of, text_of}
use Rattle.sql_dump.specs.declared.stop.WriteStop.{WriteStop}
use Rattle.sql_dump.specs.SomeRows.{IsFull, PutsSomeRow, GrowsByRows}

pub one_row : {A : Type 0} (table : TableDef) (old new : Option (List ℕ)) (result : Result A WriteStop)
    → PutsSomeRow table result old new → OnOk result (GrowsByRows table old new 1)
unfolding text_of
one_row table old new (Ok done) puts = record {
  rows = puts.0 ∷ [];
  number = refl;
  full = All-push (IsFull table) [] puts.0 (All-nil (IsFull table)) puts.1;
  grown = subst (λ (t : List ℕ). GrowsBy old new t) (sym (append-nil (line_of table puts.0))) puts.2;
}
one_row table old new (Err stop) puts = tt
