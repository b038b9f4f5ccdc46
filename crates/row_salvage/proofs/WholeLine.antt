-- The line of a row of which nothing is lost.
use Rattle.std.proofs.Common.{◌≡◌, ℕ, true, List, [], length, flat_map, get_or}
use Rattle.std.proofs.Common.{Option, None, Result, Ok, Err, OnOk, refl, sym, ap, ◌∙◌, arith}
use Rattle.std.specs.List.{range_with_len}
use Rattle.std.proofs.Math.Path.{fun_ext}
use Rattle.column_values.specs.declared.value.Value.{Value}
use Rattle.page_source.specs.Objects.{GrowsBy}
use Rattle.row_text.specs.Line.{line_of}
use Rattle.sql_dump.specs.declared.stop.WriteStop.{WriteStop}
use Rattle.sql_dump.specs.Stops.{Writes}
use Rattle.sql_dump.specs.Buffer.{Moves}
use Rattle.sql_dump.specs.Cells.{RowView, CanReadRow, cell_of_column, pages_of_cell, pages_of_columns, pages_of_all}
use Rattle.sql_dump.proofs.Sends.{flushed_line}
use Rattle.sql_dump.proofs.SomeValues.{grows_none}
use Rattle.salvage_model.specs.declared.loss.Loss.{Loss}
use Rattle.salvage_model.specs.RowLaws.{WholeLinesAreLines, WholeRowsAreRead, IsReadWhole}
use Rattle.salvage_model.specs.SavedLine.{saved_line}
use Rattle.salvage_model.specs.SavedRow.{CanSave, is_whole_row, pages_unless, saved_pages}
use Rattle.salvage_model.proofs.WholeRows.{no_loss}

pub whole_pages : (file : List ℕ) (row : RowView) (losses : List (Option Loss)) → is_whole_row losses ≡ true
    → length (pages_of_all file row) ≡ length (saved_pages file row losses)
unfolding saved_pages pages_of_columns
whole_pages file row losses whole =
    let all : ℕ → List ℕ = λ c. pages_of_cell file (cell_of_column row c) in
    let kept : ℕ → List ℕ = λ c. pages_unless (get_or losses c None) (pages_of_cell file (cell_of_column row c)) in
    let same : all ≡ kept = fun_ext (λ (c : ℕ).
    ap (λ (l : Option Loss). pages_unless l (pages_of_cell file (cell_of_column row c))) (sym (no_loss losses c whole)))
    in
    ap (λ (f : ℕ → List ℕ). length (flat_map f (range_with_len 0 (length row.table.columns)))) same

pub whole_reads : WholeRowsAreRead → (file : List ℕ) (row : RowView) (losses : List (Option Loss)) (left : ℕ)
    → is_whole_row losses ≡ true → CanSave file row losses left → CanReadRow file row left
whole_reads law file row losses left whole can =
    let read = law file row losses can.row_values whole can.saves in
    record {
      row_values = read.row_values;
      reads = read.reads;
      few = omega (arith, whole_pages file row losses whole, can.few);
    }

pub whole_line : WholeLinesAreLines → (file : List ℕ) (row : RowView) (saved : List (Option Value))
    → (read : IsReadWhole file row saved) → line_of row.table read.row_values ≡ saved_line row.table saved
whole_line law file row saved read =
    sym (law row.table read.row_values) ∙ ap (saved_line row.table) (sym read.same)

-- a line after a buffer that was put
pub line_after : (o q r : Option (List ℕ)) (held now line : List ℕ) (result : Result (Unit {0}) WriteStop)
    → GrowsBy o q held → now ≡ [] → Writes result q r line → Moves result o r held now line
line_after o q r held now line result grown none writes =
    flushed_line o o q r held held held now line result
    (record { sent = []; grown = grows_none o; split = refl }) refl grown none writes

pub ok_more : {A E P Q : Type 0} (r : Result A E) → (P → Q) → OnOk r P → OnOk r Q
ok_more (Ok a) f p = f p
ok_more (Err e) f p = tt
