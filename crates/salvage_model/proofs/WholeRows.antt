-- A row of which nothing is lost.
use Rattle.std.proofs.Common.{◌≡◌, ℕ, zero, suc, ◌<◌, Bool, true, if◌then◌else◌, List, [], ◌∷◌, ◌++◌}
use Rattle.std.proofs.Common.{length, map, get_or, Option, Some, None, is_some, codes, refl, sym, ap, ◌∙◌, subst, arith}
use Rattle.std.specs.List.{zip, list_all, join_with_byte}
use Rattle.std.proofs.lemmas.Bool.{false≢true}
use Rattle.std.proofs.lemmas.List.{length-map}
use Rattle.column_values.specs.declared.value.Value.{Value}
use Rattle.column_values.specs.declared.value.Value.TheVariants.{Null}
use Rattle.schema_text.specs.declared.table.Column.{Column}
use Rattle.row_text.specs.Values.{value_text}
use Rattle.row_text.specs.Line.{comma, texts_of, joined_values, line_of}
use Rattle.row_text.specs.Writer.{line_open, line_close}
use Rattle.sql_dump.specs.Cells.{CellView, ReadsValue, cell_of_column}
use Rattle.salvage_model.specs.declared.loss.Loss.{Loss}
use Rattle.salvage_model.specs.SavedRow.{SavesValue, is_whole_row}
use Rattle.salvage_model.specs.SavedLine.{saved_text, saved_values, comment_open, saved_line}
use Rattle.salvage_model.specs.RowLaws.{WholeLinesAreLines, WholeRowsAreRead}

same_texts : (columns : List Column) (row : List Value)
    → map (λ (pair : Column × Option Value). saved_text (pair.0).kind pair.1) (zip columns (map Some row))
    ≡ texts_of columns row
same_texts [] row = refl
same_texts (c ∷ cs) [] = refl
same_texts (c ∷ cs) (v ∷ vs) = ap (λ (texts : List (List ℕ)). value_text c.kind v ∷ texts) (same_texts cs vs)

all_there : (row : List Value) → list_all is_some (map Some row) ≡ true
all_there [] = refl
all_there (v ∷ vs) = all_there vs

pub whole_lines : WholeLinesAreLines
unfolding saved_line line_of
whole_lines table row =
    let no_comment : comment_open (map Some row) ≡ [] =
    ap (λ (whole : Bool). if whole then [] else codes "-- ") (all_there row) in
    let inner : saved_values table.columns (map Some row) ≡ joined_values table.columns row =
    ap (λ (texts : List (List ℕ)). join_with_byte comma texts) (same_texts table.columns row) in
    ap (λ (front : List ℕ). front ++ line_open table ++ saved_values table.columns (map Some row) ++ line_close)
    no_comment
    ∙ ap (λ (inside : List ℕ). line_open table ++ inside ++ line_close) inner

-- a value, null where none was saved
abbrev plain : Option Value → Value
plain None = Null
plain (Some value) = value

some_again : (saved : List (Option Value)) → ((c : ℕ) → c < length saved → is_some (get_or saved c None) ≡ true)
    → saved ≡ map Some (map plain saved)
some_again [] each = refl
some_again (None ∷ rest) each = absurd (false≢true (each 0 (omega arith)))
some_again (Some v ∷ rest) each =
    ap (λ (values : List (Option Value)). Some v ∷ values)
    (some_again rest (λ c below. each (suc c) (omega (arith, below))))

pub no_loss : (losses : List (Option Loss)) (c : ℕ) → is_whole_row losses ≡ true → get_or losses c None ≡ None
no_loss [] c whole = refl
no_loss (None ∷ rest) zero whole = refl
no_loss (None ∷ rest) (suc c) whole = no_loss rest c whole
no_loss (Some loss ∷ rest) c whole = absurd (false≢true whole)

saved_there : (file : List ℕ) (cell : CellView) (loss : Option Loss) (value : Option Value) → loss ≡ None
    → SavesValue file cell loss value → is_some value ≡ true
saved_there file cell None (Some value) none saves = refl
saved_there file cell None None none saves = absurd saves
saved_there file cell (Some loss) value none saves = cc

saved_reads : (file : List ℕ) (cell : CellView) (loss : Option Loss) (value : Option Value) → loss ≡ None
    → SavesValue file cell loss value → ReadsValue file cell (plain value)
saved_reads file cell None (Some value) none saves = saves
saved_reads file cell None None none saves = absurd saves
saved_reads file cell (Some loss) value none saves = cc

plain_at : (saved : List (Option Value)) (c : ℕ) → get_or (map plain saved) c Null ≡ plain (get_or saved c None)
plain_at [] c = refl
plain_at (v ∷ rest) zero = refl
plain_at (v ∷ rest) (suc c) = plain_at rest c

pub whole_rows : WholeRowsAreRead
whole_rows file row losses saved whole saves = record {
  row_values = map plain saved;
  same = some_again saved (λ c below.
      saved_there file (cell_of_column row c) (get_or losses c None) (get_or saved c None) (no_loss losses c whole)
      (saves.each c (subst (λ (n : ℕ). c < n) saves.count below)));
  reads = record {
    count = length-map saved plain ∙ saves.count;
    each = λ c below. subst (λ (v : Value). ReadsValue file (cell_of_column row c) v) (sym (plain_at saved c))
        (saved_reads file (cell_of_column row c) (get_or losses c None) (get_or saved c None) (no_loss losses c whole)
        (saves.each c below));
  };
}
