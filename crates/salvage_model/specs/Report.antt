-- The lines of all that was lost, and the line of numbers after them.
use Rattle.std.specs.Prelude.{ℕ, ◌+◌, List, [], ◌++◌, flat_map, codes}
use Rattle.std.specs.List.{enumerate_from}
use Rattle.schema_text.specs.TableDef.{TableDef}
use Rattle.salvage_model.specs.Judged.{losses_in}
use Rattle.salvage_model.specs.Losses.{counted, unread_line, broken_line, row_losses}
use Rattle.salvage_model.specs.declared.saved.Saved.{Saved}
use Rattle.salvage_model.specs.Outcome.{SavedRow, Outcome, Unread, Lost, Leaf}
use Rattle.salvage_model.specs.Saved.{numbers_of}

-- what is lost of these rows of page n; a row is named by its place, counted from 1
unfoldable pub losses_of_rows : TableDef → ℕ → List SavedRow → List ℕ
losses_of_rows table n rows =
    flat_map (λ (r : SavedRow). row_losses table n (r.place + 1) (losses_in r.columns)) rows

-- what is lost of page n
abbrev pub losses_on : TableDef → ℕ → Outcome → List ℕ
losses_on table n Unread = unread_line n
losses_on table n (Lost rule) = broken_line n rule
losses_on table n (Leaf rows) = losses_of_rows table n rows
losses_on table n _ = []

-- what is lost of all pages
unfoldable pub losses_of : TableDef → List Outcome → List ℕ
losses_of table outcomes = flat_map (λ (p : ℕ × Outcome). losses_on table p.0 p.1) (enumerate_from 0 outcomes)

-- the line of numbers
abbrev pub numbers_line : Saved → List ℕ
numbers_line saved =
    counted (codes "rows=") saved.rows ++ counted (codes " partial=") saved.partial
    ++ counted (codes " leaves=") saved.leaves ++ counted (codes " lost=") saved.lost ++ codes "\n"

-- the whole report
abbrev pub report_of : TableDef → List Outcome → List ℕ
report_of table outcomes = losses_of table outcomes ++ numbers_line (numbers_of outcomes)
