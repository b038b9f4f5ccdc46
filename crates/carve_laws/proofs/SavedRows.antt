-- What is saved of a leaf of one file is saved of it in another one that has the same pages of its values.
use Rattle.std.proofs.Common.{◌≡◌, ℕ, ◌<◌, Bool, List, length, map, take, get_or, None, sym, subst, arith}
use Rattle.page_source.specs.Pages.{page_of}
use Rattle.space_audit.specs.Marks.{seen}
use Rattle.schema_text.specs.TableDef.{TableDef}
use Rattle.sql_dump.specs.Cells.{RowOnLeaf, row_on, cell_of_column, pages_of_cell}
use Rattle.salvage_model.specs.declared.kind.RecordKind.TheVariants.{Live}
use Rattle.salvage_model.specs.Records.{origin_of, places_of}
use Rattle.salvage_model.specs.Judged.{Judged, AreJudged, losses_in, looked_in}
use Rattle.salvage_model.specs.SavedRow.{SavesRow}
use Rattle.salvage_model.specs.Outcome.{Job, SavedRow, row_at_place, looked_of_rows, IsSavedRow, AreSavedRows}
use Rattle.salvage_model.specs.Laws.{whole_job}
use Rattle.salvage_laws.proofs.Used.{all_fetched}
use Rattle.carve_laws.specs.Laws.{carved_job}
use Rattle.carve_laws.proofs.Moves.{AreSame, judged_moves, saves_move}

module _ (file carved : List ℕ) (table : TableDef) where
  abbrev job : Job
  job = whole_job file table

  abbrev there : Job
  there = carved_job file table carved

  -- nothing of a row of leaf n is lost, and the other file has the pages of its values
  pub record IsHeldRow (n : ℕ) (row : SavedRow) : Type 0 where
    pub none : (c : ℕ) → c < length row.columns → (d : Judged) → (get_or row.columns c d).loss ≡ None
    pub same : (c : ℕ) → c < length table.columns
        → AreSame file carved (pages_of_cell file (cell_of_column (row_at_place job n row.place).row c))

  row_moves : (n : ℕ) (taken : ℕ → Bool) (row : SavedRow) → page_of carved n ≡ page_of file n → IsHeldRow n row
      → IsSavedRow job n taken row → IsSavedRow there n taken row
  row_moves n taken row bytes held h =
      let on : List ℕ → RowOnLeaf =
      λ (page : List ℕ). record { row = row_on table page (origin_of Live page row.place); leaf = n } in
      let here = on (page_of file n) in
      record {
        columns = subst (λ (page : List ℕ). AreJudged carved all_fetched (on page) taken row.columns) (sym bytes)
            (record {
              all = h.columns.all;
              each = λ c d below.
                  let within : c < length table.columns = omega (arith, below, h.columns.all) in
                  judged_moves file carved n (cell_of_column here.row c)
                  (seen taken (looked_in (take c row.columns))) (get_or row.columns c d) (held.none c below d)
                  (held.same c within) (h.columns.each c d below);
            });
        saves = subst (λ (page : List ℕ). SavesRow carved (on page).row (losses_in row.columns) row.row_values)
            (sym bytes)
            (record {
              count = h.saves.count;
              each = λ c below.
                  saves_move file carved (cell_of_column here.row c) (get_or (losses_in row.columns) c None)
                  (get_or row.row_values c None) (held.same c below) (h.saves.each c below);
            });
      }

  pub rows_move : (n : ℕ) (taken : ℕ → Bool) (rows : List SavedRow) → page_of carved n ≡ page_of file n
      → ((k : ℕ) → k < length rows → (d : SavedRow) → IsHeldRow n (get_or rows k d))
      → AreSavedRows job n taken rows → AreSavedRows there n taken rows
  rows_move n taken rows bytes held h = record {
    places = subst
        (λ (page : List ℕ). map (λ (r : SavedRow). r.place) rows ≡ take (length rows) (places_of Live page))
        (sym bytes) h.places;
    each = λ k d below.
        row_moves n (seen taken (looked_of_rows (take k rows))) (get_or rows k d) bytes (held k below d)
        (h.each k d below);
  }
