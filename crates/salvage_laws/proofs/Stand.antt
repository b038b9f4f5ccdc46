-- The rows that are saved are records that stand.
use Rattle.std.proofs.Common.{◌≡◌, ◌≢◌, ℕ, ◌<◌, Bool, true, List, length, map, take, AllPairs}
use Rattle.std.proofs.Common.{Contains, Some, sym, ap, ◌∙◌, subst, arith}
use Rattle.std.specs.List.{slice_get}
use Rattle.std.proofs.lemmas.List.{length-map, get_or-map}
use Rattle.std.proofs.lemmas.Option.{get_or_from_slice_get}
use Rattle.page_source.specs.Pages.{page_of}
use Rattle.page_source.specs.Lists.{AreDistinct}
use Rattle.page_source.proofs.Members.{distinct_filter, range_distinct}
use Rattle.page_source.proofs.Lists.{contains_map}
use Rattle.space_audit.specs.Marks.{is_in, seen}
use Rattle.salvage_model.specs.Judged.{losses_in}
use Rattle.salvage_model.specs.SavedRow.{is_whole_row}
use Rattle.salvage_model.specs.SavedLine.{saved_line}
use Rattle.salvage_model.specs.RowLaws.{WholeLinesAreLines, WholeRowsAreRead}
use Rattle.salvage_model.specs.Records.{first_place, list_length, is_place_of, places_of}
use Rattle.salvage_model.specs.Outcome.{Job, SavedRow, Outcome, Unused, Leaf, row_at_place, looked_of_rows}
use Rattle.salvage_model.specs.Outcome.{looked_of_pages, IsSavedRow, AreSavedRows, ComesOf}
use Rattle.salvage_model.specs.Saved.{AreFirst}
use Rattle.salvage_model.specs.Laws.{IsWholeLine, RowsStand}
use Rattle.salvage_laws.proofs.Lists.{contains_take, distinct_take, place_below}

-- what comes of page n
pub comes : (job : Job) (outcomes : List Outcome) (n : ℕ) (outcome : Outcome) → AreFirst job outcomes
    → slice_get outcomes n ≡ Some outcome → ComesOf job n (is_in (looked_of_pages (take n outcomes))) outcome
comes job outcomes n outcome first at =
    subst (λ (o : Outcome). ComesOf job n (is_in (looked_of_pages (take n outcomes))) o)
    (get_or_from_slice_get outcomes n outcome Unused at)
    (first.each n Unused (place_below outcomes n outcome at))

module _ (job : Job) (n : ℕ) (taken : ℕ → Bool) (rows : List SavedRow) (are : AreSavedRows job n taken rows) where
  abbrev page : List ℕ
  page = page_of job.file n

  abbrev places : List ℕ
  places = places_of job.kind page

  pub row_place : (row : SavedRow) → Contains rows row → Contains places row.place
  row_place row among =
      contains_take (length rows) places row.place
      (subst (λ (l : List ℕ). Contains l row.place) are.places
      (contains_map (λ (r : SavedRow). r.place) rows row among))

  pub distinct_places : AreDistinct places
  unfolding places_of
  distinct_places =
      distinct_filter (is_place_of job.kind page) _
      (range_distinct (first_place job.kind page) (list_length job.kind page))

  pub places_differ : AllPairs (λ (a b : SavedRow). a.place ≢ b.place) rows
  places_differ i j d before below same =
      let place : SavedRow → ℕ = λ (r : SavedRow). r.place in
      let distinct : AreDistinct (map place rows) =
      subst AreDistinct (sym are.places) (distinct_take (length rows) places distinct_places) in
      distinct i j (place d) before (subst (λ (k : ℕ). j < k) (sym (length-map rows place)) below)
      (get_or-map place rows i d (place d) (omega (arith, before, below))
      ∙ same ∙ sym (get_or-map place rows j d (place d) below))

  pub saved_as : (row : SavedRow) (among : Contains rows row)
      → IsSavedRow job n (seen taken (looked_of_rows (take among.0 rows))) row
  saved_as row among =
      subst (λ (r : SavedRow). IsSavedRow job n (seen taken (looked_of_rows (take among.0 rows))) r) among.2
      (are.each among.0 row among.1)

whole_line : (lines : WholeLinesAreLines) (read : WholeRowsAreRead) (job : Job) (n : ℕ) (taken : ℕ → Bool)
    (row : SavedRow) → IsSavedRow job n taken row → is_whole_row (losses_in row.columns) ≡ true
    → IsWholeLine job n row
whole_line lines read job n taken row saved whole =
    let is = read job.file (row_at_place job n row.place).row (losses_in row.columns) row.row_values whole
    saved.saves in
    record {
      row_values = is.row_values;
      reads = is.reads;
      line = ap (saved_line job.table) is.same ∙ lines job.table is.row_values;
    }

pub rows_stand : WholeLinesAreLines → WholeRowsAreRead → (job : Job) (outcomes : List Outcome) → AreFirst job outcomes
    → RowsStand job outcomes
rows_stand lines read job outcomes first = record {
  stand = λ n row has.
      let is = comes job outcomes n (Leaf has.rows) first has.leaf in
      record {
        leaf = is.0.1;
        place = row_place job n _ has.rows is.1 row has.among;
        whole = λ whole. whole_line lines read job n _ row (saved_as job n _ has.rows is.1 row has.among) whole;
      };
  once = λ n rows at. places_differ job n _ rows (comes job outcomes n (Leaf rows) first at).1;
}
