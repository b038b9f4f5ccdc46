-- One record of a leaf is saved, or breaks the work off.
use Rattle.std.proofs.Common.{◌≡◌, ◌≢◌, ℕ, ◌+◌, ◌<◌, ◌≤◌, Bool, true, false, cond, if◌then◌else◌, List, [], ◌∷◌}
use Rattle.std.proofs.Common.{◌++◌, length, Option, Some, None, IfSome, Result, Ok, Err, OnOk, OnErr, is_err, refl, sym}
use Rattle.std.proofs.Common.{ap, ◌∙◌}
use Rattle.std.proofs.Common.{subst, arith}
use Rattle.std.proofs.lemmas.List.{append-nil}
use Rattle.std.proofs.lemmas.Bool.{false≢true}
use Rattle.page_source.specs.Pages.{page_of}
use Rattle.page_source.specs.Objects.{GrowsByPart}
use Rattle.column_values.specs.declared.value.Value.{Value}
use Rattle.space_audit.specs.Marks.{is_in, is_set, seen, Marked}
use Rattle.tree_walk.proofs.Levels.{is_in-append}
use Rattle.schema_text.specs.TableDef.{TableDef}
use Rattle.sql_dump.specs.Cells.{RowOnLeaf, row_on}
use Rattle.sql_dump.specs.Buffer.{IsSent, Moves}
use Rattle.sql_dump.proofs.Sends.{moves_end}
use Rattle.sql_dump.specs.declared.stop.WriteStop.{WriteStop}
use Rattle.sql_dump.specs.declared.stop.WriteStop.TheVariants.{Broken, Source, Sink}
use Rattle.compact_record.specs.declared.places.Place.{Place}
use Rattle.compact_record.specs.Reading.{places_of}
use Rattle.schema_text.specs.IndexFields.{leaf_fields}
use Rattle.salvage_model.specs.Stops.{salvage_stop_of}
use Rattle.leaf_salvage.specs.Standing.{reach_of}
use Rattle.salvage_model.specs.declared.loss.Loss.{Loss}
use Rattle.salvage_model.specs.declared.saved.Saved.{Saved}
use Rattle.salvage_model.specs.Records.{first_place, list_length, origin_of, is_of, is_place_of}
use Rattle.salvage_model.specs.Judged.{Judged, AreJudged, losses_in, looked_in}
use Rattle.salvage_model.specs.SavedRow.{SavesRow, is_whole_row, saved_pages}
use Rattle.salvage_model.specs.SavedLine.{saved_line}
use Rattle.salvage_model.specs.Losses.{row_losses}
use Rattle.salvage_model.specs.Outcome.{Job, SavedRow, Outcome, Leaf, AreSavedRows, IsSavedRow}
use Rattle.salvage_model.specs.Outcome.{looked_of_rows, looked_of_pages, row_at_place}
use Rattle.salvage_model.specs.Saved.{AreFirst, text_of, line_of_row}
use Rattle.salvage_model.specs.LongRow.{EndsInLongRow}
use Rattle.salvage_model.specs.Report.{losses_of}
use Rattle.row_salvage.specs.Missed.{UnderMissed}
use Rattle.row_salvage.specs.Calls.{AnswersRow}
use Rattle.table_salvage.specs.Ready.{IsRecordOf}
use Rattle.table_salvage.specs.Heard.{HasGot, GetsNext}
use Rattle.table_salvage.specs.Work.{Work, Start, Progress, Met, AtRow, RowsDone, Broke, BrokeInRow, GoesOn}
use Rattle.table_salvage.proofs.MetPages.{met_on, met_parts, met_now}
use Rattle.table_salvage.proofs.Places.{places_more}
use Rattle.table_salvage.proofs.Firsts.{first_more, row_more}
use Rattle.table_salvage.proofs.Hearing.{got_on}
use Rattle.table_salvage.proofs.KeptTexts.{kept_row, looked_push, leaf_text_push, leaf_losses_push}

-- the record at a place of leaf n, whose columns were judged
pub record RowHere (job : Job) (n place : ℕ) (marks after : List Bool) (losses : List (Option Loss))
    (row_values : List (Option Value)) : Type 0 where
  pub row : RowOnLeaf
  pub row_is : row ≡ row_at_place job n place
  pub of : is_place_of job.kind (page_of job.file n) place ≡ true
  pub least : first_place job.kind (page_of job.file n) ≤ place
  pub most : place < first_place job.kind (page_of job.file n) + list_length job.kind (page_of job.file n)
  pub saves : SavesRow job.file row.row losses row_values
  pub answers : AnswersRow job.file job.missed_parts row marks after losses

-- of a job, after the records before it
abbrev pub Judges : Start → ℕ → ℕ → Progress → List Bool → List (Option Loss) → List (Option Value) → Job → Type 0
Judges start n place now after losses row_values job =
    AtRow start n place now job × RowHere job n place now.marks after losses row_values

-- the marks grow
grown : (file : List ℕ) (missed : ℕ → Bool) (row : RowOnLeaf) (marks after : List Bool) (losses : List (Option Loss))
    → AnswersRow file missed row marks after losses → (k : ℕ) → is_set marks k ≡ true → is_set after k ≡ true
grown file missed row marks after losses a k set =
    a.marked k ∙ ap (λ (b : Bool). cond b true (is_in (looked_in a.columns) k)) set

-- how far the work has come with these marks, and the faults that were counted till then
abbrev pub looked : Progress → List Bool → ℕ → Progress
looked now marks faults = record {
  known = now.known;
  marks = marks;
  saved = now.saved;
  held = now.held;
  written = now.written;
  unheard = now.unheard;
  faults = faults;
}

-- its columns were judged
pub judged : {work : Work} {start : Start} {n place : ℕ} {now : Progress} {after : List Bool} {faults : ℕ}
    {losses : List (Option Loss)} (row_values : List (Option Value)) (row : RowOnLeaf) (page : List ℕ) (origin : ℕ)
    → now.faults ≤ faults → page ≡ page_of work.file n → IsRecordOf work.kind page place origin
    → row ≡ record { row = row_on work.table page origin; leaf = n } → SavesRow work.file row.row losses row_values
    → UnderMissed now.marks after now.faults faults (λ missed. AnswersRow work.file missed row now.marks after losses)
    → RowsDone n place work start now
    → Met work start (n + 1) (looked now after faults) (Judges start n place now after losses row_values)
judged {work = work} {n = n} {place = place} {now = now} {after = after} {losses = losses} row_values row page origin
    least page_is found row_is saves under met =
    let here : IsRecordOf work.kind (page_of work.file n) place origin =
    subst (λ (p : List ℕ). IsRecordOf work.kind p place origin) page_is found in
    let row_at : row ≡ record {
      row = row_on work.table (page_of work.file n) (origin_of work.kind (page_of work.file n) place);
      leaf = n;
    } =
    row_is ∙ ap (λ (p : List ℕ). record { row = row_on work.table p origin; leaf = n }) page_is
    ∙ ap (λ (o : ℕ). record { row = row_on work.table (page_of work.file n) o; leaf = n }) here.at in
    let of : is_place_of work.kind (page_of work.file n) place ≡ true =
    ap (λ (o : ℕ). is_of work.kind (page_of work.file n) o) (sym here.at) ∙ here.of in
    met_parts (λ missed. AnswersRow work.file missed row now.marks after losses) least
    (λ missed a. grown work.file missed row now.marks after losses a)
    (λ pages parts so answers. (
      so,
      record {
        row = row;
        row_is = row_at;
        of = of;
        least = here.least;
        most = here.most;
        saves = saves;
        answers = answers;
      },
    ))
    under met

-- what was saved of it
abbrev pub row_of : ℕ → List Judged → List (Option Value) → SavedRow
row_of place columns row_values = record { place = place; columns = columns; row_values = row_values }

marks_are : (marks : List Bool) (xs : List Outcome) (rows : List SavedRow)
    → ((k : ℕ) → is_set marks k ≡ is_in (looked_of_pages (xs ++ Leaf rows ∷ [])) k)
    → (k : ℕ) → is_set marks k ≡ seen (is_in (looked_of_pages xs)) (looked_of_rows rows) k
marks_are marks xs rows marked k =
    marked k ∙ ap (λ (t : List ℕ). is_in t k) (looked_push xs (Leaf rows))
    ∙ is_in-append (looked_of_pages xs) (looked_of_rows rows) k

is_saved : {job : Job} {n place : ℕ} {marks after : List Bool} {losses : List (Option Loss)}
    {row_values : List (Option Value)} (here : RowHere job n place marks after losses row_values)
    → IsSavedRow job n (is_set marks) (row_of place here.answers.columns row_values)
is_saved {job = job} {n = n} {place = place} {marks = marks} {losses = losses} {row_values = row_values} here =
    let a = here.answers in
    record {
      columns =
          subst (λ (r : RowOnLeaf). AreJudged job.file job.missed_parts r
          (is_set marks) a.columns) here.row_is a.judged;
      saves =
          subst (λ (l : List (Option Loss)). SavesRow job.file (row_at_place job n place).row l row_values) a.are
          (subst (λ (r : RowOnLeaf). SavesRow job.file r.row losses row_values) here.row_is here.saves);
    }

-- the rows with it, and the outcomes
rows_with : {start : Start} {job : Job} {n place : ℕ} {now : Progress} {after : List Bool} {losses : List (Option Loss)}
    {row_values : List (Option Value)} (at : AtRow start n place now job)
    (here : RowHere job n place now.marks after losses row_values)
    → AreSavedRows job n (is_in (looked_of_pages at.outcomes))
    (at.rows ++ row_of place here.answers.columns row_values ∷ [])
rows_with {place = place} {now = now} {row_values = row_values} at here =
    row_more now.marks place (row_of place here.answers.columns row_values) at.are at.places here.of here.least
    here.most refl (marks_are now.marks at.outcomes at.rows at.kept.marked) (is_saved here)

abbrev pub outcomes_with : List Outcome → List SavedRow → SavedRow → List Outcome
outcomes_with xs rows row = xs ++ Leaf (rows ++ row ∷ []) ∷ []

first_with : {start : Start} {job : Job} {n place : ℕ} {now : Progress} {after : List Bool}
    {losses : List (Option Loss)} {row_values : List (Option Value)} → n < reach_of job.file
    → (at : AtRow start n place now job) → (here : RowHere job n place now.marks after losses row_values)
    → AreFirst job (outcomes_with at.outcomes at.rows (row_of place here.answers.columns row_values))
first_with {place = place} {row_values = row_values} below at here =
    first_more (Leaf (at.rows ++ row_of place here.answers.columns row_values ∷ [])) at.pages below
    (at.is_leaf, rows_with at here)

-- the numbers with a row that lost this
abbrev pub counted : Saved → List (Option Loss) → Saved
counted saved losses = record {
  rows = saved.rows + (if is_whole_row losses then 1 else 0);
  partial = saved.partial + (if is_whole_row losses then 0 else 1);
  leaves = saved.leaves;
  lost = saved.lost;
}

-- it was put
row_put : {start : Start} {job : Job} {n place : ℕ} {now next : Progress} {after : List Bool}
    {losses : List (Option Loss)} {row_values : List (Option Value)} → next.known ≡ now.known → next.marks ≡ after
    → next.saved ≡ counted now.saved losses
    → IsSent now.written.sink next.written.sink (now.held ++ saved_line job.table row_values) next.held
    → GetsNext now.unheard next.unheard now.written.losses next.written.losses
    (row_losses job.table n (place + 1) losses)
    → Judges start n place now after losses row_values job → AtRow start n (place + 1) next job
row_put {job = job} {n = n} {place = place} {now = now} {next = next} {row_values = row_values} known marks count sent
    report both =
    let at = both.0 in
    let here = both.1 in
    let a = here.answers in
    let row = row_of place a.columns row_values in
    record {
      knows = rw known at.knows;
      is_leaf = at.is_leaf;
      outcomes = at.outcomes;
      pages = at.pages;
      rows = at.rows ++ row ∷ [];
      are = rows_with at here;
      places = places_more job.kind (page_of job.file n) at.rows place row at.places here.least here.of refl;
      kept =
          kept_row at.outcomes at.rows row at.pages.all
          (subst (λ (m : List Bool). Marked (is_set now.marks) m (looked_in a.columns)) (sym marks) a.marked)
          (count ∙ ap (λ (l : List (Option Loss)). counted now.saved l) a.are) sent
          (subst (λ (l : List (Option Loss)). GetsNext now.unheard next.unheard now.written.losses next.written.losses
          (row_losses job.table n (place + 1) l)) a.are report) at.kept;
    }

-- of some first outcomes a prefix was written
pub record Part (start : Start) (now : Progress) (job : Job) : Type 0 where
  pub outcomes : List Outcome
  pub first : AreFirst job outcomes
  pub text : GrowsByPart start.written.sink now.written.sink (text_of job.table outcomes)
  pub report : HasGot now.unheard start.written.losses now.written.losses (losses_of job.table outcomes)

pub broke : {work : Work} {start : Start} {n : ℕ} {now : Progress} → Met work start n now (Part start now)
    → Broke work start now
broke met =
    let part = met_now met in
    record {
      missed = met.missed;
      cause = met.cause;
      outcomes = part.outcomes;
      are_first = part.first;
      text = part.text;
      report = part.report;
    }

-- its losses were reported, and its line wasn't put, or in part
row_cut : {start : Start} {job : Job} {n place : ℕ} {now next : Progress} {after : List Bool}
    {losses : List (Option Loss)} {row_values : List (Option Value)} → n < reach_of job.file
    → GrowsByPart now.written.sink next.written.sink (now.held ++ saved_line job.table row_values)
    → GetsNext now.unheard next.unheard now.written.losses next.written.losses
    (row_losses job.table n (place + 1) losses)
    → Judges start n place now after losses row_values job → Part start next job
row_cut {start = start} {job = job} {n = n} {place = place} {now = now} {next = next} {row_values = row_values} below
    cut report both =
    let at = both.0 in
    let here = both.1 in
    let a = here.answers in
    let row = row_of place a.columns row_values in
    let all = outcomes_with at.outcomes at.rows row in
    let before = at.outcomes ++ Leaf at.rows ∷ [] in
    let line = line_of_row job.table row in
    let here_lost = row_losses job.table (length at.outcomes) (place + 1) (losses_in a.columns) in
    let lost : GetsNext now.unheard next.unheard now.written.losses next.written.losses here_lost =
    subst (λ k. GetsNext now.unheard next.unheard now.written.losses next.written.losses
    (row_losses job.table k (place + 1) (losses_in a.columns))) (sym at.pages.all)
    (subst (λ (l : List (Option Loss)). GetsNext now.unheard next.unheard now.written.losses next.written.losses
    (row_losses job.table n (place + 1) l)) a.are report) in
    let ends : GrowsByPart start.written.sink next.written.sink (text_of job.table before ++ (line ++ [])) =
    moves_end start.written.sink now.written.sink next.written.sink (text_of job.table before) now.held [] line [] Sink
    at.kept.text cut in
    record {
      outcomes = all;
      first = first_with below at here;
      text =
          rw (leaf_text_push job.table at.outcomes at.rows row)
          (subst (λ (t : List ℕ). GrowsByPart start.written.sink next.written.sink (text_of job.table before ++ t))
          (append-nil line) ends);
      report =
          rw (leaf_losses_push job.table at.outcomes at.rows row)
          (got_on now.unheard next.unheard start.written.losses now.written.losses next.written.losses
          (losses_of job.table before) here_lost at.kept.report lost);
    }

-- values of the record at a place of leaf n that aren't lost go on in other pages
abbrev pub IsLongAt : Work → ℕ → ℕ → List (Option Loss) → Type 0
IsLongAt work n place losses =
    saved_pages work.file
    (row_on work.table (page_of work.file n) (origin_of work.kind (page_of work.file n) place)) losses
    ≢ []

none_or_some : (pages : List ℕ) → 0 < length pages → pages ≢ []
none_or_some [] some is = omega (arith, some)
none_or_some (p ∷ pages) some is = cc

-- the record in hand is such a one, if some pages are left to be read for its line
pub long_here : (work : Work) (n place : ℕ) (losses : List (Option Loss)) {left : ℕ} (row : RowOnLeaf) (page : List ℕ)
    (origin : ℕ) → page ≡ page_of work.file n → IsRecordOf work.kind page place origin
    → row ≡ record { row = row_on work.table page origin; leaf = n }
    → left ≡ length (saved_pages work.file row.row losses) → 0 < left → IsLongAt work n place losses
long_here work n place losses row page origin page_is found row_is count some =
    let here : IsRecordOf work.kind (page_of work.file n) place origin =
    subst (λ (p : List ℕ). IsRecordOf work.kind p place origin) page_is found in
    let long : saved_pages work.file row.row losses ≢ [] = none_or_some (saved_pages work.file row.row losses)
    (omega (arith, count, some)) in
    subst (λ (o : ℕ). saved_pages work.file (row_on work.table (page_of work.file n) o) losses ≢ []) here.at
    (subst (λ (p : List ℕ). saved_pages work.file (row_on work.table p origin) losses ≢ []) page_is
    (subst (λ (r : RowOnLeaf). saved_pages work.file r.row losses ≢ []) row_is long))

-- the last of some first outcomes ends in a long row
pub record PartInRow (start : Start) (now : Progress) (job : Job) : Type 0 where
  pub part : Part start now job
  pub ends : EndsInLongRow job part.outcomes

pub broke_in_row : {work : Work} {start : Start} {n : ℕ} {now : Progress} → Met work start n now (PartInRow start now)
    → BrokeInRow work start now
broke_in_row met =
    let in_row = met_now met in
    record {
      broke = record {
        missed = met.missed;
        cause = met.cause;
        outcomes = in_row.part.outcomes;
        are_first = in_row.part.first;
        text = in_row.part.text;
        report = in_row.part.report;
      };
      ends = in_row.ends;
    }

-- the same of a record that is long
row_cut_long : {start : Start} {job : Job} {n place : ℕ} {now next : Progress} {after : List Bool}
    {losses : List (Option Loss)} {row_values : List (Option Value)}
    → saved_pages job.file (row_at_place job n place).row losses ≢ [] → n < reach_of job.file
    → GrowsByPart now.written.sink next.written.sink (now.held ++ saved_line job.table row_values)
    → GetsNext now.unheard next.unheard now.written.losses next.written.losses
    (row_losses job.table n (place + 1) losses)
    → Judges start n place now after losses row_values job → PartInRow start next job
unfolding row_cut
row_cut_long {job = job} {n = n} {place = place} {row_values = row_values} long below cut report both =
    let at = both.0 in
    let a = both.1.answers in
    record {
      part = row_cut below cut report both;
      ends = record {
        before = at.outcomes;
        rows = at.rows;
        row = row_of place a.columns row_values;
        last = refl;
        long =
            subst (λ (k : ℕ). saved_pages job.file (row_at_place job k place).row (losses_in a.columns) ≢ [])
            (sym at.pages.all)
            (subst (λ (l : List (Option Loss)). saved_pages job.file (row_at_place job n place).row l ≢ []) a.are long);
      };
    }

-- the row that was read
pub row_read : {row : RowOnLeaf} {table found : TableDef} {places : List Place} {page : List ℕ} {n : ℕ} (origin : ℕ)
    → row ≡ record { row = record { table = found; page = page; places = places }; leaf = n } → found ≡ table
    → places ≡ places_of page origin (leaf_fields table 0)
    → row ≡ record { row = row_on table page origin; leaf = n }
row_read {table = table} {found = found} {places = places} {page = page} {n = n} origin is table_is places_are =
    is ∙ ap (λ (t : TableDef). record { row = record { table = t; page = page; places = places }; leaf = n }) table_is
    ∙ ap (λ (p : List Place). record { row = record { table = table; page = page; places = p }; leaf = n }) places_are

-- the numbers after a row
pub counted_whole : (saved : Saved) (losses : List (Option Loss)) → true ≡ is_whole_row losses
    → record { rows = saved.rows + 1; partial = saved.partial; leaves = saved.leaves; lost = saved.lost }
    ≡ counted saved losses
counted_whole saved losses is =
    let e : saved.partial ≡ saved.partial + 0 = omega arith in
    ap (λ (k : ℕ). record { rows = saved.rows + 1; partial = k; leaves = saved.leaves; lost = saved.lost }) e
    ∙ ap (λ (b : Bool). record {
      rows = saved.rows + (if b then 1 else 0);
      partial = saved.partial + (if b then 0 else 1);
      leaves = saved.leaves;
      lost = saved.lost;
    }) is

pub counted_partial : (saved : Saved) (losses : List (Option Loss)) → false ≡ is_whole_row losses
    → record { rows = saved.rows; partial = saved.partial + 1; leaves = saved.leaves; lost = saved.lost }
    ≡ counted saved losses
counted_partial saved losses is =
    let e : saved.rows ≡ saved.rows + 0 = omega arith in
    ap (λ (k : ℕ). record { rows = k; partial = saved.partial + 1; leaves = saved.leaves; lost = saved.lost }) e
    ∙ ap (λ (b : Bool). record {
      rows = saved.rows + (if b then 1 else 0);
      partial = saved.partial + (if b then 0 else 1);
      leaves = saved.leaves;
      lost = saved.lost;
    }) is

-- what holds of an answer
pub of_ok : {A E P : Type 0} (r : Result A E) → is_err r ≡ false → OnOk r P → P
of_ok (Ok a) no_err here = here
of_ok (Err e) no_err here = absurd (false≢true (sym no_err))

pub of_err : {A E P : Type 0} (r : Result A E) → is_err r ≡ true → OnErr r P → P
of_err (Ok a) some_err here = absurd (false≢true some_err)
of_err (Err e) some_err here = here

pub met_put : {work : Work} {start : Start} {n place : ℕ} {now next : Progress} {after : List Bool} {faults : ℕ}
    {losses : List (Option Loss)} {row_values : List (Option Value)} → faults ≤ next.faults → next.marks ≡ after
    → next.known ≡ now.known → next.saved ≡ counted now.saved losses
    → IsSent now.written.sink next.written.sink (now.held ++ saved_line work.table row_values) next.held
    → GetsNext now.unheard next.unheard now.written.losses next.written.losses
    (row_losses work.table n (place + 1) losses)
    → Met work start (n + 1) (looked now after faults) (Judges start n place now after losses row_values)
    → RowsDone n (place + 1) work start next
met_put least marks known count sent report met =
    met_on least marks (λ pages parts both. row_put known marks count sent report both) met

pub met_cut : {work : Work} {start : Start} {n place : ℕ} {now next : Progress} {after : List Bool} {faults : ℕ}
    {losses : List (Option Loss)} {row_values : List (Option Value)} → faults ≤ next.faults → next.marks ≡ after
    → n < reach_of work.file
    → GrowsByPart now.written.sink next.written.sink (now.held ++ saved_line work.table row_values)
    → GetsNext now.unheard next.unheard now.written.losses next.written.losses
    (row_losses work.table n (place + 1) losses)
    → Met work start (n + 1) (looked now after faults) (Judges start n place now after losses row_values)
    → Broke work start next
met_cut least marks below cut report met =
    broke (met_on least marks (λ pages parts both. row_cut below cut report both) met)

pub met_cut_long : {work : Work} {start : Start} {n place : ℕ} {now next : Progress} {after : List Bool} {faults : ℕ}
    {losses : List (Option Loss)} {row_values : List (Option Value)} → IsLongAt work n place losses
    → faults ≤ next.faults → next.marks ≡ after → n < reach_of work.file
    → GrowsByPart now.written.sink next.written.sink (now.held ++ saved_line work.table row_values)
    → GetsNext now.unheard next.unheard now.written.losses next.written.losses
    (row_losses work.table n (place + 1) losses)
    → Met work start (n + 1) (looked now after faults) (Judges start n place now after losses row_values)
    → BrokeInRow work start next
met_cut_long long least marks below cut report met =
    broke_in_row (met_on least marks (λ pages parts both. row_cut_long long below cut report both) met)

-- the source ended the writing of a line
abbrev pub is_source : WriteStop → Type 0
is_source e = let x : Result (Unit {0}) WriteStop = Err e in x ≡ Err Source

-- six facts on a content that may not be told
pub told6 : {X : Type 0} {P Q R S T U V : X → Type 0} (o : Option X)
    → ((x : X) → P x → Q x → R x → S x → T x → U x → V x) → IfSome o P → IfSome o Q → IfSome o R → IfSome o S
    → IfSome o T → IfSome o U → IfSome o V
told6 None f p q r s t u = tt
told6 (Some x) f p q r s t u = f x p q r s t u

-- a line that wasn't put broke the work off
pub line_ends : (Next Off InRow : Type 0) (p q : Option (List ℕ)) (held now line : List ℕ) (e : WriteStop)
    → Moves {A = Unit {0}} (Err e) p q held now line → (GrowsByPart p q (held ++ line) → Off)
    → (is_source e → GrowsByPart p q (held ++ line) → InRow)
    → GoesOn {A = Unit {0}} (Err (salvage_stop_of e)) Next Off InRow
line_ends Next Off InRow p q held now line (Broken fault) moves off in_row = absurd moves
line_ends Next Off InRow p q held now line Source moves off in_row = in_row refl moves
line_ends Next Off InRow p q held now line Sink moves off in_row = off moves
