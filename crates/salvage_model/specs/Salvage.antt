-- What a salvage answers over a file that is told, and what both outputs then hold.
use Rattle.std.specs.Prelude.{◌≡◌, ◌⊎◌, ◌+◌, ◌*◌, ◌≤◌, ℕ, List, length, Option, Some, None, Result, Ok, Err}
use Rattle.page_source.specs.declared.objects.PageSource.{Ghosts as FileOf}
use Rattle.page_source.specs.declared.objects.ByteSink.{Ghosts as SinkOf}
use Rattle.page_source.specs.Faults.{Rose}
use Rattle.page_source.specs.Objects.{GrowsBy, GrowsByPart}
use Rattle.page_source.specs.Calls.{AsksNoMore}
use Rattle.page_source.specs.declared.rule.Fault.{Fault}
use Rattle.page_source.specs.declared.rule.Rule.TheVariants.{Value, ChainLength}
use Rattle.space_audit.specs.Marks.{is_in}
use Rattle.schema_text.specs.TableDef.{TableDef}
use Rattle.salvage_model.specs.declared.kind.RecordKind.{RecordKind}
use Rattle.salvage_model.specs.declared.saved.Saved.{Saved}
use Rattle.salvage_model.specs.declared.stop.SalvageStop.{SalvageStop}
use Rattle.salvage_model.specs.declared.stop.SalvageStop.TheVariants.{Root, Source, Sink, Losses, Memory, Changed}
use Rattle.salvage_model.specs.Causes.{RoseBy, Counts, Reports}
use Rattle.salvage_model.specs.Outcome.{Job, Outcome}
use Rattle.salvage_model.specs.Saved.{AreFirst, IsSaved, text_of, numbers_of}
use Rattle.salvage_model.specs.LongRow.{EndsInLongRow}
use Rattle.salvage_model.specs.Report.{losses_of, report_of}
use Rattle.salvage_model.specs.IndexId.{IsId, HasNoId}

-- what is looked for: the records of a kind, of a table, and the id of its clustered index if it is given
pub record Wanted : Type 0 where
  pub table : TableDef
  pub kind : RecordKind
  pub given : Option ℕ

-- the pages that couldn't be fetched, as pages and as parts of values
pub record Missed : Type 0 where
  pub pages : List ℕ
  pub parts : List ℕ

-- the source counted a fault for each page that couldn't be fetched
abbrev pub HaveCause : ℕ → ℕ → Missed → Type 0
HaveCause before now missed = RoseBy before now (length missed.pages + length missed.parts)

-- the salvage of a file for an id, with these pages missed
abbrev pub job_of : List ℕ → Wanted → ℕ → Missed → Job
job_of file wanted id missed = record {
  file = file;
  table = wanted.table;
  kind = wanted.kind;
  id = id;
  missed = is_in missed.pages;
  missed_parts = is_in missed.parts;
}

-- both outputs: what they tell before a call, or after it
pub record Written : Type 0 where
  pub sink : Option (List ℕ)
  pub losses : Option (List ℕ)

-- what is said of the report: of the outcomes of all pages, of those of some first pages, and of those where the report
-- itself ended the salvage
pub record Told : Type 1 where
  pub all : List Outcome → Type 0
  pub first : List Outcome → Type 0
  pub ended : List Outcome → Type 0

-- what is said of a report that is heeded: it has everything, or a prefix of what some first pages give
abbrev pub heeded : TableDef → Written → Written → Told
heeded table old new = record {
  all = λ outcomes. GrowsBy old.losses new.losses (report_of table outcomes);
  first = λ outcomes. GrowsByPart old.losses new.losses (report_of table outcomes);
  ended = λ outcomes. GrowsByPart old.losses new.losses (report_of table outcomes);
}

-- what is said of a report whose failures end nothing: it has everything that was met, or a prefix of that if its own
-- count of faults rose
abbrev pub unheeded : TableDef → Written → Written → ℕ → ℕ → Told
unheeded table old new faults faults_now = record {
  all = λ outcomes. Reports old.losses new.losses faults faults_now (report_of table outcomes);
  first = λ outcomes. Reports old.losses new.losses faults faults_now (losses_of table outcomes);
  ended = λ outcomes. ⊥;
}

-- the file was gone through to its end, and all was written
pub record HasSaved (file : List ℕ) (wanted : Wanted) (before now : ℕ) (saved : Saved) (old new : Option (List ℕ))
    (Report : List Outcome → Type 0) : Type 0 where
  pub id : ℕ
  pub is_id : IsId file wanted.table wanted.given id
  pub missed : Missed
  pub cause : HaveCause before now missed
  pub outcomes : List Outcome
  pub is_saved : IsSaved (job_of file wanted id missed) outcomes
  pub numbers : saved ≡ numbers_of outcomes
  pub text : GrowsBy old new (text_of wanted.table outcomes)
  pub report : Report outcomes

-- some first pages were gone through, and of what they give a prefix was written
pub record HasBegun (file : List ℕ) (wanted : Wanted) (before now : ℕ) (old new : Option (List ℕ))
    (Report : List Outcome → Type 0) : Type 0 where
  pub id : ℕ
  pub is_id : IsId file wanted.table wanted.given id
  pub missed : Missed
  pub cause : HaveCause before now missed
  pub outcomes : List Outcome
  pub are_first : AreFirst (job_of file wanted id missed) outcomes
  pub text : GrowsByPart old new (text_of wanted.table outcomes)
  pub report : Report outcomes

-- up to a row for whose line other pages are read a second time, some first pages were gone through, and of what they
-- give a prefix was written
pub record HasBegunLongRow (file : List ℕ) (wanted : Wanted) (before now : ℕ) (old new : Option (List ℕ))
    (Report : List Outcome → Type 0) : Type 0 where
  pub begun : HasBegun file wanted before now old new Report
  pub ends : EndsInLongRow (job_of file wanted begun.id begun.missed) begun.outcomes

-- how many pages are asked for to find the id: the root's, if it isn't given
abbrev pub id_fetches : Option ℕ → ℕ
id_fetches None = 1
id_fetches (Some id) = 0

-- no page was asked for but to find the id, and nothing was written
pub record HasNotBegun (wanted : Wanted) (before now : Counts) (old new : Written) : Type 0 where
  pub asked : now.fetches ≤ before.fetches + id_fetches wanted.given
  pub same : new ≡ old

-- the answer over a file that is told, if this is said of the report. The source ends a salvage before the first page,
-- or at a page that is read a second time: one that can't be fetched the first time is missed
abbrev pub SalvagesBy : Told → List ℕ → Wanted → Counts → Counts → Result Saved SalvageStop → Written → Written → Type 0
SalvagesBy told file wanted before now (Ok saved) old new =
    HasSaved file wanted before.faults now.faults saved old.sink new.sink told.all
SalvagesBy told file wanted before now (Err Root) old new = HasNoId file wanted.table wanted.given × (new ≡ old)
SalvagesBy told file wanted before now (Err Source) old new =
    HasNotBegun wanted before now old new
    ⊎ HasBegunLongRow file wanted before.faults now.faults old.sink new.sink told.first
SalvagesBy told file wanted before now (Err Sink) old new =
    HasBegun file wanted before.faults now.faults old.sink new.sink told.first
SalvagesBy told file wanted before now (Err Losses) old new =
    HasBegun file wanted before.faults now.faults old.sink new.sink told.ended
SalvagesBy told file wanted before now (Err Memory) old new = new ≡ old
SalvagesBy told file wanted before now (Err (Changed fault)) old new = ⊥

abbrev pub Salvages : List ℕ → Wanted → Counts → Counts → Result Saved SalvageStop → Written → Written → Type 0
Salvages file wanted before now result old new =
    SalvagesBy (heeded wanted.table old new) file wanted before now result old new

-- the answer over a file that is told, if a failure of the report, whose faults are counted too, ends nothing
abbrev pub SalvagesRegardless : List ℕ → Wanted → Counts → Counts → ℕ → ℕ → Result Saved SalvageStop → Written → Written
    → Type 0
SalvagesRegardless file wanted before now faults faults_now result old new =
    SalvagesBy (unheeded wanted.table old new faults faults_now) file wanted before now result old new

-- a value of a row isn't any more what it was, or a part of a chain doesn't fit any more
abbrev pub IsChange : Fault → Type 0
IsChange fault = (fault.rule ≡ Value) ⊎ (fault.rule ≡ ChainLength)

-- what a salvage leaves of the three objects, told or not: the file is as before, an object is blamed only if its own
-- count of faults rose, nothing is written if no id is found or memory runs out, only a value or a part of a chain is
-- said to have changed, and each page that the file was asked for was counted
pub record SalvagesOver {S O E : Type 0} (g : FileOf S) (o : SinkOf O) (e : SinkOf E) (old new : S) (sink sink_now : O)
    (losses losses_now : E) (steps steps_now : ℕ) (result : Result Saved SalvageStop) : Type 0 where
  pub same : g.content new ≡ g.content old
  pub source_later : g.faults old ≤ g.faults new
  pub sink_later : o.faults sink ≤ o.faults sink_now
  pub losses_later : e.faults losses ≤ e.faults losses_now
  pub source_rose : result ≡ Err Source → Rose (g.faults old) (g.faults new)
  pub sink_rose : result ≡ Err Sink → Rose (o.faults sink) (o.faults sink_now)
  pub losses_rose : result ≡ Err Losses → Rose (e.faults losses) (e.faults losses_now)
  pub rootless : result ≡ Err Root → (sink_now ≡ sink) × (losses_now ≡ losses)
  pub unwritten : result ≡ Err Memory → (sink_now ≡ sink) × (losses_now ≡ losses)
  pub changed : (fault : Fault) → result ≡ Err (Changed fault) → IsChange fault
  pub asked : AsksNoMore g old new steps steps_now

-- the most steps of a salvage of so many pages
abbrev pub salvage_steps : ℕ → ℕ
salvage_steps pages = 3 * pages + 64
