-- The first page, and what stands after the last one.
use Rattle.std.proofs.Common.{◌≡◌, ℕ, ◌≤◌, ◌+◌, Bool, true, false, List, [], replicate, Option, Result, Ok, Err}
use Rattle.std.proofs.Common.{IfSome, refl, sym, ap, ◌∙◌, subst, arith, inl, inr}
use Rattle.std.proofs.lemmas.List.{append-nil, get_or-replicate, get_or_past, length-replicate}
use Rattle.std.proofs.lemmas.Bool.{false≢true, cases_Bool, cases_lt}
use Rattle.page_source.specs.declared.objects.PageSource.{Ghosts as FileOf}
use Rattle.page_source.specs.declared.objects.ByteSink.{Ghosts as SinkOf}
use Rattle.page_source.specs.declared.rule.Fault.{Fault}
use Rattle.page_source.specs.Faults.{Rose}
use Rattle.page_source.specs.Objects.{GrowsBy, GrowsByPart}
use Rattle.page_source.specs.Calls.{AsksNoMore}
use Rattle.page_source.proofs.Told.{if_told, map_told}
use Rattle.page_source.proofs.Texts.{grows_whole}
use Rattle.schema_text.specs.TableDef.{TableDef}
use Rattle.sql_dump.proofs.SomeValues.{grows_none}
use Rattle.sql_dump.proofs.Sends.{all_sent, sent_cut, sent_part}
use Rattle.leaf_salvage.specs.Known.{Knows}
use Rattle.leaf_salvage.specs.Standing.{reach_of}
use Rattle.space_audit.specs.Marks.{is_set}
use Rattle.salvage_model.specs.declared.saved.Saved.{Saved}
use Rattle.salvage_model.specs.declared.stop.SalvageStop.{SalvageStop}
use Rattle.salvage_model.specs.declared.stop.SalvageStop.TheVariants.{Root, Source, Sink, Losses, Memory, Changed}
use Rattle.salvage_model.specs.IndexId.{IsId, HasNoId}
use Rattle.salvage_model.specs.Outcome.{Job, Outcome, looked_of_pages}
use Rattle.salvage_model.specs.Saved.{text_of, numbers_of}
use Rattle.salvage_model.specs.Report.{losses_of, report_of, numbers_line}
use Rattle.salvage_model.specs.Causes.{Counts}
use Rattle.salvage_model.specs.Salvage.{Wanted, Written, HasSaved, HasBegun, HasBegunLongRow, SalvagesBy, SalvagesOver}
use Rattle.salvage_model.specs.Salvage.{id_fetches}
use Rattle.table_salvage.specs.Work.{Work, Start, Progress, job_with, Kept, AtPage, PagesDone, Broke, BrokeInRow}
use Rattle.table_salvage.specs.Work.{GoesOn}
use Rattle.table_salvage.specs.Heard.{HasGot, GetsNext, FailsRising, told_of}
use Rattle.table_salvage.specs.Over.{PartOver}
use Rattle.table_salvage.proofs.MetPages.{met_on, met_now}
use Rattle.table_salvage.proofs.Hearing.{got_on, got_part}
use Rattle.table_salvage.proofs.Firsts.{no_pages}
use Rattle.table_salvage.proofs.PartSteps.{done}
use Rattle.table_salvage.proofs.RowSteps.{broke}

-- no page is marked
none_set : (pages k : ℕ) → is_set (replicate pages false) k ≡ false
none_set pages k =
    elim (cases_lt k pages) [
      | inl less ↦ get_or-replicate pages k false false less
      | inr more ↦ get_or_past (replicate pages false) k false (omega (arith, length-replicate pages false))
    ]

abbrev pub none_saved : Saved
none_saved = record { rows = 0; partial = 0; leaves = 0; lost = 0 }

nothing_kept : (start : Start) (now : Progress) (job : Job) (pages : ℕ) → now.marks ≡ replicate pages false
    → now.held ≡ [] → now.saved ≡ none_saved → now.unheard ≡ false → now.written ≡ start.written
    → Kept start now job []
unfolding text_of losses_of looked_of_pages numbers_of
nothing_kept start now job pages marks held saved heard written = record {
  marked = λ k. ap (λ (m : List Bool). is_set m k) marks ∙ none_set pages k;
  numbers = saved;
  text = record {
    sent = [];
    grown = subst (λ (w : Written). GrowsBy start.written.sink w.sink []) (sym written) (grows_none start.written.sink);
    split = sym held;
  };
  report = subst (λ (b : Bool). HasGot b start.written.losses now.written.losses []) (sym heard)
      (subst (λ (w : Written). GrowsBy start.written.losses w.losses []) (sym written)
      (grows_none start.written.losses));
}

-- before the first page
pub begins : {work : Work} {start : Start} {now : Progress} (pages : ℕ)
    → ((file : List ℕ) (missed : ℕ → Bool) → Knows file missed 0 now.known) → start.faults ≤ now.faults
    → now.marks ≡ replicate pages false → now.held ≡ [] → now.saved ≡ none_saved → now.unheard ≡ false
    → now.written ≡ start.written → PagesDone 0 work start now
begins {work = work} {start = start} {now = now} pages knows least marks held saved heard written = record {
  later = least;
  missed = record { pages = []; parts = [] };
  cause = omega (arith, least);
  pages = λ k there. absurd (false≢true there);
  parts = λ k there. absurd (false≢true there);
  holds = λ missed parts may. record {
    knows = knows work.file missed;
    outcomes = [];
    pages = no_pages (job_with work missed parts);
    kept = nothing_kept start now (job_with work missed parts) pages marks held saved heard written;
  };
}

-- the work that is wanted
abbrev pub wanted_work : List ℕ → Wanted → ℕ → Work
wanted_work file wanted id = record { file = file; table = wanted.table; kind = wanted.kind; id = id }

-- what the report got is what is said of it
first_says : (heeds unheard : Bool) (table : TableDef) (old new : Written) (before now : ℕ)
    → (unheard ≡ true → Rose before now) → (outcomes : List Outcome)
    → HasGot unheard old.losses new.losses (losses_of table outcomes)
    → (told_of heeds table old new before now).first outcomes
first_says true unheard table old new before now rose outcomes got =
    got_part unheard old.losses new.losses (losses_of table outcomes) (numbers_line (numbers_of outcomes)) got
first_says false true table old new before now rose outcomes got = inr (got, rose refl)
first_says false false table old new before now rose outcomes got = inl got

all_says : (heeds unheard : Bool) (table : TableDef) (old new : Written) (before now : ℕ)
    → (unheard ≡ true → Rose before now) → (heeds ≡ true → unheard ≡ false) → (outcomes : List Outcome)
    → HasGot unheard old.losses new.losses (report_of table outcomes)
    → (told_of heeds table old new before now).all outcomes
all_says true true table old new before now rose heard outcomes got = absurd (false≢true (sym (heard refl)))
all_says true false table old new before now rose heard outcomes got = got
all_says false true table old new before now rose heard outcomes got = inr (got, rose refl)
all_says false false table old new before now rose heard outcomes got = inl got

ended_says : (heeds : Bool) (table : TableDef) (old new : Written) (before now : ℕ) → heeds ≡ true
    → (outcomes : List Outcome) → GrowsByPart old.losses new.losses (report_of table outcomes)
    → (told_of heeds table old new before now).ended outcomes
ended_says true table old new before now heeds outcomes part = part
ended_says false table old new before now heeds outcomes part = absurd (false≢true heeds)

-- of some first pages a prefix was written
begun : {file : List ℕ} {wanted : Wanted} {id : ℕ} {start : Start} {now : Progress}
    (Report : List Outcome → Type 0) → ((outcomes : List Outcome)
    → HasGot now.unheard start.written.losses now.written.losses (losses_of wanted.table outcomes) → Report outcomes)
    → IsId file wanted.table wanted.given id → Broke (wanted_work file wanted id) start now
    → HasBegun file wanted start.faults now.faults start.written.sink now.written.sink Report
begun {id = id} Report says found b = record {
  id = id;
  is_id = found;
  missed = b.missed;
  cause = b.cause;
  outcomes = b.outcomes;
  are_first = b.are_first;
  text = b.text;
  report = says b.outcomes b.report;
}

-- an object that failed ended it
pub has_begun : {file : List ℕ} {wanted : Wanted} {id : ℕ} {start : Start} {now : Progress}
    (heeds : Bool) (before after : ℕ) → (now.unheard ≡ true → Rose before after)
    → IsId file wanted.table wanted.given id → Broke (wanted_work file wanted id) start now
    → HasBegun file wanted start.faults now.faults start.written.sink now.written.sink
    (told_of heeds wanted.table start.written now.written before after).first
has_begun {wanted = wanted} {start = start} {now = now} heeds before after rose found off =
    begun {now = now} _ (first_says heeds now.unheard wanted.table start.written now.written before after rose) found
    off

-- the source did, in the line of a long row
has_begun_long : {file : List ℕ} {wanted : Wanted} {id : ℕ} {start : Start} {now : Progress}
    (heeds : Bool) (before after : ℕ) → (now.unheard ≡ true → Rose before after)
    → IsId file wanted.table wanted.given id → BrokeInRow (wanted_work file wanted id) start now
    → HasBegunLongRow file wanted start.faults now.faults start.written.sink now.written.sink
    (told_of heeds wanted.table start.written now.written before after).first
unfolding has_begun begun
has_begun_long heeds before after rose found off = record {
  begun = has_begun heeds before after rose found off.broke;
  ends = off.ends;
}

-- in a page
pub page_stops : (file : List ℕ) (id : ℕ) (wanted : Wanted) (start : Start) (now : Progress)
    (Next : Type 0) (heeds : Bool) (before after asked asked_now : ℕ) (stop : SalvageStop)
    → (now.unheard ≡ true → Rose before after) → IsId file wanted.table wanted.given id
    → GoesOn {A = Unit {0}} (Err stop) Next (Broke (wanted_work file wanted id) start now)
    (BrokeInRow (wanted_work file wanted id) start now)
    → SalvagesBy (told_of heeds wanted.table start.written now.written before after) file wanted
    (record { faults = start.faults; fetches = asked }) (record { faults = now.faults; fetches = asked_now })
    (Err stop) start.written now.written
page_stops file id wanted start now Next heeds before after asked asked_now Root rose found goes = absurd goes
page_stops file id wanted start now Next heeds before after asked asked_now Source rose found goes =
    inr (has_begun_long heeds before after rose found goes)
page_stops file id wanted start now Next heeds before after asked asked_now Sink rose found goes =
    has_begun heeds before after rose found goes
page_stops file id wanted start now Next heeds before after asked asked_now Losses rose found goes = absurd goes
page_stops file id wanted start now Next heeds before after asked asked_now Memory rose found goes = absurd goes
page_stops file id wanted start now Next heeds before after asked asked_now (Changed fault) rose found goes =
    absurd goes

-- the report did, after a page
pub report_stops : {file : List ℕ} {wanted : Wanted} {id n : ℕ} {start : Start} {now : Progress}
    (heeds : Bool) (before after : ℕ) → heeds ≡ true
    → IsId file wanted.table wanted.given id → PagesDone n (wanted_work file wanted id) start now
    → HasBegun file wanted start.faults now.faults start.written.sink now.written.sink
    (told_of heeds wanted.table start.written now.written before after).ended
report_stops {wanted = wanted} {start = start} {now = now} heeds before after heeded found met =
    begun {now = now} _ (λ outcomes got. ended_says heeds wanted.table start.written now.written before
    after heeded outcomes
    (got_part now.unheard start.written.losses now.written.losses (losses_of wanted.table outcomes)
    (numbers_line (numbers_of outcomes)) got)) found
    (broke (met_on (omega arith) refl (λ pages parts at. record {
      outcomes = at.outcomes;
      first = at.pages.first;
      text = subst (λ (t : List ℕ). GrowsByPart start.written.sink now.written.sink t)
          (append-nil (text_of wanted.table at.outcomes))
          (sent_part start.written.sink now.written.sink (text_of wanted.table at.outcomes) now.held [] at.kept.text);
      report = at.kept.report;
    }) met))

-- the same with other outputs, and a report that may have failed
abbrev pub with_written : Progress → Written → Progress
with_written now written = record {
  known = now.known;
  marks = now.marks;
  saved = now.saved;
  held = now.held;
  written = written;
  unheard = now.unheard;
  faults = now.faults;
}

-- what is held back wasn't put, or in part
pub flush_breaks : {work : Work} {start : Start} {n : ℕ} {now : Progress} (new : Written)
    → GrowsByPart now.written.sink new.sink now.held → new.losses ≡ now.written.losses → PagesDone n work start now
    → Broke work start (with_written now new)
flush_breaks {work = work} {start = start} {now = now} new cut same met =
    broke (met_on (omega arith) refl (λ pages parts at. record {
      outcomes = at.outcomes;
      first = at.pages.first;
      text = sent_cut start.written.sink now.written.sink new.sink
          (text_of work.table at.outcomes) now.held at.kept.text
          cut;
      report = rw same at.kept.report;
    }) met)

-- the numbers were reported
reported : {start : Start} {n : ℕ} {now : Progress} {job : Job} (new : Written) (unheard : Bool)
    → GetsNext now.unheard unheard now.written.losses new.losses (numbers_line now.saved)
    → (at : AtPage start n now job)
    → HasGot unheard start.written.losses new.losses (report_of job.table at.outcomes)
reported {start = start} {now = now} {job = job} new unheard next at =
    let line : GetsNext now.unheard unheard now.written.losses new.losses (numbers_line (numbers_of at.outcomes)) =
    subst (λ (s : Saved). GetsNext now.unheard unheard now.written.losses new.losses (numbers_line s))
    at.kept.numbers next in
    got_on now.unheard unheard start.written.losses now.written.losses new.losses (losses_of job.table at.outcomes)
    (numbers_line (numbers_of at.outcomes)) at.kept.report line

-- the report failed there
pub numbers_stop : {file : List ℕ} {wanted : Wanted} {id n : ℕ} {start : Start} {now : Progress}
    (new : Written) (heeds unheard : Bool) (before after : ℕ) → PagesDone n (wanted_work file wanted id) start now
    → heeds ≡ true → IsId file wanted.table wanted.given id
    → GrowsBy now.written.sink new.sink now.held
    → GetsNext now.unheard unheard now.written.losses new.losses (numbers_line now.saved)
    → HasBegun file wanted start.faults now.faults start.written.sink new.sink
    (told_of heeds wanted.table start.written new before after).ended
numbers_stop {wanted = wanted} {id = id} {start = start} {now = now} new heeds unheard before after met heeded found
    sent next =
    let at = met_now met in
    record {
      id = id;
      is_id = found;
      missed = met.missed;
      cause = met.cause;
      outcomes = at.outcomes;
      are_first = at.pages.first;
      text = grows_whole start.written.sink new.sink (text_of wanted.table at.outcomes)
          (all_sent start.written.sink now.written.sink new.sink (text_of wanted.table at.outcomes) now.held
          at.kept.text sent);
      report = ended_says heeds wanted.table start.written new before after heeded at.outcomes
          (subst (λ (t : List ℕ). GrowsByPart start.written.losses new.losses t)
          (append-nil (report_of wanted.table at.outcomes))
          (got_part unheard start.written.losses new.losses (report_of wanted.table at.outcomes) []
          (reported new unheard next at)));
    }

-- all was written
pub all_saved : {file : List ℕ} {wanted : Wanted} {id n : ℕ} {start : Start} {now : Progress}
    (new : Written) (heeds unheard : Bool) (before after : ℕ) → PagesDone n (wanted_work file wanted id) start now
    → (unheard ≡ true → Rose before after) → (heeds ≡ true → unheard ≡ false)
    → IsId file wanted.table wanted.given id → n ≡ reach_of file → GrowsBy now.written.sink new.sink now.held
    → GetsNext now.unheard unheard now.written.losses new.losses (numbers_line now.saved)
    → HasSaved file wanted start.faults now.faults now.saved start.written.sink new.sink
    (told_of heeds wanted.table start.written new before after).all
all_saved {wanted = wanted} {id = id} {start = start} {now = now} new heeds unheard before after met rose heard found
    all sent next =
    let at = met_now met in
    record {
      id = id;
      is_id = found;
      missed = met.missed;
      cause = met.cause;
      outcomes = at.outcomes;
      is_saved = record {
        first = at.pages.first;
        all = at.pages.all ∙ all;
        full = λ k below. at.pages.full k (omega (arith, below, at.pages.all));
      };
      numbers = at.kept.numbers;
      text = all_sent start.written.sink now.written.sink new.sink (text_of wanted.table at.outcomes) now.held
          at.kept.text sent;
      report = all_says heeds unheard wanted.table start.written new before after rose heard at.outcomes
          (reported new unheard next at);
    }

-- two answers that are one
abbrev pub SameErr : Type 0 → SalvageStop → SalvageStop → Type 0
SameErr A a b = let x : Result A SalvageStop = Err a in let y : Result A SalvageStop = Err b in x ≡ y

pub same_err : (A B : Type 0) (a b : SalvageStop) → SameErr A a b → SameErr B a b
same_err A B a b is = cc

-- no id was found
pub id_stops : (o : Option (List ℕ)) (heeds : Bool) (wanted : Wanted) (before now : Counts) (heard heard_now : ℕ)
    (old new : Written) (stop : SalvageStop) → new ≡ old
    → (SameErr ℕ stop Root → IfSome o (λ file. HasNoId file wanted.table wanted.given))
    → (SameErr ℕ stop Source → now.fetches ≤ before.fetches + id_fetches wanted.given)
    → (SameErr ℕ stop Sink → ⊥) → (SameErr ℕ stop Losses → ⊥)
    → ((fault : Fault) → SameErr ℕ stop (Changed fault) → ⊥)
    → IfSome o (λ file. SalvagesBy (told_of heeds wanted.table old new heard heard_now) file wanted before now
    (Err stop) old new)
id_stops o heeds wanted before now heard heard_now old new Root same root asked sink losses changed =
    map_told o (λ file none. (none, same)) (root refl)
id_stops o heeds wanted before now heard heard_now old new Source same root asked sink losses changed =
    if_told o (λ file. inl (record { asked = asked refl; same = same }))
id_stops o heeds wanted before now heard heard_now old new Sink same root asked sink losses changed = absurd (sink refl)
id_stops o heeds wanted before now heard heard_now old new Losses same root asked sink losses changed =
    absurd (losses refl)
id_stops o heeds wanted before now heard heard_now old new Memory same root asked sink losses changed =
    if_told o (λ file. same)
id_stops o heeds wanted before now heard heard_now old new (Changed fault) same root asked sink losses changed =
    absurd (changed fault refl)

module _ {S O E : Type 0} (g : FileOf S) (o : SinkOf O) (e : SinkOf E) where
  -- what a page that broke it off leaves
  pub over_stops : {old new : S × O × E} {unheard unheard_now : Bool} {steps steps_now : ℕ} (stop : SalvageStop)
      → PartOver {A = Unit {0}} g o e old new unheard unheard_now steps steps_now (Err stop)
      → SalvagesOver g o e old.0 new.0 old.1 new.1 old.2 new.2 steps steps_now (Err stop)
  over_stops stop over = record {
    same = over.same;
    source_later = over.source_later;
    sink_later = over.sink_later;
    losses_later = over.losses_later;
    source_rose = λ is. over.source_rose (same_err Saved (Unit {0}) stop Source is);
    sink_rose = λ is. over.sink_rose (same_err Saved (Unit {0}) stop Sink is);
    losses_rose = λ is. absurd (over.losses (same_err Saved (Unit {0}) stop Losses is));
    rootless = λ is. absurd (over.root (same_err Saved (Unit {0}) stop Root is));
    unwritten = λ is. absurd (over.memory (same_err Saved (Unit {0}) stop Memory is));
    changed = λ fault is. over.changed fault (same_err Saved (Unit {0}) stop (Changed fault) is);
    asked = over.asked;
  }

  -- where the source alone was asked before
  pub over_since : {old middle new : S} {sink sink_now : O} {losses losses_now : E} {first steps last : ℕ}
      {result : Result Saved SalvageStop} → g.content middle ≡ g.content old → g.faults old ≤ g.faults middle
      → AsksNoMore g old middle first steps
      → SalvagesOver g o e middle new sink sink_now losses losses_now steps last result
      → SalvagesOver g o e old new sink sink_now losses losses_now first last result
  over_since same later asked over = record {
    same = over.same ∙ same;
    source_later = omega (arith, later, over.source_later);
    sink_later = over.sink_later;
    losses_later = over.losses_later;
    source_rose = λ is. let rose = over.source_rose is in omega (arith, rose, later);
    sink_rose = over.sink_rose;
    losses_rose = over.losses_rose;
    rootless = over.rootless;
    unwritten = over.unwritten;
    changed = over.changed;
    asked = omega (arith, asked, over.asked);
  }

  -- what was held back wasn't put
  pub over_unsent : {old : S × O × E} {source : S} {sink : O} {losses : E} {unheard unheard_now : Bool}
      {steps steps_now : ℕ} (sink_now : O)
      → PartOver g o e old (source, sink, losses) unheard unheard_now steps steps_now done
      → o.faults sink ≤ o.faults sink_now
      → Rose (o.faults sink) (o.faults sink_now)
      → SalvagesOver g o e old.0 source old.1 sink_now old.2 losses steps steps_now (Err Sink)
  over_unsent sink_now over later rose = record {
    same = over.same;
    source_later = over.source_later;
    sink_later = omega (arith, over.sink_later, later);
    losses_later = over.losses_later;
    source_rose = λ is. cc;
    sink_rose = λ is. omega (arith, rose, over.sink_later);
    losses_rose = λ is. cc;
    rootless = λ is. cc;
    unwritten = λ is. cc;
    changed = λ fault is. cc;
    asked = over.asked;
  }

  -- the report failed
  pub over_unreported : {old : S × O × E} {source : S} {sink : O} {losses : E} {unheard unheard_now : Bool}
      {steps steps_now : ℕ} (sink_now : O) (losses_now : E)
      → PartOver g o e old (source, sink, losses) unheard unheard_now steps steps_now done
      → o.faults sink ≤ o.faults sink_now → e.faults losses ≤ e.faults losses_now
      → Rose (e.faults old.2) (e.faults losses_now)
      → SalvagesOver g o e old.0 source old.1 sink_now old.2 losses_now steps steps_now (Err Losses)
  over_unreported sink_now losses_now over later reported rose = record {
    same = over.same;
    source_later = over.source_later;
    sink_later = omega (arith, over.sink_later, later);
    losses_later = omega (arith, over.losses_later, reported);
    source_rose = λ is. cc;
    sink_rose = λ is. cc;
    losses_rose = λ is. rose;
    rootless = λ is. cc;
    unwritten = λ is. cc;
    changed = λ fault is. cc;
    asked = over.asked;
  }

  -- all was
  pub over_saved : {old : S × O × E} {source : S} {sink : O} {losses : E} {unheard unheard_now : Bool}
      {steps steps_now : ℕ} (sink_now : O) (losses_now : E) (saved : Saved)
      → PartOver g o e old (source, sink, losses) unheard unheard_now steps steps_now done
      → o.faults sink ≤ o.faults sink_now → e.faults losses ≤ e.faults losses_now
      → SalvagesOver g o e old.0 source old.1 sink_now old.2 losses_now steps steps_now (Ok saved)
  over_saved sink_now losses_now saved over later reported = record {
    same = over.same;
    source_later = over.source_later;
    sink_later = omega (arith, over.sink_later, later);
    losses_later = omega (arith, over.losses_later, reported);
    source_rose = λ is. cc;
    sink_rose = λ is. cc;
    losses_rose = λ is. cc;
    rootless = λ is. cc;
    unwritten = λ is. cc;
    changed = λ fault is. cc;
    asked = over.asked;
  }

  -- the report fails only if its count of faults rose
  pub failed_since : {old : S × O × E} {source : S} {sink : O} {losses : E} {unheard unheard_now : Bool}
      {steps steps_now : ℕ} (losses_now : E)
      → PartOver g o e old (source, sink, losses) false unheard steps steps_now done
      → e.faults losses ≤ e.faults losses_now
      → FailsRising unheard unheard_now (e.faults losses) (e.faults losses_now) → unheard_now ≡ true
      → Rose (e.faults old.2) (e.faults losses_now)
  failed_since {unheard = unheard} losses_now over later rises failed =
      elim (cases_Bool unheard) [
        | inl already ↦ let rose = over.losses_rose refl already in omega (arith, rose, later)
        | inr not_yet ↦ let rose = rises not_yet failed in omega (arith, rose, over.losses_later)
      ]
