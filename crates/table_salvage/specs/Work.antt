-- What is known between the pages of a salvage, and between the records of a leaf. Nothing is said of pages that
-- weren't
-- asked for: all holds of each job whose missed pages are those that were met.
use Rattle.std.specs.Prelude.{◌≡◌, ◌+◌, ◌-◌, ◌<◌, ◌≤◌, ℕ, Bool, true, List, [], ◌∷◌, ◌++◌, length, map, filter}
use Rattle.std.specs.Prelude.{slice_index_or, Option, Result, Ok, Err}
use Rattle.std.specs.List.{range_with_len}
use Rattle.page_source.specs.declared.objects.PageSource.{Ghosts as FileOf}
use Rattle.page_source.specs.declared.objects.ByteSink.{Ghosts as SinkOf}
use Rattle.page_source.specs.Pages.{page_of}
use Rattle.page_source.specs.Calls.{OfFile}
use Rattle.page_source.specs.Objects.{GrowsByPart}
use Rattle.space_audit.specs.Marks.{is_in, is_set}
use Rattle.schema_text.specs.TableDef.{TableDef}
use Rattle.sql_dump.specs.Buffer.{IsSent}
use Rattle.leaf_salvage.specs.Known.{Known, Knows}
use Rattle.leaf_salvage.specs.declared.verdict.Verdict.TheVariants as verdicts
use Rattle.salvage_model.specs.declared.kind.RecordKind.{RecordKind}
use Rattle.salvage_model.specs.declared.saved.Saved.{Saved}
use Rattle.salvage_model.specs.declared.stop.SalvageStop.{SalvageStop}
use Rattle.salvage_model.specs.declared.stop.SalvageStop.TheVariants.{Root, Source, Sink, Losses, Memory, Changed}
use Rattle.salvage_model.specs.Records.{first_place, is_place_of}
use Rattle.salvage_model.specs.Outcome.{Job, SavedRow, Outcome, Unused, Leaf, Is, looked_of_pages, IsFull}
use Rattle.salvage_model.specs.Outcome.{AreSavedRows}
use Rattle.salvage_model.specs.Saved.{AreFirst, text_of, numbers_of}
use Rattle.salvage_model.specs.LongRow.{EndsInLongRow}
use Rattle.salvage_model.specs.Report.{losses_of}
use Rattle.salvage_model.specs.Salvage.{Wanted, Missed, Written, HaveCause}
use Rattle.table_salvage.specs.Heard.{HasGot}
use Rattle.table_salvage.specs.declared.search.Search.{Search}
use Rattle.table_salvage.specs.declared.room.Room.{Room}

-- the salvage that is on its way: the records of a kind, of a table, in a file, on the leaves with this id
pub record Work : Type 0 where
  pub file : List ℕ
  pub table : TableDef
  pub kind : RecordKind
  pub id : ℕ

-- the job of a salvage, with these pages missed as pages and as parts of values
abbrev pub job_with : Work → (ℕ → Bool) → (ℕ → Bool) → Job
job_with work missed missed_parts = record {
  file = work.file;
  table = work.table;
  kind = work.kind;
  id = work.id;
  missed = missed;
  missed_parts = missed_parts;
}

-- the job of a salvage, with just these pages missed
abbrev pub job_missing : Work → Missed → Job
job_missing work missed = job_with work (is_in missed.pages) (is_in missed.parts)

-- how a salvage began: what both outputs told, and how many faults the source had counted
pub record Start : Type 0 where
  pub written : Written
  pub faults : ℕ

-- how far a salvage has come: what the descriptor pages tell, the pages that were looked at as parts of values, the
-- numbers, what the buffer holds back, both outputs, whether the report failed, and the faults of the source
pub record Progress : Type 0 where
  pub known : Known
  pub marks : List Bool
  pub saved : Saved
  pub held : List ℕ
  pub written : Written
  pub unheard : Bool
  pub faults : ℕ

-- these may be the pages that a job misses, as far as the pages below n and the marked ones go
pub record MayBe (missed : Missed) (n : ℕ) (marks : List Bool) (job : Job) : Type 0 where
  pub pages : (k : ℕ) → k < n → job.missed k ≡ is_in missed.pages k
  pub parts : (k : ℕ) → is_set marks k ≡ true → job.missed_parts k ≡ is_in missed.parts k

-- a fact of each job that may miss these pages, where the pages below n and the marked ones were met. The source
-- counted a fault for each page that was missed
pub record Met (work : Work) (start : Start) (n : ℕ) (now : Progress) (Fact : Job → Type 0) : Type 0 where
  pub later : start.faults ≤ now.faults
  pub missed : Missed
  pub cause : HaveCause start.faults now.faults missed
  pub pages : (k : ℕ) → is_in missed.pages k ≡ true → k < n
  pub parts : (k : ℕ) → is_in missed.parts k ≡ true → is_set now.marks k ≡ true
  pub holds : (pages parts : ℕ → Bool) → MayBe missed n now.marks (job_with work pages parts)
      → Fact (job_with work pages parts)

-- of these outcomes the text is written, or held back, and what they lost was reported, as far as the report took it
pub record Kept (start : Start) (now : Progress) (job : Job) (outcomes : List Outcome) : Type 0 where
  pub marked : (k : ℕ) → is_set now.marks k ≡ is_in (looked_of_pages outcomes) k
  pub numbers : now.saved ≡ numbers_of outcomes
  pub text : IsSent start.written.sink now.written.sink (text_of job.table outcomes) now.held
  pub report : HasGot now.unheard start.written.losses now.written.losses (losses_of job.table outcomes)

-- the outcomes of n pages
pub record ArePages (job : Job) (n : ℕ) (outcomes : List Outcome) : Type 0 where
  pub all : length outcomes ≡ n
  pub first : AreFirst job outcomes
  pub full : (k : ℕ) → k < n → IsFull job k (slice_index_or outcomes k Unused)

-- the pages below n are done
pub record AtPage (start : Start) (n : ℕ) (now : Progress) (job : Job) : Type 0 where
  pub knows : Knows job.file job.missed n now.known
  pub outcomes : List Outcome
  pub pages : ArePages job n outcomes
  pub kept : Kept start now job outcomes

-- the places of the records of a kind before this place
abbrev pub places_before : RecordKind → List ℕ → ℕ → List ℕ
places_before kind page place =
    filter (is_place_of kind page) (range_with_len (first_place kind page) (place - first_place kind page))

-- the pages below n are done, and on leaf n the records before this place
pub record AtRow (start : Start) (n place : ℕ) (now : Progress) (job : Job) : Type 0 where
  pub knows : Knows job.file job.missed (n + 1) now.known
  pub is_leaf : Is job n verdicts.Leaf
  pub outcomes : List Outcome
  pub pages : ArePages job n outcomes
  pub rows : List SavedRow
  pub are : AreSavedRows job n (is_in (looked_of_pages outcomes)) rows
  pub places : map (λ (r : SavedRow). r.place) rows ≡ places_before job.kind (page_of job.file n) place
  pub kept : Kept start now job (outcomes ++ Leaf rows ∷ [])

-- the stages of a salvage
abbrev pub Stage : Type 1
Stage = Work → Start → Progress → Type 0

abbrev pub PagesDone : ℕ → Stage
PagesDone n work start now = Met work start n now (AtPage start n now)

abbrev pub RowsDone : ℕ → ℕ → Stage
RowsDone n place work start now = Met work start (n + 1) now (AtRow start n place now)

-- of what some first pages give a prefix was written, and what they lost was reported
pub record Broke (work : Work) (start : Start) (now : Progress) : Type 0 where
  pub missed : Missed
  pub cause : HaveCause start.faults now.faults missed
  pub outcomes : List Outcome
  pub are_first : AreFirst (job_missing work missed) outcomes
  pub text : GrowsByPart start.written.sink now.written.sink (text_of work.table outcomes)
  pub report : HasGot now.unheard start.written.losses now.written.losses (losses_of work.table outcomes)

-- a prefix was written of what some first pages give, up to a row for whose line other pages are read a second time;
-- what was lost of these pages was reported
pub record BrokeInRow (work : Work) (start : Start) (now : Progress) : Type 0 where
  pub broke : Broke work start now
  pub ends : EndsInLongRow (job_missing work broke.missed) broke.outcomes

-- a part of the work went on, or an object that failed broke it off: the source in the line of a long row
abbrev pub GoesOn : {A : Type 0} → Result A SalvageStop → Type 0 → Type 0 → Type 0 → Type 0
GoesOn (Ok a) Next Off InRow = Next
GoesOn (Err Root) Next Off InRow = ⊥
GoesOn (Err Source) Next Off InRow = InRow
GoesOn (Err Sink) Next Off InRow = Off
GoesOn (Err Losses) Next Off InRow = ⊥
GoesOn (Err Memory) Next Off InRow = ⊥
GoesOn (Err (Changed fault)) Next Off InRow = ⊥

-- the salvage of a file that a search is
abbrev pub work_of : List ℕ → Search → Work
work_of file search =
    record { file = file; table = search.schema.now; kind = search.kind; id = search.id }

-- what a search looks for, with the id that was given, if one was
abbrev pub wanted_of : Search → Option ℕ → Wanted
wanted_of search given = record { table = search.schema.now; kind = search.kind; given = given }

-- how far the objects and the room have come
abbrev pub progress_of : {S O E : Type 0} → FileOf S → SinkOf O → SinkOf E → S × O × E → Room → Progress
progress_of g o e objects room = record {
  known = room.descriptors;
  marks = room.marks;
  saved = room.saved;
  held = room.buffer.bytes;
  written = record { sink = o.written objects.1; losses = e.written objects.2 };
  unheard = room.unheard;
  faults = g.faults objects.0;
}

-- over a file that is told: from one stage, wherever the salvage began, a part of the work led to another one
pub record Goes {S O E A : Type 0} (g : FileOf S) (o : SinkOf O) (e : SinkOf E) (old new : S × O × E)
    (room room_now : Room) (search : Search) (result : Result A SalvageStop) (From To : Stage) : Type 0 where
  pub told : OfFile g old.0 (λ file. (start : Start)
      → From (work_of file search) start (progress_of g o e old room)
      → GoesOn result (To (work_of file search) start (progress_of g o e new room_now))
      (Broke (work_of file search) start (progress_of g o e new room_now))
      (BrokeInRow (work_of file search) start (progress_of g o e new room_now)))
