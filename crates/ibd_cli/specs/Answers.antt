-- What the parts of a command on a table answer.
use Rattle.std.specs.Prelude.{◌≡◌, ℕ, ⊤, List, [], Option, Some, None, Result, Ok, Err}
use Rattle.page_source.specs.declared.objects.PageSource.{Ghosts as FileOf}
use Rattle.page_source.specs.declared.objects.ByteSink.{Ghosts as SinkOf}
use Rattle.page_source.specs.declared.checks.Stop.{Stop}
use Rattle.page_source.specs.declared.checks.Stop.TheVariants as stops
use Rattle.page_source.specs.Faults.{Rose}
use Rattle.page_source.specs.Objects.{GrowsBy, GrowsByPart}
use Rattle.page_source.specs.Calls.{OfFile}
use Rattle.schema_text.specs.declared.errors.SchemaWhy.TheVariants as whys
use Rattle.schema_text.specs.TableDef.{TableDef}
use Rattle.schema_text.specs.Grammar.{IsTextOf}
use Rattle.table_check.specs.First.{First, TakesSteps, AsksAtMost}
use Rattle.sql_dump.specs.declared.stop.DumpStop.{DumpStop}
use Rattle.sql_dump.specs.declared.stop.DumpStop.TheVariants as dumps
use Rattle.cross_index.specs.declared.crossed.CrossStop.{CrossStop}
use Rattle.cross_index.specs.declared.crossed.CrossStop.TheVariants as crosses
use Rattle.cross_index.specs.Differ.{Missing, Extra}
use Rattle.key_lookup.specs.declared.stop.GetStop.{GetStop}
use Rattle.key_lookup.specs.declared.stop.GetStop.TheVariants as gets
use Rattle.space_builder.specs.declared.built.BuildStop.{BuildStop}
use Rattle.space_builder.specs.declared.built.BuildStop.TheVariants as builds
use Rattle.key_lookup.specs.Get.{IsLineFound}
use Rattle.sample_table.specs.declared.made.SampleStop.{SampleStop}
use Rattle.sample_table.specs.declared.made.SampleStop.TheVariants as samples
use Rattle.command_line.specs.declared.schema_file.SchemaStop.{SchemaStop}
use Rattle.command_line.specs.declared.schema_file.SchemaStop.TheVariants.{Refused, Source, Memory}
use Rattle.ibd_cli.specs.declared.status.Status.{Status}
use Rattle.ibd_cli.specs.declared.status.Status.TheVariants as statuses
use Rattle.ibd_cli.specs.declared.forms.Task.{Task}
use Rattle.ibd_cli.specs.declared.forms.Task.TheVariants.{Check, Dump, Cross, Get}
use Rattle.ibd_cli.specs.Outcome.{OfKey, FirstOf, IsDone, IsNoKeyOf, IsAbsentOf, task_steps}
use Rattle.ibd_cli.specs.Outcome.{FindsDifference}
use Rattle.ibd_cli.specs.Run.{ComesBefore, EndsAs, IsOfTask, WritesSome, TakesFew}

-- the status of a command that the schema text stops, that the checks stop, and that a dump stops
abbrev pub status_of_schema : SchemaStop → Status
status_of_schema (Refused line why) = statuses.SchemaRefused line why
status_of_schema Source = statuses.SourceFault
status_of_schema Memory = statuses.Memory

abbrev pub status_of_stop : Stop → Status
status_of_stop (stops.Broken fault) = statuses.Broken fault
status_of_stop stops.Source = statuses.SourceFault
status_of_stop stops.Memory = statuses.Memory

abbrev pub status_of_dump : DumpStop → Status
status_of_dump (dumps.Broken fault) = statuses.Broken fault
status_of_dump dumps.Source = statuses.SourceFault
status_of_dump dumps.Sink = statuses.SinkFault
status_of_dump dumps.Memory = statuses.Memory

-- the status of a command that a comparison stops
abbrev pub status_of_cross : CrossStop → Status
status_of_cross (crosses.Broken fault) = statuses.Broken fault
status_of_cross (crosses.Missing index row) = statuses.CrossMissing index row
status_of_cross (crosses.Extra index page) = statuses.CrossExtra index page
status_of_cross crosses.Source = statuses.SourceFault
status_of_cross crosses.Memory = statuses.Memory

-- the status of a command that a look-up stops
abbrev pub status_of_get : GetStop → Status
status_of_get gets.Refused = statuses.KeyRefused
status_of_get gets.Absent = statuses.Absent
status_of_get (gets.Broken fault) = statuses.Broken fault
status_of_get gets.Source = statuses.SourceFault
status_of_get gets.Sink = statuses.SinkFault
status_of_get gets.Memory = statuses.Memory

-- the status of a command that a build stops
abbrev pub status_of_build : BuildStop → Status
status_of_build (builds.RootPlace line) = statuses.SchemaRefused line whys.Root
status_of_build (builds.RowsRefused line why) = statuses.RowsRefused line why
status_of_build builds.Full = statuses.Full
status_of_build builds.Source = statuses.SourceFault
status_of_build builds.Store = statuses.StoreFault
status_of_build builds.Memory = statuses.Memory

-- the status of a command that a sample stops
abbrev pub status_of_sample : SampleStop → Status
status_of_sample samples.Full = statuses.Full
status_of_sample samples.Memory = statuses.Memory

-- the task isn't done, and so has no output
abbrev pub HasNoOutput : Task → List ℕ → List ℕ → TableDef → Type 0
HasNoOutput task key file table = (output : List ℕ) → ¬ (IsDone task key file table output)

-- a prefix of the output was written
abbrev pub HasPart : Task → List ℕ → List ℕ → TableDef → Option (List ℕ) → Option (List ℕ) → Type 0
HasPart task key file table old new =
    (output : List ℕ) × IsDone task key file table output × GrowsByPart old new output

-- what was written where the file can't be read
abbrev pub EndsUnread : Task → List ℕ → List ℕ → TableDef → Option (List ℕ) → Option (List ℕ) → Type 0
EndsUnread Check key file table old new = new ≡ old
EndsUnread Dump key file table old new =
    (First file table None → HasPart Dump key file table old new) × (¬ (First file table None) → new ≡ old)
EndsUnread Cross key file table old new = new ≡ old
EndsUnread Get key file table old new =
    OfKey table key (λ sought. ((line : List ℕ) → IsLineFound file table sought line → GrowsByPart old new line)
    × (((line : List ℕ) → ¬ (IsLineFound file table sought line)) → new ≡ old))

-- how a task ends at a file, and what was written
abbrev pub Ends : Task → List ℕ → List ℕ → TableDef → Status → Option (List ℕ) → Option (List ℕ) → Type 0
Ends task key file table statuses.Done old new =
    (output : List ℕ) × IsDone task key file table output × GrowsBy old new output
Ends task key file table statuses.KeyRefused old new = IsNoKeyOf task key table × (new ≡ old)
Ends task key file table (statuses.Broken fault) old new = FirstOf task key file table (Some fault) × (new ≡ old)
Ends task key file table statuses.Absent old new = IsAbsentOf task key file table × (new ≡ old)
Ends task key file table (statuses.CrossMissing index row) old new =
    FindsDifference task file (Missing index row) table × (new ≡ old)
Ends task key file table (statuses.CrossExtra index page) old new =
    FindsDifference task file (Extra index page) table × (new ≡ old)
Ends task key file table statuses.SourceFault old new = EndsUnread task key file table old new
Ends task key file table statuses.SinkFault old new = HasPart task key file table old new
Ends task key file table statuses.Memory old new = new ≡ old
Ends task key file table _ old new = ⊥

-- a status that ends a task after its schema was read
abbrev pub IsOfFile : Task → Status → Type 0
IsOfFile task (statuses.SchemaRefused line why) = ⊥
IsOfFile task status = IsOfTask task status

-- what a task does to the file and the output, and how it ends
pub record ServesFile {F O : Type 0} (f : FileOf F) (o : SinkOf O) (task : Task) (key : List ℕ) (file file_now : F)
    (table : TableDef) (out out_now : O) (steps steps_now : ℕ) (status : Status) : Type 0 where
  pub ends : OfFile f file (λ content. Ends task key content table status (o.written out) (o.written out_now))
  pub of_file : IsOfFile task status
  -- a text that is no key's is refused before the file is touched
  pub unkeyed : status ≡ statuses.KeyRefused → IsNoKeyOf task key table
  pub unsought : IsNoKeyOf task key table → (file_now ≡ file) × (steps_now ≡ steps) × EndsAs statuses.KeyRefused status
  pub silent : OfFile f file (λ content. HasNoOutput task key content table → out_now ≡ out)
  pub unwritten : ComesBefore task status → out_now ≡ out
  pub some : status ≡ statuses.Done → WritesSome task table (o.written out) (o.written out_now)
  pub few : OfFile f file (λ content. TakesFew task key content table
      (record { steps = steps; fetches = f.fetches file }) (record { steps = steps_now; fetches = f.fetches file_now }))
  pub source : status ≡ statuses.SourceFault → Rose (f.faults file) (f.faults file_now)
  pub sink : status ≡ statuses.SinkFault → Rose (o.faults out) (o.faults out_now)
  pub content : f.content file_now ≡ f.content file
  pub cost : TakesSteps f file (task_steps task) steps steps_now
  pub fetches : AsksAtMost f file file_now (task_steps task)
