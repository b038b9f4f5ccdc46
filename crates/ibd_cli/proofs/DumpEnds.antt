-- How a dump ends.
use Rattle.std.proofs.Common.{◌≡◌, ℕ, ◌+◌, ◌≤◌, List, Option, None, Ok, Err, refl, ap}
use Rattle.page_source.specs.declared.objects.PageSource.{Ghosts as FileOf}
use Rattle.page_source.specs.declared.objects.ByteSink.{Ghosts as SinkOf}
use Rattle.page_source.specs.Calls.{OfFile}
use Rattle.page_source.specs.Pages.{page_count}
use Rattle.page_source.proofs.Told.{map_told}
use Rattle.schema_text.specs.TableDef.{TableDef}
use Rattle.table_check.specs.declared.table.Checked.{Checked}
use Rattle.table_check.specs.First.{First, TakesSteps, AsksAtMost, check_steps, dump_steps}
use Rattle.table_check.specs.Laws.{ChecksAreValidity}
use Rattle.sql_dump.specs.declared.stop.DumpStop.{DumpStop}
use Rattle.sql_dump.specs.declared.stop.DumpStop.TheVariants.{Broken, Source, Sink, Memory}
use Rattle.sql_dump.specs.Dump.{GrewByPart, IsDumped, Dumps, DumpsOver, row_pages}
use Rattle.sql_dump.specs.SomeRows.{GrowsByRows}
use Rattle.ibd_cli.specs.declared.status.Status.TheVariants as statuses
use Rattle.ibd_cli.specs.declared.forms.Task.TheVariants.{Dump}
use Rattle.ibd_cli.specs.Outcome.{IsDone}
use Rattle.ibd_cli.specs.Run.{ComesBefore}
use Rattle.ibd_cli.specs.Answers.{status_of_dump, HasNoOutput, HasPart, Ends, IsOfFile, ServesFile}

-- the output of a sound file
part_of : (law : ChecksAreValidity) (key file : List ℕ) (table : TableDef) (old new : Option (List ℕ))
    → First file table None → GrewByPart file table old new → HasPart Dump key file table old new
part_of law key file table old new sound part =
    (part.0, record { sound = sound; valid = (law file table).0 sound; written = part.1 }, part.2)

module _ {F O : Type 0} (law : ChecksAreValidity) (key file : List ℕ) (table : TableDef) (f : FileOf F) (o : SinkOf O)
    (source source_now : F) (out out_now : O) (steps steps_now : ℕ) where
  stop_ends : (stop : DumpStop) → DumpsOver f o source source_now out out_now steps steps_now (Err stop)
      → Dumps o file table (Err stop) out out_now
      → Ends Dump key file table (status_of_dump stop) (o.written out) (o.written out_now)
  stop_ends (Broken fault) over told = (told.0, ap o.written told.1)
  stop_ends Source over told = (
    (λ sound. part_of law key file table (o.written out) (o.written out_now) sound (told.0 sound)),
    (λ unsound. ap o.written (told.1 unsound)),
  )
  stop_ends Sink over told = part_of law key file table (o.written out) (o.written out_now) told.0 told.1
  stop_ends Memory over told = ap o.written (over.unwritten refl)

  -- without an output the sink is as before
  stop_silent : (stop : DumpStop) → DumpsOver f o source source_now out out_now steps steps_now (Err stop)
      → Dumps o file table (Err stop) out out_now → HasNoOutput Dump key file table → out_now ≡ out
  stop_silent (Broken fault) over told none = told.1
  stop_silent Source over told none =
      told.1 (λ sound.
      let part = part_of law key file table (o.written out) (o.written out_now) sound (told.0 sound) in
      none part.0 part.1)
  stop_silent Sink over told none =
      let part = part_of law key file table (o.written out) (o.written out_now) told.0 told.1 in
      absurd (none part.0 part.1)
  stop_silent Memory over told none = over.unwritten refl

stop_of_file : (stop : DumpStop) → IsOfFile Dump (status_of_dump stop)
stop_of_file (Broken fault) = tt
stop_of_file Source = tt
stop_of_file Sink = tt
stop_of_file Memory = tt

never_done : (stop : DumpStop) → status_of_dump stop ≡ statuses.Done → ⊥
never_done (Broken fault) is = cc
never_done Source is = cc
never_done Sink is = cc
never_done Memory is = cc

never_keyed : (stop : DumpStop) → status_of_dump stop ≡ statuses.KeyRefused → ⊥
never_keyed (Broken fault) is = cc
never_keyed Source is = cc
never_keyed Sink is = cc
never_keyed Memory is = cc

is_source : (stop : DumpStop) → status_of_dump stop ≡ statuses.SourceFault → stop ≡ Source
is_source (Broken fault) is = absurd (cc)
is_source Source is = refl
is_source Sink is = absurd (cc)
is_source Memory is = absurd (cc)

is_sink : (stop : DumpStop) → status_of_dump stop ≡ statuses.SinkFault → stop ≡ Sink
is_sink (Broken fault) is = absurd (cc)
is_sink Source is = absurd (cc)
is_sink Sink is = refl
is_sink Memory is = absurd (cc)

is_memory : (stop : DumpStop) → ComesBefore Dump (status_of_dump stop) → stop ≡ Memory
is_memory (Broken fault) before = absurd before
is_memory Source before = absurd before
is_memory Sink before = absurd before
is_memory Memory before = refl

pub dump_stopped : {F O : Type 0} (law : ChecksAreValidity) (key : List ℕ) (f : FileOf F) (o : SinkOf O)
    (file file_now : F) (table : TableDef) (out out_now : O) (steps steps_now : ℕ) (stop : DumpStop)
    → OfFile f file (λ content. Dumps o content table (Err stop) out out_now)
    → DumpsOver f o file file_now out out_now steps steps_now (Err stop)
    → TakesSteps f file dump_steps steps steps_now → AsksAtMost f file file_now dump_steps
    → OfFile f file (λ content. f.fetches file_now
    ≤ f.fetches file + check_steps (page_count content) + row_pages content table)
    → ServesFile f o Dump key file file_now table out out_now steps steps_now (status_of_dump stop)
dump_stopped law key f o file file_now table out out_now steps steps_now stop told over cost fetches again =
    record {
      ends = map_told (f.content file)
          (λ content dumps. stop_ends law key content table f o file file_now out out_now steps steps_now stop over
          dumps) told;
      of_file = stop_of_file stop;
      unkeyed = λ is. absurd (never_keyed stop is);
      unsought = λ none. absurd none;
      silent = map_told (f.content file)
          (λ content dumps. stop_silent law key content table f o file file_now out out_now steps steps_now stop over
          dumps) told;
      unwritten = λ before. over.unwritten (ap Err (is_memory stop before));
      some = λ is. absurd (never_done stop is);
      few = again;
      source = λ same. over.source_rose (ap Err (is_source stop same));
      sink = λ same. over.sink_rose (ap Err (is_sink stop same));
      content = over.same;
      cost = cost;
      fetches = fetches;
    }

-- no rule is broken, and the dump is the output
is_done : (key file : List ℕ) (table : TableDef) (checked : Checked) (old new : Option (List ℕ))
    (done : IsDumped file table checked old new) → IsDone Dump key file table done.written.0
is_done key file table checked old new done =
    record { sound = done.sound; valid = done.valid; written = done.written.1 }

pub dump_done : {F O : Type 0} (key : List ℕ) (f : FileOf F) (o : SinkOf O) (file file_now : F) (table : TableDef)
    (out out_now : O) (steps steps_now : ℕ) (checked : Checked)
    → OfFile f file (λ content. Dumps o content table (Ok checked) out out_now)
    → DumpsOver f o file file_now out out_now steps steps_now (Ok checked)
    → GrowsByRows table (o.written out) (o.written out_now) checked.rows
    → TakesSteps f file dump_steps steps steps_now → AsksAtMost f file file_now dump_steps
    → OfFile f file (λ content. f.fetches file_now
    ≤ f.fetches file + check_steps (page_count content) + row_pages content table)
    → ServesFile f o Dump key file file_now table out out_now steps steps_now statuses.Done
dump_done key f o file file_now table out out_now steps steps_now checked told over lines cost fetches again =
    record {
      ends = map_told (f.content file)
          (λ content dumped. (
            dumped.written.0,
            is_done key content table checked (o.written out) (o.written out_now) dumped,
            dumped.written.2,
          )) told;
      of_file = tt;
      unkeyed = λ is. absurd (cc);
      unsought = λ none. absurd none;
      silent = map_told (f.content file)
          (λ content dumped none. absurd (none dumped.written.0
          (is_done key content table checked (o.written out) (o.written out_now) dumped))) told;
      unwritten = λ before. absurd before;
      some = λ is. (checked, lines);
      few = again;
      source = λ is. absurd (cc);
      sink = λ is. absurd (cc);
      content = over.same;
      cost = cost;
      fetches = fetches;
    }
