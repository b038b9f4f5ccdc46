-- What ends a dump, from what ends the calls that it makes; and what a call that writes answers.
use Rattle.std.specs.Prelude.{◌≡◌, ◌≤◌, ℕ, List, Option, Result, Ok, Err}
use Rattle.page_source.specs.declared.objects.PageSource.{Ghosts as FileOf}
use Rattle.page_source.specs.declared.objects.ByteSink.{Ghosts as SinkOf}
use Rattle.page_source.specs.declared.checks.Halt.{Halt}
use Rattle.page_source.specs.declared.checks.Halt.TheVariants as halts
use Rattle.page_source.specs.declared.checks.Stop.{Stop}
use Rattle.page_source.specs.declared.checks.Stop.TheVariants as stops
use Rattle.page_source.specs.Faults.{Rose}
use Rattle.page_source.specs.Calls.{AsksNoMore}
use Rattle.page_source.specs.Objects.{GrowsBy, GrowsByPart}
use Rattle.sql_dump.specs.declared.stop.WriteStop.{WriteStop}
use Rattle.sql_dump.specs.declared.stop.WriteStop.TheVariants.{Broken, Source, Sink}
use Rattle.sql_dump.specs.declared.stop.DumpStop.{DumpStop}
use Rattle.sql_dump.specs.declared.stop.DumpStop.TheVariants as dumps

-- what a halt, the end of the writing and a stop of the checks are to a dump
abbrev pub write_stop_of : Halt → WriteStop
write_stop_of (halts.Broken fault) = Broken fault
write_stop_of halts.Source = Source

abbrev pub dump_stop_of : WriteStop → DumpStop
dump_stop_of (Broken fault) = dumps.Broken fault
dump_stop_of Source = dumps.Source
dump_stop_of Sink = dumps.Sink

abbrev pub dump_stop_of_checks : Stop → DumpStop
dump_stop_of_checks (stops.Broken fault) = dumps.Broken fault
dump_stop_of_checks stops.Source = dumps.Source
dump_stop_of_checks stops.Memory = dumps.Memory

-- a text was put, or a prefix of it if an object failed; no rule is found broken
abbrev pub Writes : {A : Type 0} → Result A WriteStop → Option (List ℕ) → Option (List ℕ) → List ℕ → Type 0
Writes (Ok a) old new text = GrowsBy old new text
Writes (Err (Broken fault)) old new text = ⊥
Writes (Err Source) old new text = GrowsByPart old new text
Writes (Err Sink) old new text = GrowsByPart old new text

-- the file is as before, no count of faults fell, an object is blamed only if its own rose, and each page that the
-- file was asked for was counted
pub record WritesOver {S O A : Type 0} (g : FileOf S) (o : SinkOf O) (old new : S) (sink sink_now : O)
    (steps steps_now : ℕ) (result : Result A WriteStop) : Type 0 where
  pub same : g.content new ≡ g.content old
  pub source_later : g.faults old ≤ g.faults new
  pub sink_later : o.faults sink ≤ o.faults sink_now
  pub source_rose : result ≡ Err Source → Rose (g.faults old) (g.faults new)
  pub sink_rose : result ≡ Err Sink → Rose (o.faults sink) (o.faults sink_now)
  pub asked : AsksNoMore g old new steps steps_now
