-- What ends a comparison, from what ends the calls that it makes, and what it leaves of the file.
use Rattle.std.specs.Prelude.{◌≡◌, ℕ, ◌≤◌, ⊤, Result, Ok, Err}
use Rattle.page_source.specs.declared.objects.PageSource.{Ghosts as FileOf}
use Rattle.page_source.specs.declared.checks.Halt.{Halt}
use Rattle.page_source.specs.declared.checks.Halt.TheVariants as halts
use Rattle.page_source.specs.declared.checks.Stop.{Stop}
use Rattle.page_source.specs.declared.checks.Stop.TheVariants as checks
use Rattle.page_source.specs.Faults.{Rose}
use Rattle.page_source.specs.Calls.{AsksNoMore}
use Rattle.cross_index.specs.declared.crossed.CrossStop.{CrossStop}
use Rattle.cross_index.specs.declared.crossed.CrossStop.TheVariants as stops

-- what a halt and a stop of the checks are to a comparison
abbrev pub cross_stop_of : Halt → CrossStop
cross_stop_of (halts.Broken fault) = stops.Broken fault
cross_stop_of halts.Source = stops.Source

abbrev pub cross_stop_of_checks : Stop → CrossStop
cross_stop_of_checks (checks.Broken fault) = stops.Broken fault
cross_stop_of_checks checks.Source = stops.Source
cross_stop_of_checks checks.Memory = stops.Memory

-- a call that reads finds no rule broken in a file that tells its bytes
abbrev pub OnlyReads : {A : Type 0} → Result A CrossStop → Type 0
OnlyReads (Ok a) = ⊤
OnlyReads (Err (stops.Broken fault)) = ⊥
OnlyReads (Err (stops.Missing index row)) = ⊥
OnlyReads (Err (stops.Extra index page)) = ⊥
OnlyReads (Err stops.Source) = ⊤
OnlyReads (Err stops.Memory) = ⊤

-- the file is as before, its count of faults never fell, it is blamed only if the count rose, and each page that it was
-- asked for was counted
pub record CrossesOver {S A : Type 0} (g : FileOf S) (old new : S) (steps steps_now : ℕ) (result : Result A CrossStop)
    : Type 0 where
  pub same : g.content new ≡ g.content old
  pub later : g.faults old ≤ g.faults new
  pub rose : result ≡ Err stops.Source → Rose (g.faults old) (g.faults new)
  pub asked : AsksNoMore g old new steps steps_now
