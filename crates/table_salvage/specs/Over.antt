-- What a part of a salvage leaves of the three objects and of the steps, told or not.
use Rattle.std.specs.Prelude.{◌≡◌, ◌≢◌, ◌+◌, ◌*◌, ◌≤◌, ℕ, Bool, List, Result, Err}
use Rattle.page_source.specs.declared.objects.PageSource.{Ghosts as FileOf}
use Rattle.page_source.specs.declared.objects.ByteSink.{Ghosts as SinkOf}
use Rattle.page_source.specs.declared.rule.Fault.{Fault}
use Rattle.page_source.specs.Faults.{Rose}
use Rattle.page_source.specs.Lists.{unmarked}
use Rattle.page_source.specs.Calls.{AsksNoMore}
use Rattle.salvage_model.specs.declared.stop.SalvageStop.{SalvageStop}
use Rattle.salvage_model.specs.declared.stop.SalvageStop.TheVariants.{Root, Source, Sink, Losses, Memory, Changed}
use Rattle.salvage_model.specs.Salvage.{IsChange}
use Rattle.table_salvage.specs.Heard.{FailsRising}

-- the file is as before, no count of faults fell, an object is blamed only where its own rose, and the report never is,
-- but fails only where its own does
pub record PartOver {S O E A : Type 0} (g : FileOf S) (o : SinkOf O) (e : SinkOf E) (old new : S × O × E)
    (unheard unheard_now : Bool) (steps steps_now : ℕ) (result : Result A SalvageStop) : Type 0 where
  pub same : g.content new.0 ≡ g.content old.0
  pub source_later : g.faults old.0 ≤ g.faults new.0
  pub sink_later : o.faults old.1 ≤ o.faults new.1
  pub losses_later : e.faults old.2 ≤ e.faults new.2
  pub source_rose : result ≡ Err Source → Rose (g.faults old.0) (g.faults new.0)
  pub sink_rose : result ≡ Err Sink → Rose (o.faults old.1) (o.faults new.1)
  pub losses_rose : FailsRising unheard unheard_now (e.faults old.2) (e.faults new.2)
  pub losses : result ≢ Err Losses
  pub root : result ≢ Err Root
  pub memory : result ≢ Err Memory
  pub changed : (fault : Fault) → result ≡ Err (Changed fault) → IsChange fault
  pub asked : AsksNoMore g old.0 new.0 steps steps_now

-- the steps are paid for by so many pages and by the marks that were set, each twice
abbrev pub IsPaid : ℕ → List Bool → List Bool → ℕ → ℕ → Type 0
IsPaid pages before after steps steps_now = steps_now + 2 * unmarked after ≤ steps + pages + 2 * unmarked before
