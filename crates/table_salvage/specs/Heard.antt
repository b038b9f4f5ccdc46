-- What the report got of a text, once it may have failed.
use Rattle.std.specs.Prelude.{◌≡◌, ◌≤◌, ℕ, Bool, true, false, List, Option, Result}
use Rattle.page_source.specs.declared.objects.ByteSink.{Ghosts as SinkOf}
use Rattle.page_source.specs.Faults.{Rose}
use Rattle.page_source.specs.Objects.{GrowsBy, GrowsByPart}
use Rattle.schema_text.specs.TableDef.{TableDef}
use Rattle.salvage_model.specs.declared.saved.Saved.{Saved}
use Rattle.salvage_model.specs.declared.stop.SalvageStop.{SalvageStop}
use Rattle.salvage_model.specs.Causes.{Counts}
use Rattle.salvage_model.specs.Salvage.{Wanted, Written, Told, heeded, unheeded, SalvagesBy}

-- the report got all of a text, or a prefix if it failed
abbrev pub HasGot : Bool → Option (List ℕ) → Option (List ℕ) → List ℕ → Type 0
HasGot false old new text = GrowsBy old new text
HasGot true old new text = GrowsByPart old new text

-- what the report got of a text that comes next: none of it if the report had failed before
abbrev pub GetsNext : Bool → Bool → Option (List ℕ) → Option (List ℕ) → List ℕ → Type 0
GetsNext true failed old new text = (failed ≡ true) × (new ≡ old)
GetsNext false failed old new text = HasGot failed old new text

-- the report fails only if its count of faults rises
abbrev pub FailsRising : Bool → Bool → ℕ → ℕ → Type 0
FailsRising before failed faults faults_now = before ≡ false → failed ≡ true → Rose faults faults_now

-- a text was put to a report that may have failed
pub record Hears {E : Type 0} (e : SinkOf E) (old new : E) (before failed : Bool) (text : List ℕ) : Type 0 where
  pub got : GetsNext before failed (e.written old) (e.written new) text
  pub later : e.faults old ≤ e.faults new
  pub rose : FailsRising before failed (e.faults old) (e.faults new)

-- what is said of a report whose failure ends a salvage, or not
abbrev pub told_of : Bool → TableDef → Written → Written → ℕ → ℕ → Told
told_of true table old new faults faults_now = heeded table old new
told_of false table old new faults faults_now = unheeded table old new faults faults_now

-- the answer over a file that is told, and what both outputs then hold, if a failure of the report ends it, or not
abbrev pub SalvagesHeeding : {O E : Type 0} → SinkOf O → SinkOf E → Bool → List ℕ → Wanted → Counts → Counts
    → Result Saved SalvageStop → O × E → O × E → Type 0
SalvagesHeeding o e heeds file wanted before now result old new =
    let written : Written = record { sink = o.written old.0; losses = e.written old.1 } in
    let written_now : Written = record { sink = o.written new.0; losses = e.written new.1 } in
    SalvagesBy (told_of heeds wanted.table written written_now (e.faults old.1) (e.faults new.1)) file wanted before now
    result written written_now
