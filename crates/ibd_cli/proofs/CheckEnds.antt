-- How a check ends.
use Rattle.std.proofs.Common.{◌≡◌, ℕ, List, Option, None, Ok, Err, refl, ap}
use Rattle.page_source.specs.declared.objects.PageSource.{Ghosts as FileOf}
use Rattle.page_source.specs.declared.objects.ByteSink.{Ghosts as SinkOf}
use Rattle.page_source.specs.declared.checks.Stop.{Stop}
use Rattle.page_source.specs.declared.checks.Stop.TheVariants.{Broken, Source, Memory}
use Rattle.page_source.specs.Faults.{Rose}
use Rattle.page_source.specs.Objects.{GrowsBy, GrowsByPart}
use Rattle.page_source.specs.Checks.{Stops}
use Rattle.page_source.specs.Calls.{OfFile, StopsOver}
use Rattle.page_source.proofs.Told.{if_told, map_told, map_told3}
use Rattle.schema_text.specs.TableDef.{TableDef}
use Rattle.table_check.specs.declared.table.Checked.{Checked}
use Rattle.table_check.specs.First.{First, IsChecked, TakesSteps, AsksAtMost, check_steps}
use Rattle.table_check.specs.Valid.{IsValid}
use Rattle.ibd_cli.specs.declared.status.Status.TheVariants as statuses
use Rattle.ibd_cli.specs.declared.forms.Task.TheVariants.{Check}
use Rattle.ibd_cli.specs.Outcome.{checked_line, IsDone}
use Rattle.ibd_cli.specs.Answers.{status_of_stop, Ends, IsOfFile, ServesFile}

stop_ends : (key file : List ℕ) (table : TableDef) (stop : Stop) (o : Option (List ℕ)) → Stops stop (First file table)
    → Ends Check key file table (status_of_stop stop) o o
stop_ends key file table (Broken fault) o told = (told, refl)
stop_ends key file table Source o told = refl
stop_ends key file table Memory o told = refl

stop_of_file : (stop : Stop) → IsOfFile Check (status_of_stop stop)
stop_of_file (Broken fault) = tt
stop_of_file Source = tt
stop_of_file Memory = tt

never_done : (stop : Stop) → status_of_stop stop ≡ statuses.Done → ⊥
never_done (Broken fault) is = cc
never_done Source is = cc
never_done Memory is = cc

never_keyed : (stop : Stop) → status_of_stop stop ≡ statuses.KeyRefused → ⊥
never_keyed (Broken fault) is = cc
never_keyed Source is = cc
never_keyed Memory is = cc

never_sink : (stop : Stop) → status_of_stop stop ≡ statuses.SinkFault → ⊥
never_sink (Broken fault) is = cc
never_sink Source is = cc
never_sink Memory is = cc

is_source : (stop : Stop) → status_of_stop stop ≡ statuses.SourceFault → stop ≡ Source
is_source (Broken fault) is = absurd (cc)
is_source Source is = refl
is_source Memory is = absurd (cc)

module _ {F O : Type 0} (key : List ℕ) (f : FileOf F) (o : SinkOf O) (file file_now : F) (table : TableDef)
    (out out_now : O) (steps steps_now : ℕ) (cost : TakesSteps f file check_steps steps steps_now)
    (fetches : AsksAtMost f file file_now check_steps) where
  pub check_stopped : (stop : Stop) → OfFile f file (λ content. Stops stop (First content table))
      → StopsOver {A = Checked} f file file_now steps steps_now (Err stop)
      → ServesFile f o Check key file file_now table out out steps steps_now (status_of_stop stop)
  check_stopped stop told over = record {
    ends = map_told (f.content file) (λ content stops. stop_ends key content table stop (o.written out) stops) told;
    of_file = stop_of_file stop;
    unkeyed = λ is. absurd (never_keyed stop is);
    unsought = λ none. absurd none;
    silent = if_told (f.content file) (λ content none. refl);
    unwritten = λ before. refl;
    some = λ is. absurd (never_done stop is);
    few = if_told (f.content file) (λ content. tt);
    source = λ same. over.cause.source (ap Err (is_source stop same));
    sink = λ same. absurd (never_sink stop same);
    content = over.same;
    cost = cost;
    fetches = fetches;
  }

  module _ (checked : Checked) (sound : OfFile f file (λ content. First content table None))
      (valid : OfFile f file (λ content. IsValid content table))
      (numbers : OfFile f file (λ content. IsChecked content table checked))
      (over : StopsOver f file file_now steps steps_now (Ok checked)) where
    -- no rule is broken, and the line of the numbers is the output
    has_line : OfFile f file (λ content. IsDone Check key content table (checked_line checked))
    has_line =
        map_told3 (f.content file)
        (λ content first whole are.
        record { sound = first; valid = whole; written = (checked, are, refl) }) sound valid numbers

    pub check_done : GrowsBy (o.written out) (o.written out_now) (checked_line checked)
        → ServesFile f o Check key file file_now table out out_now steps steps_now statuses.Done
    check_done grows = record {
      ends = map_told (f.content file) (λ content done. (checked_line checked, done, grows)) has_line;
      of_file = tt;
      unkeyed = λ is. absurd (cc);
      unsought = λ none. absurd none;
      silent = map_told (f.content file) (λ content done none. absurd (none (checked_line checked) done)) has_line;
      unwritten = λ before. absurd (before.0 refl);
      some = λ is. (checked, grows);
      few = if_told (f.content file) (λ content. tt);
      source = λ is. absurd (cc);
      sink = λ is. absurd (cc);
      content = over.same;
      cost = cost;
      fetches = fetches;
    }

    pub check_unput : GrowsByPart (o.written out) (o.written out_now) (checked_line checked)
        → Rose (o.faults out) (o.faults out_now)
        → ServesFile f o Check key file file_now table out out_now steps steps_now statuses.SinkFault
    check_unput grows rose = record {
      ends = map_told (f.content file) (λ content done. (checked_line checked, done, grows)) has_line;
      of_file = tt;
      unkeyed = λ is. absurd (cc);
      unsought = λ none. absurd none;
      silent = map_told (f.content file) (λ content done none. absurd (none (checked_line checked) done)) has_line;
      unwritten = λ before. absurd (before.1 refl);
      some = λ is. absurd (cc);
      few = if_told (f.content file) (λ content. tt);
      source = λ is. absurd (cc);
      sink = λ is. rose;
      content = over.same;
      cost = cost;
      fetches = fetches;
    }
