-- How a comparison of the indexes with the rows ends.
use Rattle.std.proofs.Common.{◌≡◌, ℕ, List, Option, Ok, Err, refl, ap}
use Rattle.page_source.specs.declared.objects.PageSource.{Ghosts as FileOf}
use Rattle.page_source.specs.declared.objects.ByteSink.{Ghosts as SinkOf}
use Rattle.page_source.specs.Faults.{Rose}
use Rattle.page_source.specs.Objects.{GrowsBy, GrowsByPart}
use Rattle.page_source.specs.Calls.{OfFile}
use Rattle.page_source.proofs.Told.{if_told, map_told}
use Rattle.schema_text.specs.TableDef.{TableDef}
use Rattle.table_check.specs.First.{TakesSteps, AsksAtMost, dump_steps}
use Rattle.table_check.specs.Laws.{ChecksAreValidity}
use Rattle.cross_index.specs.declared.crossed.Crossed.{Crossed}
use Rattle.cross_index.specs.declared.crossed.CrossStop.{CrossStop}
use Rattle.cross_index.specs.declared.crossed.CrossStop.TheVariants.{Broken, Missing, Extra, Source, Memory}
use Rattle.cross_index.specs.Cross.{Crosses}
use Rattle.cross_index.specs.Stops.{CrossesOver}
use Rattle.ibd_cli.specs.declared.status.Status.TheVariants as statuses
use Rattle.ibd_cli.specs.declared.forms.Task.TheVariants.{Cross}
use Rattle.ibd_cli.specs.Outcome.{crossed_line, IsDone}
use Rattle.ibd_cli.specs.Answers.{status_of_cross, Ends, IsOfFile, ServesFile}

stop_ends : (key file : List ℕ) (table : TableDef) (stop : CrossStop) (o : Option (List ℕ))
    → Crosses file table (Err stop) → Ends Cross key file table (status_of_cross stop) o o
stop_ends key file table (Broken fault) o told = (told, refl)
stop_ends key file table (Missing index row) o told = (told, refl)
stop_ends key file table (Extra index page) o told = (told, refl)
stop_ends key file table Source o told = refl
stop_ends key file table Memory o told = refl

stop_of_file : (stop : CrossStop) → IsOfFile Cross (status_of_cross stop)
stop_of_file (Broken fault) = tt
stop_of_file (Missing index row) = tt
stop_of_file (Extra index page) = tt
stop_of_file Source = tt
stop_of_file Memory = tt

never_done : (stop : CrossStop) → status_of_cross stop ≡ statuses.Done → ⊥
never_done (Broken fault) is = cc
never_done (Missing index row) is = cc
never_done (Extra index page) is = cc
never_done Source is = cc
never_done Memory is = cc

never_keyed : (stop : CrossStop) → status_of_cross stop ≡ statuses.KeyRefused → ⊥
never_keyed (Broken fault) is = cc
never_keyed (Missing index row) is = cc
never_keyed (Extra index page) is = cc
never_keyed Source is = cc
never_keyed Memory is = cc

never_sink : (stop : CrossStop) → status_of_cross stop ≡ statuses.SinkFault → ⊥
never_sink (Broken fault) is = cc
never_sink (Missing index row) is = cc
never_sink (Extra index page) is = cc
never_sink Source is = cc
never_sink Memory is = cc

is_source : (stop : CrossStop) → status_of_cross stop ≡ statuses.SourceFault → stop ≡ Source
is_source (Broken fault) is = absurd (cc)
is_source (Missing index row) is = absurd (cc)
is_source (Extra index page) is = absurd (cc)
is_source Source is = refl
is_source Memory is = absurd (cc)

pub cross_stopped : {F O : Type 0} (key : List ℕ) (f : FileOf F) (o : SinkOf O) (file file_now : F) (table : TableDef)
    (out : O) (steps steps_now : ℕ) (stop : CrossStop) → OfFile f file (λ content. Crosses content table (Err stop))
    → CrossesOver {A = Crossed} f file file_now steps steps_now (Err stop)
    → TakesSteps f file dump_steps steps steps_now → AsksAtMost f file file_now dump_steps
    → ServesFile f o Cross key file file_now table out out steps steps_now (status_of_cross stop)
cross_stopped key f o file file_now table out steps steps_now stop told over cost fetches =
    record {
      ends = map_told (f.content file) (λ content crosses. stop_ends key content table stop (o.written out) crosses)
          told;
      of_file = stop_of_file stop;
      unkeyed = λ is. absurd (never_keyed stop is);
      unsought = λ none. absurd none;
      silent = if_told (f.content file) (λ content none. refl);
      unwritten = λ before. refl;
      some = λ is. absurd (never_done stop is);
      few = if_told (f.content file) (λ content. tt);
      source = λ same. over.rose (ap Err (is_source stop same));
      sink = λ same. absurd (never_sink stop same);
      content = over.same;
      cost = cost;
      fetches = fetches;
    }

module _ {F O : Type 0} (law : ChecksAreValidity) (key : List ℕ) (f : FileOf F) (o : SinkOf O) (file file_now : F)
    (table : TableDef) (out out_now : O) (steps steps_now : ℕ) (crossed : Crossed)
    (told : OfFile f file (λ content. Crosses content table (Ok crossed)))
    (over : CrossesOver f file file_now steps steps_now (Ok crossed))
    (cost : TakesSteps f file dump_steps steps steps_now) (fetches : AsksAtMost f file file_now dump_steps) where
  -- the indexes have the keys of the rows, and the line of the numbers is the output
  has_line : OfFile f file (λ content. IsDone Cross key content table (crossed_line crossed))
  has_line =
      map_told (f.content file) (λ content crosses. record {
        sound = (law content table).1 crosses.0.valid;
        valid = crosses.0.valid;
        written = record {
          same = crosses.0.differ;
          crossed = crossed;
          numbers = crosses.1;
          written = refl;
        };
      }) told

  pub cross_done : GrowsBy (o.written out) (o.written out_now) (crossed_line crossed)
      → ServesFile f o Cross key file file_now table out out_now steps steps_now statuses.Done
  cross_done grows = record {
    ends = map_told (f.content file) (λ content done. (crossed_line crossed, done, grows)) has_line;
    of_file = tt;
    unkeyed = λ is. absurd (cc);
    unsought = λ none. absurd none;
    silent = map_told (f.content file) (λ content done none. absurd (none (crossed_line crossed) done)) has_line;
    unwritten = λ before. absurd (before.0 refl);
    some = λ is. (crossed, grows);
    few = if_told (f.content file) (λ content. tt);
    source = λ is. absurd (cc);
    sink = λ is. absurd (cc);
    content = over.same;
    cost = cost;
    fetches = fetches;
  }

  pub cross_unput : GrowsByPart (o.written out) (o.written out_now) (crossed_line crossed)
      → Rose (o.faults out) (o.faults out_now)
      → ServesFile f o Cross key file file_now table out out_now steps steps_now statuses.SinkFault
  cross_unput grows rose = record {
    ends = map_told (f.content file) (λ content done. (crossed_line crossed, done, grows)) has_line;
    of_file = tt;
    unkeyed = λ is. absurd (cc);
    unsought = λ none. absurd none;
    silent = map_told (f.content file) (λ content done none. absurd (none (crossed_line crossed) done)) has_line;
    unwritten = λ before. absurd (before.1 refl);
    some = λ is. absurd (cc);
    few = if_told (f.content file) (λ content. tt);
    source = λ is. absurd (cc);
    sink = λ is. rose;
    content = over.same;
    cost = cost;
    fetches = fetches;
  }
