-- How a look-up ends.
use Rattle.std.proofs.Common.{◌≡◌, ◌⊎◌, ℕ, ◌+◌, ◌≤◌, List, Option, Result, Ok, Err, OnOk, refl, ap, inl, inr}
use Rattle.std.proofs.Common.{arith}
use Rattle.page_source.specs.declared.objects.PageSource.{Ghosts as FileOf}
use Rattle.page_source.specs.declared.objects.ByteSink.{Ghosts as SinkOf}
use Rattle.page_source.specs.Calls.{OfFile}
use Rattle.page_source.proofs.Told.{map_told}
use Rattle.column_values.specs.Order.{Key}
use Rattle.schema_text.specs.TableDef.{TableDef}
use Rattle.table_check.specs.First.{TakesSteps, AsksAtMost}
use Rattle.sql_dump.specs.SomeRows.{GrowsByRows}
use Rattle.key_lookup.specs.declared.stop.GetStop.{GetStop}
use Rattle.key_lookup.specs.declared.stop.GetStop.TheVariants.{Refused, Absent, Broken, Source, Sink, Memory}
use Rattle.key_lookup.specs.KeyOfText.{SpellsKey, IsNoKey}
use Rattle.key_lookup.specs.Get.{IsLineFound, Gets, GetsOver, TouchesNothing, get_steps, steps_for}
use Rattle.ibd_cli.specs.declared.status.Status.TheVariants as statuses
use Rattle.ibd_cli.specs.declared.forms.Task.TheVariants.{Get}
use Rattle.ibd_cli.specs.Outcome.{IsDone}
use Rattle.ibd_cli.specs.Run.{ComesBefore, EndsAs, TakesFew}
use Rattle.ibd_cli.specs.Answers.{status_of_get, HasNoOutput, Ends, IsOfFile, ServesFile}

-- the line of a key that is sought is the output
line_done : (key file : List ℕ) (table : TableDef) (sought : Key) (line : List ℕ) → SpellsKey table key sought
    → IsLineFound file table sought line → IsDone Get key file table line
line_done key file table sought line spells found = record {
  sound = (sought, spells, found.good);
  valid = tt;
  written = (sought, spells, found);
}

stop_of_file : (stop : GetStop) → IsOfFile Get (status_of_get stop)
stop_of_file Refused = tt
stop_of_file Absent = tt
stop_of_file (Broken fault) = tt
stop_of_file Source = tt
stop_of_file Sink = tt
stop_of_file Memory = tt

never_done : (stop : GetStop) → status_of_get stop ≡ statuses.Done → ⊥
never_done Refused is = cc
never_done Absent is = cc
never_done (Broken fault) is = cc
never_done Source is = cc
never_done Sink is = cc
never_done Memory is = cc

is_refused : (stop : GetStop) → status_of_get stop ≡ statuses.KeyRefused → stop ≡ Refused
is_refused Refused is = refl
is_refused Absent is = absurd (cc)
is_refused (Broken fault) is = absurd (cc)
is_refused Source is = absurd (cc)
is_refused Sink is = absurd (cc)
is_refused Memory is = absurd (cc)

is_source : (stop : GetStop) → status_of_get stop ≡ statuses.SourceFault → stop ≡ Source
is_source Refused is = absurd (cc)
is_source Absent is = absurd (cc)
is_source (Broken fault) is = absurd (cc)
is_source Source is = refl
is_source Sink is = absurd (cc)
is_source Memory is = absurd (cc)

is_sink : (stop : GetStop) → status_of_get stop ≡ statuses.SinkFault → stop ≡ Sink
is_sink Refused is = absurd (cc)
is_sink Absent is = absurd (cc)
is_sink (Broken fault) is = absurd (cc)
is_sink Source is = absurd (cc)
is_sink Sink is = refl
is_sink Memory is = absurd (cc)

-- where a text is no key's, the refusal ends it
abbrev IsUnkeyedEnd : Result (Unit {0}) GetStop → Type 0
IsUnkeyedEnd result = (result ≡ Err Refused) ⊎ (result ≡ Err Memory)

done_unkeyed : (done : Unit {0}) → IsUnkeyedEnd (Ok done) → ⊥
done_unkeyed done (inl is) = cc
done_unkeyed done (inr is) = cc

stop_unkeyed : (stop : GetStop) → IsUnkeyedEnd (Err stop) → EndsAs statuses.KeyRefused (status_of_get stop)
stop_unkeyed Refused ends = refl
stop_unkeyed Absent (inl is) = absurd (cc)
stop_unkeyed Absent (inr is) = absurd (cc)
stop_unkeyed (Broken fault) (inl is) = absurd (cc)
stop_unkeyed (Broken fault) (inr is) = absurd (cc)
stop_unkeyed Source ends = tt
stop_unkeyed Sink ends = tt
stop_unkeyed Memory ends = tt

-- what the clauses of a look-up say of one
pub record Got {F O : Type 0} (f : FileOf F) (o : SinkOf O) (key : List ℕ) (file file_now : F) (table : TableDef)
    (out out_now : O) (steps steps_now : ℕ) (result : Result (Unit {0}) GetStop) : Type 0 where
  pub told : OfFile f file (λ content. Gets o content table key result out out_now)
  pub some : OnOk result (GrowsByRows table (o.written out) (o.written out_now) 1)
  pub refused : result ≡ Err Refused → IsNoKey table key
  pub first : IsNoKey table key → TouchesNothing file file_now out out_now steps steps_now result
  pub over : GetsOver f o file file_now out out_now steps steps_now result
  pub few : OfFile f file (λ content. (sought : Key) → SpellsKey table key sought
      → steps_now ≤ steps + steps_for content table sought)
  pub cost : TakesSteps f file get_steps steps steps_now
  pub fetches : AsksAtMost f file file_now get_steps

module _ {F O : Type 0} (f : FileOf F) (o : SinkOf O) (key : List ℕ) (source source_now : F) (table : TableDef)
    (out out_now : O) (steps steps_now : ℕ) (file : List ℕ) where
  done_ends : (done : Unit {0}) → Gets o file table key (Ok done) out out_now
      → Ends Get key file table statuses.Done (o.written out) (o.written out_now)
  done_ends done (sought, spells, (line, found, grows)) =
      (line, line_done key file table sought line spells found, grows)

  stop_ends : (stop : GetStop) → Got f o key source source_now table out out_now steps steps_now (Err stop)
      → Gets o file table key (Err stop) out out_now
      → Ends Get key file table (status_of_get stop) (o.written out) (o.written out_now)
  stop_ends Refused got none = (none, ap o.written (got.first none).out)
  stop_ends Absent got (sought, spells, absent) = ((sought, spells, absent), ap o.written (got.over.absent refl))
  stop_ends (Broken fault) got (sought, spells, told) = ((sought, spells, told.0), ap o.written told.1)
  stop_ends Source got (sought, spells, told) =
      (sought, spells, (told.0, (λ none. ap o.written (told.1 none))))
  stop_ends Sink got (sought, spells, (line, found, grows)) =
      (line, line_done key file table sought line spells found, grows)
  stop_ends Memory got told = ap o.written (got.over.unwritten refl)

  -- without an output the sink is as before
  done_silent : (done : Unit {0}) → Gets o file table key (Ok done) out out_now → HasNoOutput Get key file table
      → out_now ≡ out
  done_silent done (sought, spells, (line, found, grows)) none =
      absurd (none line (line_done key file table sought line spells found))

  stop_silent : (stop : GetStop) → Got f o key source source_now table out out_now steps steps_now (Err stop)
      → Gets o file table key (Err stop) out out_now → HasNoOutput Get key file table → out_now ≡ out
  stop_silent Refused got told none = (got.first told).out
  stop_silent Absent got told none = got.over.absent refl
  stop_silent (Broken fault) got (sought, spells, told) none = told.1
  stop_silent Source got (sought, spells, told) none =
      told.1 (λ line found. none line (line_done key file table sought line spells found))
  stop_silent Sink got (sought, spells, (line, found, grows)) none =
      absurd (none line (line_done key file table sought line spells found))
  stop_silent Memory got told none = got.over.unwritten refl

module _ {F O : Type 0} (f : FileOf F) (o : SinkOf O) (key : List ℕ) (file file_now : F) (table : TableDef)
    (out out_now : O) (steps steps_now : ℕ) where
  -- each page that was asked for was counted, so that few were
  got_few : (result : Result (Unit {0}) GetStop) → Got f o key file file_now table out out_now steps steps_now result
      → OfFile f file (λ content. TakesFew Get key content table (record { steps = steps; fetches = f.fetches file })
      (record { steps = steps_now; fetches = f.fetches file_now }))
  got_few result got = map_told (f.content file) (λ content few sought spells.
      let most = few sought spells in
      let asked = got.over.asked in (most, omega arith)) got.few

  pub get_done : (done : Unit {0}) → Got f o key file file_now table out out_now steps steps_now (Ok done)
      → ServesFile f o Get key file file_now table out out_now steps steps_now statuses.Done
  get_done done got = record {
    ends = map_told (f.content file)
        (λ content gets. done_ends f o key file file_now table out out_now steps steps_now content done gets) got.told;
    of_file = tt;
    unkeyed = λ is. absurd (cc);
    unsought = λ none. absurd (done_unkeyed done (got.first none).ends);
    silent = map_told (f.content file)
        (λ content gets. done_silent f o key file file_now table out out_now steps steps_now content done gets)
        got.told;
    unwritten = λ before. absurd before;
    some = λ is. got.some;
    few = got_few (Ok done) got;
    source = λ is. absurd (cc);
    sink = λ is. absurd (cc);
    content = got.over.same;
    cost = got.cost;
    fetches = got.fetches;
  }

  -- nothing was written
  unwritten_at : (stop : GetStop) → Got f o key file file_now table out out_now steps steps_now (Err stop)
      → ComesBefore Get (status_of_get stop) → out_now ≡ out
  unwritten_at Refused got before = (got.first (got.refused refl)).out
  unwritten_at Absent got before = got.over.absent refl
  unwritten_at (Broken fault) got before = absurd before
  unwritten_at Source got before = absurd before
  unwritten_at Sink got before = absurd before
  unwritten_at Memory got before = got.over.unwritten refl

  pub get_stopped : (stop : GetStop) → Got f o key file file_now table out out_now steps steps_now (Err stop)
      → ServesFile f o Get key file file_now table out out_now steps steps_now (status_of_get stop)
  get_stopped stop got = record {
    ends = map_told (f.content file)
        (λ content gets. stop_ends f o key file file_now table out out_now steps steps_now content stop got gets)
        got.told;
    of_file = stop_of_file stop;
    unkeyed = λ is. got.refused (ap Err (is_refused stop is));
    unsought = λ none.
        let first = got.first none in (first.file, first.steps_same, stop_unkeyed stop first.ends);
    silent = map_told (f.content file)
        (λ content gets. stop_silent f o key file file_now table out out_now steps steps_now content stop got gets)
        got.told;
    unwritten = unwritten_at stop got;
    some = λ is. absurd (never_done stop is);
    few = got_few (Err stop) got;
    source = λ is. got.over.source_rose (ap Err (is_source stop is));
    sink = λ is. got.over.sink_rose (ap Err (is_sink stop is));
    content = got.over.same;
    cost = got.cost;
    fetches = got.fetches;
  }
