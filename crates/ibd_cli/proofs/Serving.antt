-- What a command on a table does, by how far it came.
use Rattle.std.proofs.Common.{◌≡◌, ℕ, List, [], Option, Some, None, Err}
use Rattle.std.proofs.Common.{refl, sym, ap, subst, inl, inr, arith}
use Rattle.std.proofs.lemmas.List.{append-nil}
use Rattle.page_source.specs.declared.objects.PageSource.{Ghosts as FileOf}
use Rattle.page_source.specs.declared.objects.ByteSource.{Ghosts as SourceOf}
use Rattle.page_source.specs.declared.objects.ByteSink.{Ghosts as SinkOf}
use Rattle.page_source.specs.declared.rule.Fault.{Fault}
use Rattle.page_source.specs.Objects.{GrowsByPart}
use Rattle.page_source.proofs.Told.{if_told, map_told}
use Rattle.schema_text.specs.TableDef.{TableDef}
use Rattle.schema_text.specs.Grammar.{IsTextOf}
use Rattle.schema_text.specs.declared.errors.SchemaWhy.{SchemaWhy}
use Rattle.column_values.specs.Order.{Key}
use Rattle.key_lookup.specs.KeyOfText.{SpellsKey}
use Rattle.key_lookup.specs.Get.{IsLineFound}
use Rattle.command_line.specs.declared.schema_file.SchemaStop.{SchemaStop}
use Rattle.command_line.specs.declared.schema_file.SchemaStop.TheVariants.{Refused, Source, Memory}
use Rattle.ibd_cli.specs.declared.status.Status.{Status}
use Rattle.ibd_cli.specs.declared.status.Status.TheVariants as statuses
use Rattle.ibd_cli.specs.declared.forms.Task.{Task}
use Rattle.ibd_cli.specs.declared.forms.Task.TheVariants.{Check, Dump, Cross, Get}
use Rattle.command_line.specs.SchemaFile.{IsRefusedText}
use Rattle.ibd_cli.specs.Outcome.{FirstOf, IsDone, IsNoKeyOf, Told, Gives}
use Rattle.ibd_cli.specs.Run.{EndsAs, IsNoKeyIn, ReadsInputs, LeavesPart, LeavesUnread, Leaves, IsOfTask, Spent}
use Rattle.ibd_cli.specs.Run.{TakesFew, Serves}
use Rattle.command_line.specs.SchemaFile.{ReadsSchema}
use Rattle.ibd_cli.specs.Answers.{status_of_schema, HasPart, EndsUnread, Ends, IsOfFile, ServesFile}
use Rattle.command_line.proofs.SchemaEnds.{at_told, Stopped, HasTable}
use Rattle.command_line.proofs.OneAnswer.{HasOneAnswer}
use Rattle.command_line.proofs.OneAnswer.{no_table}
use Rattle.ibd_cli.proofs.Outcomes.{one_refusal, refused_gives, AnswersOnce, same_key, of_table}
use Rattle.ibd_cli.proofs.Outcomes.{ends_as, sound_of}

pub refused_as : (text : List ℕ) (left : Option (List ℕ)) (stop : SchemaStop) (line : ℕ) (why : SchemaWhy)
    → status_of_schema stop ≡ statuses.SchemaRefused line why → ReadsSchema text left (Err stop)
    → IsRefusedText text line why
refused_as text left (Refused l w) line why is reads =
    let e : l ≡ line = cc in let f : w ≡ why = cc in
    subst (λ (n : ℕ). IsRefusedText text n why) e (subst (IsRefusedText text l) f reads)
refused_as text left Source line why is reads = absurd (cc)
refused_as text left Memory line why is reads = absurd (cc)

pub stopped_alone : (text : List ℕ) (one : HasOneAnswer text) (left : Option (List ℕ)) (stop : SchemaStop)
    → ReadsSchema text left (Err stop) → (line : ℕ) (why : SchemaWhy) → IsRefusedText text line why
    → EndsAs (statuses.SchemaRefused line why) (status_of_schema stop)
stopped_alone text one left (Refused l w) reads line why refused = one_refusal text one l line w why reads refused
stopped_alone text one left Source reads line why refused = tt
stopped_alone text one left Memory reads line why refused = tt

stopped_gives : (task : Task) (key : List ℕ) (told : Told) (one : HasOneAnswer told.schema) (left : Option (List ℕ))
    (stop : SchemaStop) → ReadsSchema told.schema left (Err stop) → (given : Status) (output : List ℕ)
    → Gives task key told given output → EndsAs given (status_of_schema stop)
stopped_gives task key told one left (Refused l w) reads given output gives =
    refused_gives task key told one l w reads given output gives
stopped_gives task key told one left Source reads given output gives = tt
stopped_gives task key told one left Memory reads given output gives = tt

stopped_unkeyed : (task : Task) (key text : List ℕ) (one : HasOneAnswer text) (left : Option (List ℕ))
    (stop : SchemaStop) → ReadsSchema text left (Err stop) → IsNoKeyIn task key text
    → EndsAs statuses.KeyRefused (status_of_schema stop)
stopped_unkeyed task key text one left (Refused l w) reads none =
    absurd (no_table text one l w none.0 reads none.1)
stopped_unkeyed task key text one left Source reads none = tt
stopped_unkeyed task key text one left Memory reads none = tt

never_broken : (stop : SchemaStop) (fault : Fault) → status_of_schema stop ≡ statuses.Broken fault → ⊥
never_broken (Refused l w) fault is = cc
never_broken Source fault is = cc
never_broken Memory fault is = cc

pub never_sink : (stop : SchemaStop) → status_of_schema stop ≡ statuses.SinkFault → ⊥
never_sink (Refused l w) is = cc
never_sink Source is = cc
never_sink Memory is = cc

never_done : (stop : SchemaStop) → status_of_schema stop ≡ statuses.Done → ⊥
never_done (Refused l w) is = cc
never_done Source is = cc
never_done Memory is = cc

never_keyed : (stop : SchemaStop) → status_of_schema stop ≡ statuses.KeyRefused → ⊥
never_keyed (Refused l w) is = cc
never_keyed Source is = cc
never_keyed Memory is = cc

stopped_of_task : (task : Task) (stop : SchemaStop) → IsOfTask task (status_of_schema stop)
stopped_of_task task (Refused l w) = tt
stopped_of_task task Source = tt
stopped_of_task task Memory = tt

-- what ends a task that has read its schema ends the command
file_of_task : (task : Task) (status : Status) → IsOfFile task status → IsOfTask task status
file_of_task task (statuses.SchemaRefused l w) is = tt
file_of_task task _ is = is

pub is_source : (stop : SchemaStop) → status_of_schema stop ≡ statuses.SourceFault → stop ≡ Source
is_source (Refused l w) is = absurd (cc)
is_source Source is = refl
is_source Memory is = absurd (cc)

inputs_stopped : {F Q : Type 0} (all : (text : List ℕ) → HasOneAnswer text) (f : FileOf F) (q : SourceOf Q)
    (task : Task) (key : List ℕ) (file : F) (schema schema_now : Q) (steps : ℕ) (stop : SchemaStop)
    → Stopped q schema schema_now stop
    → ReadsInputs f q task key file file schema schema_now steps steps (status_of_schema stop)
inputs_stopped all f q task key file schema schema_now steps stop stopped =
    let left = q.left schema_now in
    record {
      read = stopped.read;
      refused = λ line why is. (
        map_told (q.left schema) (λ text reads. refused_as text left stop line why is reads) stopped.reads,
        refl,
        refl,
      );
      untouched = λ text told none. (refl, refl);
      alone = λ text line why told refused.
          stopped_alone text (all text) left stop (at_told _ (q.left schema) text told stopped.reads) line why refused;
      unkeyed = λ is. absurd (never_keyed stop is);
      unsought = λ text told none. (
        refl,
        refl,
        stopped_unkeyed task key text (all text) left stop (at_told _ (q.left schema) text told stopped.reads) none,
      );
      broken = λ fault is. absurd (never_broken stop fault is);
      complete = λ told given output tells gives.
          stopped_gives task key told (all told.schema) left stop
          (at_told _ (q.left schema) told.schema tells.schema_text stopped.reads) given output gives;
      source = λ is. inr (stopped.cause (is_source stop is));
      content = refl;
      cost = record { told = if_told (f.content file) (λ content. omega arith); always = omega arith };
      fetches = record { told = if_told (f.content file) (λ content. omega arith); always = omega arith };
    }

-- what takes nothing takes few
takes_none : (task : Task) (key file : List ℕ) (table : TableDef) (spent : Spent) → TakesFew task key file table spent
    spent
takes_none Check key file table spent = tt
takes_none Dump key file table spent = omega arith
takes_none Cross key file table spent = tt
takes_none Get key file table spent = λ sought spells. (omega arith, omega arith)

-- nothing is a part of each text
pub no_part : (old : Option (List ℕ)) (text : List ℕ) → GrowsByPart old old text
no_part None text = refl
no_part (Some old) text = (0, omega arith, ap Some (sym (append-nil old)))

part_before : (task : Task) (key : List ℕ) (told : Told) (old : Option (List ℕ)) → LeavesPart task key told old old
part_before task key told old = ((λ output gives. (output, gives, no_part old output)), (λ none. refl))

unread_before : (task : Task) (key : List ℕ) (told : Told) (old : Option (List ℕ)) → LeavesUnread task key told old old
unread_before Check key told old = refl
unread_before Dump key told old = part_before Dump key told old
unread_before Cross key told old = refl
unread_before Get key told old = part_before Get key told old

leaves_stopped : (task : Task) (key : List ℕ) (told : Told) (stop : SchemaStop) (old left : Option (List ℕ))
    → ReadsSchema told.schema left (Err stop) → Leaves task key told (status_of_schema stop) old old left
leaves_stopped task key told (Refused line why) old left reads = ((reads, refl), refl)
leaves_stopped task key told Source old left reads = unread_before task key told old
leaves_stopped task key told Memory old left reads = refl

-- the schema text ended it
pub serves_stopped : {F Q O : Type 0} (all : (text : List ℕ) → HasOneAnswer text) (f : FileOf F) (q : SourceOf Q)
    (o : SinkOf O) (task : Task) (key : List ℕ) (file : F) (schema schema_now : Q) (out : O) (steps : ℕ)
    (stop : SchemaStop) → Stopped q schema schema_now stop
    → Serves f q o task key file file schema schema_now out out steps steps (status_of_schema stop)
serves_stopped all f q o task key file schema schema_now out steps stop stopped =
    record {
      of_task = stopped_of_task task stop;
      inputs = inputs_stopped all f q task key file schema schema_now steps stop stopped;
      leaves = λ told tells.
          leaves_stopped task key told stop (o.written out) (q.left schema_now)
          (at_told _ (q.left schema) told.schema tells.schema_text stopped.reads);
      silent = λ told tells none. refl;
      unwritten = λ before. refl;
      some = λ is. absurd (never_done stop is);
      few = λ told tells table is.
          takes_none task key told.file table (record { steps = steps; fetches = f.fetches file });
      sink = λ is. absurd (never_sink stop is);
    }

broken_as : (task : Task) (key file : List ℕ) (table : TableDef) (status : Status) (old new : Option (List ℕ))
    (fault : Fault) → status ≡ statuses.Broken fault → Ends task key file table status old new
    → FirstOf task key file table (Some fault)
broken_as task key file table status old new fault is ends =
    (subst (λ (s : Status). Ends task key file table s old new) is ends).0

-- what holds of some table of a text holds of this one
pub same_table : (text : List ℕ) (one : HasOneAnswer text) (table : TableDef) → IsTextOf table text
    → (P : TableDef → Type 0) → (t : TableDef) × IsTextOf t text × P t → P table
same_table text one table is P of =
    of_table (record { schema = text; file = [] }) one table P is of

inputs_served : {F Q O : Type 0} (all : (text : List ℕ) → HasOneAnswer text) (once : AnswersOnce) (f : FileOf F)
    (q : SourceOf Q) (o : SinkOf O) (task : Task) (key : List ℕ) (file file_now : F) (schema schema_now : Q)
    (out out_now : O) (steps steps_now : ℕ) (table : TableDef) (status : Status) → HasTable q schema schema_now table
    → ServesFile f o task key file file_now table out out_now steps steps_now status
    → ReadsInputs f q task key file file_now schema schema_now steps steps_now status
inputs_served all once f q o task key file file_now schema schema_now out out_now steps steps_now table status has
    served =
    let old = o.written out in
    let new = o.written out_now in
    record {
      read = has.read;
      refused = λ line why is. absurd (subst (IsOfFile task) is served.of_file);
      untouched = λ text told none. absurd (none table (at_told _ (q.left schema) text told has.reads).0);
      alone = λ text line why told refused.
          absurd (no_table text (all text) line why table refused (at_told _ (q.left schema) text told has.reads).0);
      unkeyed = λ is.
          let none = served.unkeyed is in
          let same = served.unsought none in
          (map_told (q.left schema) (λ text reads. (table, reads.0, none)) has.reads, same.0, same.1);
      unsought = λ text told none.
          let reads = at_told _ (q.left schema) text told has.reads in
          served.unsought (same_table text (all text) table reads.0 (IsNoKeyOf task key) none);
      broken = λ fault is.
          map_told (f.content file)
          (λ content ends. (table, broken_as task key content table status old new fault is ends)) served.ends;
      complete = λ told given output tells gives.
          ends_as once task key told (all told.schema) table
          (at_told _ (q.left schema) told.schema tells.schema_text has.reads).0 status old new
          (at_told _ (f.content file) told.file tells.content served.ends) given output gives;
      source = λ is. inl (served.source is);
      content = served.content;
      cost = served.cost;
      fetches = served.fetches;
    }

part_behind : (task : Task) (key : List ℕ) (told : Told) (one : HasOneAnswer told.schema) (table : TableDef)
    → IsTextOf table told.schema → (old new : Option (List ℕ))
    → (FirstOf task key told.file table None → HasPart task key told.file table old new)
    × (¬ (FirstOf task key told.file table None) → new ≡ old) → LeavesPart task key told old new
part_behind task key told one table is old new ends = (
  (λ output gives.
      let part = ends.0 (sound_of task key told one table is output gives) in
      (part.0, (table, is, part.1), part.2)),
  (λ none.
      ends.1 (λ sound.
      let part = ends.0 sound in none part.0 (table, is, part.1))),
)

-- the line of the row that is wanted
line_of_row : (once : AnswersOnce) (key : List ℕ) (told : Told) (one : HasOneAnswer told.schema) (table : TableDef)
    → IsTextOf table told.schema → (sought : Key) → SpellsKey table key sought → (output : List ℕ)
    → Gives Get key told statuses.Done output → IsLineFound told.file table sought output
line_of_row once key told one table is sought spells output gives =
    same_key once table key is.is (λ (k : Key). IsLineFound told.file table k output) sought spells
    (of_table told one table (λ t. IsDone Get key told.file t output) is gives).written

row_behind : (once : AnswersOnce) (key : List ℕ) (told : Told) (one : HasOneAnswer told.schema) (table : TableDef)
    → IsTextOf table told.schema → (old new : Option (List ℕ)) → EndsUnread Get key told.file table old new
    → LeavesPart Get key told old new
row_behind once key told one table is old new ends = (
  (λ output gives.
      (output, gives, ends.2.0 output (line_of_row once key told one table is ends.0 ends.1 output gives))),
  (λ none.
      ends.2.1 (λ line found. none line (
        table,
        is,
        record {
          sound = (ends.0, ends.1, found.good);
          valid = tt;
          written = (ends.0, ends.1, found);
        },
      ))),
)

unread_behind : (once : AnswersOnce) (task : Task) (key : List ℕ) (told : Told) (one : HasOneAnswer told.schema)
    (table : TableDef) → IsTextOf table told.schema → (old new : Option (List ℕ))
    → EndsUnread task key told.file table old new → LeavesUnread task key told old new
unread_behind once Check key told one table is old new ends = ends
unread_behind once Cross key told one table is old new ends = ends
unread_behind once Dump key told one table is old new ends = part_behind Dump key told one table is old new ends
unread_behind once Get key told one table is old new ends = row_behind once key told one table is old new ends

leaves_served : (once : AnswersOnce) (task : Task) (key : List ℕ) (told : Told) (one : HasOneAnswer told.schema)
    (table : TableDef) → IsTextOf table told.schema → (status : Status) (old new left : Option (List ℕ))
    → left ≡ Some [] → Ends task key told.file table status old new → Leaves task key told status old new left
leaves_served once task key told one table is statuses.Done old new left end ends =
    ((ends.0, (table, is, ends.1), ends.2), end)
leaves_served once task key told one table is (statuses.Broken fault) old new left end ends =
    (((table, is, ends.0), refl), ends.1)
leaves_served once task key told one table is statuses.SourceFault old new left end ends =
    unread_behind once task key told one table is old new ends
leaves_served once task key told one table is statuses.SinkFault old new left end ends =
    (ends.0, (table, is, ends.1), ends.2)
leaves_served once task key told one table is statuses.Memory old new left end ends = ends
leaves_served once task key told one table is statuses.KeyRefused old new left end ends =
    (((table, is, ends.0), refl), ends.1)
leaves_served once task key told one table is statuses.Absent old new left end ends =
    (((table, is, ends.0), refl), ends.1)
leaves_served once task key told one table is (statuses.CrossMissing index row) old new left end ends =
    (((table, is, ends.0), refl), ends.1)
leaves_served once task key told one table is (statuses.CrossExtra index page) old new left end ends =
    (((table, is, ends.0), refl), ends.1)
leaves_served once task key told one table is _ old new left end ends = absurd ends

-- the file ended it
pub serves_file : {F Q O : Type 0} (all : (text : List ℕ) → HasOneAnswer text) (once : AnswersOnce) (f : FileOf F)
    (q : SourceOf Q) (o : SinkOf O) (task : Task) (key : List ℕ) (file file_now : F) (schema schema_now : Q)
    (out out_now : O) (steps steps_now : ℕ) (table : TableDef) (status : Status) → HasTable q schema schema_now table
    → ServesFile f o task key file file_now table out out_now steps steps_now status
    → Serves f q o task key file file_now schema schema_now out out_now steps steps_now status
serves_file all once f q o task key file file_now schema schema_now out out_now steps steps_now table status has
    served =
    record {
      of_task = file_of_task task status served.of_file;
      inputs =
          inputs_served all once f q o task key file file_now schema schema_now out out_now steps steps_now table status
          has served;
      leaves = λ told tells.
          let reads = at_told _ (q.left schema) told.schema tells.schema_text has.reads in
          leaves_served once task key told (all told.schema) table reads.0 status (o.written out) (o.written out_now)
          (q.left schema_now) reads.1 (at_told _ (f.content file) told.file tells.content served.ends);
      silent = λ told tells none.
          let is = (at_told _ (q.left schema) told.schema tells.schema_text has.reads).0 in
          at_told _ (f.content file) told.file tells.content served.silent
          (λ output done. none output (table, is, done));
      unwritten = served.unwritten;
      some = λ is. (table, map_told (q.left schema) (λ text reads. reads.0) has.reads, served.some is);
      few = λ told tells other is.
          let spent : Spent = record { steps = steps; fetches = f.fetches file } in
          let now : Spent = record { steps = steps_now; fetches = f.fetches file_now } in
          same_table told.schema (all told.schema) other is (λ t. TakesFew task key told.file t spent now) (
            table,
            (at_told _ (q.left schema) told.schema tells.schema_text has.reads).0,
            at_told _ (f.content file) told.file tells.content served.few,
          );
      sink = served.sink;
    }

pub never_usage : (task : Task) (status : Status) → IsOfTask task status → status ≡ statuses.Usage → ⊥
never_usage task status is same = subst (IsOfTask task) same is
