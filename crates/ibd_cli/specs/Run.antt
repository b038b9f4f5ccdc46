-- What a command on a table leaves: how the objects stand, and why it ended.
use Rattle.std.specs.Prelude.{◌≡◌, ◌≢◌, ℕ, ◌+◌, ◌≤◌, ⊤, ◌⊎◌, List, [], Option, Some, IfSome}
use Rattle.page_source.specs.declared.objects.PageSource.{Ghosts as FileOf}
use Rattle.page_source.specs.declared.objects.ByteSource.{Ghosts as SourceOf}
use Rattle.page_source.specs.declared.objects.ByteSink.{Ghosts as SinkOf}
use Rattle.page_source.specs.declared.rule.Fault.{Fault}
use Rattle.page_source.specs.Faults.{Rose}
use Rattle.page_source.specs.Pages.{page_count}
use Rattle.page_source.specs.Objects.{GrowsBy, GrowsByPart}
use Rattle.page_source.specs.Calls.{OfFile}
use Rattle.column_values.specs.Order.{Key}
use Rattle.schema_text.specs.TableDef.{TableDef}
use Rattle.schema_text.specs.Grammar.{IsTextOf}
use Rattle.schema_text.specs.declared.errors.SchemaWhy.{SchemaWhy}
use Rattle.table_check.specs.declared.table.Checked.{Checked}
use Rattle.table_check.specs.First.{TakesSteps, AsksAtMost, check_steps}
use Rattle.sql_dump.specs.Dump.{row_pages}
use Rattle.sql_dump.specs.SomeRows.{GrowsByRows}
use Rattle.cross_index.specs.declared.crossed.Crossed.{Crossed}
use Rattle.key_lookup.specs.KeyOfText.{SpellsKey}
use Rattle.key_lookup.specs.Get.{steps_for}
use Rattle.ibd_cli.specs.declared.status.Status.{Status}
use Rattle.ibd_cli.specs.declared.status.Status.TheVariants.{Done, Usage, SchemaRefused, Broken}
use Rattle.ibd_cli.specs.declared.status.Status.TheVariants.{SourceFault, SinkFault, StoreFault, Memory}
use Rattle.ibd_cli.specs.declared.status.Status.TheVariants.{CrossMissing, CrossExtra, KeyRefused, Absent}
use Rattle.ibd_cli.specs.declared.forms.Task.{Task}
use Rattle.ibd_cli.specs.declared.forms.Task.TheVariants.{Check, Dump, Cross, Get}
use Rattle.command_line.specs.Reading.{IsReadUpTo}
use Rattle.command_line.specs.SchemaFile.{IsRefusedText, IsOfNoTable}
use Rattle.ibd_cli.specs.Outcome.{OfSchema, checked_line, crossed_line, IsNoKeyOf, FirstOf, Told, Gives, task_steps}

-- a command ended as the inputs define, unless an object failed or memory ran out
abbrev pub EndsAs : Status → Status → Type 0
EndsAs given SourceFault = ⊤
EndsAs given SinkFault = ⊤
EndsAs given StoreFault = ⊤
EndsAs given Memory = ⊤
EndsAs given status = status ≡ given

-- the fault is the first one of the file, as that of some table
abbrev pub BreaksFile : Task → List ℕ → List ℕ → Fault → Type 0
BreaksFile task key file fault = (table : TableDef) × FirstOf task key file table (Some fault)

-- the schema text is that of a table, of which the text is no key's
abbrev pub IsNoKeyIn : Task → List ℕ → List ℕ → Type 0
IsNoKeyIn task key schema = (table : TableDef) × IsTextOf table schema × IsNoKeyOf task key table

-- schema and file tell this
pub record Tells {F Q : Type 0} (f : FileOf F) (q : SourceOf Q) (file : F) (schema : Q) (told : Told) : Type 0 where
  pub schema_text : q.left schema ≡ Some told.schema
  pub content : f.content file ≡ Some told.file

-- what a task does to its inputs, and how they decide its status
pub record ReadsInputs {F Q : Type 0} (f : FileOf F) (q : SourceOf Q) (task : Task) (key : List ℕ) (file file_now : F)
    (schema schema_now : Q) (steps steps_now : ℕ) (status : Status) : Type 0 where
  -- the schema text is read first, and at most one byte more than it may have
  pub read : IfSome (q.left schema) (λ text. IsReadUpTo 65537 text (q.left schema_now))
  -- a refusal is that of the schema text, and the file is untouched
  pub refused : (line : ℕ) (why : SchemaWhy) → status ≡ SchemaRefused line why
      → IfSome (q.left schema) (λ text. IsRefusedText text line why) × (file_now ≡ file) × (steps_now ≡ steps)
  -- where the text is that of no table, the file is untouched in any case, and a refusal ends it
  pub untouched : (text : List ℕ) → q.left schema ≡ Some text → IsOfNoTable text
      → (file_now ≡ file) × (steps_now ≡ steps)
  pub alone : (text : List ℕ) (line : ℕ) (why : SchemaWhy) → q.left schema ≡ Some text → IsRefusedText text line why
      → EndsAs (SchemaRefused line why) status
  -- a refused key is no key of the table, and the file is untouched
  pub unkeyed : status ≡ KeyRefused
      → IfSome (q.left schema) (IsNoKeyIn task key) × (file_now ≡ file) × (steps_now ≡ steps)
  -- if the text of the key is no key of the table, the file is untouched in any case, and the refusal ends the task
  pub unsought : (text : List ℕ) → q.left schema ≡ Some text → IsNoKeyIn task key text
      → (file_now ≡ file) × (steps_now ≡ steps) × EndsAs KeyRefused status
  -- a broken rule is one of the file
  pub broken : (fault : Fault) → status ≡ Broken fault → OfFile f file (λ content. BreaksFile task key content fault)
  -- the status is the one that the inputs define
  pub complete : (told : Told) (given : Status) (output : List ℕ) → Tells f q file schema told
      → Gives task key told given output → EndsAs given status
  -- a fault of the inputs was counted
  pub source : status ≡ SourceFault
      → Rose (f.faults file) (f.faults file_now) ⊎ Rose (q.faults schema) (q.faults schema_now)
  -- the file is as before, and few pages of it were fetched
  pub content : f.content file_now ≡ f.content file
  pub cost : TakesSteps f file (task_steps task) steps steps_now
  pub fetches : AsksAtMost f file file_now (task_steps task)

-- where the file can't be read, a prefix of the output was written, if there is one
abbrev pub LeavesPart : Task → List ℕ → Told → Option (List ℕ) → Option (List ℕ) → Type 0
LeavesPart task key told old new =
    ((output : List ℕ) → Gives task key told Done output
    → (text : List ℕ) × Gives task key told Done text × GrowsByPart old new text)
    × (((output : List ℕ) → ¬ (Gives task key told Done output)) → new ≡ old)

-- if the file can't be read, a dump and a row wrote a prefix of the output, if there is one; a check and a comparison
-- wrote nothing
abbrev pub LeavesUnread : Task → List ℕ → Told → Option (List ℕ) → Option (List ℕ) → Type 0
LeavesUnread Check key told old new = new ≡ old
LeavesUnread Dump key told old new = LeavesPart Dump key told old new
LeavesUnread Cross key told old new = new ≡ old
LeavesUnread Get key told old new = LeavesPart Get key told old new

-- the status is the one that the inputs define, and what was written goes with it: all of the output at Done, a
-- prefix of it where the sink took no more, and else nothing
abbrev pub Leaves : Task → List ℕ → Told → Status → Option (List ℕ) → Option (List ℕ) → Option (List ℕ) → Type 0
Leaves task key told Done old new schema =
    ((output : List ℕ) × Gives task key told Done output × GrowsBy old new output) × (schema ≡ Some [])
Leaves task key told Usage old new schema = ⊥
Leaves task key told SourceFault old new schema = LeavesUnread task key told old new
Leaves task key told SinkFault old new schema =
    (output : List ℕ) × Gives task key told Done output × GrowsByPart old new output
Leaves task key told Memory old new schema = new ≡ old
Leaves task key told status old new schema = Gives task key told status [] × (new ≡ old)

-- a status that comes before the line of numbers
abbrev pub ComesBeforeLine : Status → Type 0
ComesBeforeLine status = (status ≢ Done) × (status ≢ SinkFault)

-- a status that comes before the first byte of the output, whatever the inputs tell
abbrev pub ComesBefore : Task → Status → Type 0
ComesBefore Check status = ComesBeforeLine status
ComesBefore Cross status = ComesBeforeLine status
ComesBefore Dump Usage = ⊤
ComesBefore Dump (SchemaRefused line why) = ⊤
ComesBefore Dump Memory = ⊤
ComesBefore Dump _ = ⊥
ComesBefore Get Usage = ⊤
ComesBefore Get (SchemaRefused line why) = ⊤
ComesBefore Get KeyRefused = ⊤
ComesBefore Get Absent = ⊤
ComesBefore Get Memory = ⊤
ComesBefore Get _ = ⊥

-- a status that ends the command, whatever the objects tell
abbrev pub IsOfTask : Task → Status → Type 0
IsOfTask task Done = ⊤
IsOfTask task (SchemaRefused line why) = ⊤
IsOfTask task (Broken fault) = ⊤
IsOfTask task SourceFault = ⊤
IsOfTask task SinkFault = ⊤
IsOfTask task Memory = ⊤
IsOfTask Cross (CrossMissing index row) = ⊤
IsOfTask Cross (CrossExtra index page) = ⊤
IsOfTask Get KeyRefused = ⊤
IsOfTask Get Absent = ⊤
IsOfTask _ _ = ⊥

-- what a command that is done has written, whatever the file tells: the line of some numbers, the lines of some rows,
-- or that of one
abbrev pub WritesSome : Task → TableDef → Option (List ℕ) → Option (List ℕ) → Type 0
WritesSome Check table old new = (checked : Checked) × GrowsBy old new (checked_line checked)
WritesSome Dump table old new = (checked : Checked) × GrowsByRows table old new checked.rows
WritesSome Cross table old new = (crossed : Crossed) × GrowsBy old new (crossed_line crossed)
WritesSome Get table old new = GrowsByRows table old new 1

-- how many steps were counted, and pages fetched
pub record Spent : Type 0 where
  pub steps : ℕ
  pub fetches : ℕ

-- what a command takes of a file of this table, besides: a dump fetches the pages of its rows once more after the
-- checks; a look-up takes the head, the way to the row, and its chains twice
abbrev pub TakesFew : Task → List ℕ → List ℕ → TableDef → Spent → Spent → Type 0
TakesFew Dump key file table before now =
    now.fetches ≤ before.fetches + check_steps (page_count file) + row_pages file table
TakesFew Get key file table before now = (sought : Key) → SpellsKey table key sought
    → (now.steps ≤ before.steps + steps_for file table sought)
    × (now.fetches ≤ before.fetches + steps_for file table sought)
TakesFew _ key file table before now = ⊤

-- the whole promise of a command on a table
pub record Serves {F Q O : Type 0} (f : FileOf F) (q : SourceOf Q) (o : SinkOf O) (task : Task) (key : List ℕ)
    (file file_now : F) (schema schema_now : Q) (out out_now : O) (steps steps_now : ℕ) (status : Status) : Type 0 where
  pub of_task : IsOfTask task status
  pub inputs : ReadsInputs f q task key file file_now schema schema_now steps steps_now status
  -- what is written, where the inputs are told
  pub leaves : (told : Told) → Tells f q file schema told
      → Leaves task key told status (o.written out) (o.written out_now) (q.left schema_now)
  -- if the inputs define no output, the sink itself is as before
  pub silent : (told : Told) → Tells f q file schema told
      → ((output : List ℕ) → ¬ (Gives task key told Done output)) → out_now ≡ out
  -- a status that comes before the first byte leaves the sink itself as before, whatever the inputs tell
  pub unwritten : ComesBefore task status → out_now ≡ out
  pub some : status ≡ Done → OfSchema (q.left schema)
      (λ table. WritesSome task table (o.written out) (o.written out_now))
  -- what the command takes of the file, if the inputs are told
  pub few : (told : Told) → Tells f q file schema told → (table : TableDef) → IsTextOf table told.schema
      → TakesFew task key told.file table (record { steps = steps; fetches = f.fetches file })
      (record { steps = steps_now; fetches = f.fetches file_now })
  pub sink : status ≡ SinkFault → Rose (o.faults out) (o.faults out_now)
