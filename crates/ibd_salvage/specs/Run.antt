-- What a salvage leaves: how the objects stand, and why it ended.
use Rattle.std.specs.Prelude.{◌≡◌, ◌≢◌, ◌≤◌, ◌⊎◌, ℕ, ⊤, List, Some, IfSome, Result}
use Rattle.page_source.specs.declared.objects.PageSource.{Ghosts as FileOf}
use Rattle.page_source.specs.declared.objects.ByteSource.{Ghosts as SourceOf}
use Rattle.page_source.specs.declared.objects.ByteSink.{Ghosts as SinkOf}
use Rattle.page_source.specs.declared.rule.Fault.{Fault}
use Rattle.page_source.specs.Faults.{Rose}
use Rattle.schema_text.specs.TableDef.{TableDef}
use Rattle.schema_text.specs.Grammar.{IsTextOf}
use Rattle.schema_text.specs.declared.errors.SchemaWhy.{SchemaWhy}
use Rattle.table_check.specs.First.{TakesSteps, AsksAtMost}
use Rattle.salvage_model.specs.declared.saved.Saved.{Saved}
use Rattle.salvage_model.specs.declared.stop.SalvageStop.{SalvageStop}
use Rattle.salvage_model.specs.Causes.{Counts, counts_of}
use Rattle.salvage_model.specs.Salvage.{Written, SalvagesRegardless, IsChange, salvage_steps}
use Rattle.command_line.specs.Reading.{IsReadUpTo}
use Rattle.command_line.specs.SchemaFile.{IsRefusedText, IsOfNoTable}
use Rattle.ibd_salvage.specs.declared.forms.Form.{Form}
use Rattle.ibd_salvage.specs.declared.objects.Objects.{Objects}
use Rattle.ibd_salvage.specs.declared.status.SalvageStatus.{SalvageStatus}
use Rattle.ibd_salvage.specs.declared.status.SalvageStatus.TheVariants.{Usage, SchemaRefused, Changed, SourceFault}
use Rattle.ibd_salvage.specs.declared.status.SalvageStatus.TheVariants.{SinkFault, Memory, RootLost}
use Rattle.ibd_salvage.specs.Ends.{Ends}

-- what the objects tell
pub record Meanings (F Q O E : Type 0) : Type 1 where
  pub file : FileOf F
  pub schema : SourceOf Q
  pub out : SinkOf O
  pub err : SinkOf E

-- what both outputs tell
abbrev pub outputs_of : {F Q O E : Type 0} → Meanings F Q O E → Objects F Q O E → Written
outputs_of g objects = record { sink = g.out.written objects.out; losses = g.err.written objects.err }

-- a file with this content was gone through for the records of a table: the lines are on the standard output, and what
-- is lost on the standard error, whose faults were counted too
pub record IsSalvage (content : List ℕ) (table : TableDef) (form : Form) (before now : Counts)
    (heard heard_now : ℕ) (old new : Written) (status : SalvageStatus) : Type 0 where
  pub result : Result Saved SalvageStop
  pub ends : Ends result status
  pub salvages : SalvagesRegardless content (record { table = table; kind = form.kind; given = form.index }) before
      now heard heard_now result old new

-- a status that ends a run before the file is gone through
abbrev pub ComesBefore : SalvageStatus → Type 0
ComesBefore (SchemaRefused line why) = ⊤
ComesBefore Memory = ⊤
ComesBefore RootLost = ⊤
ComesBefore _ = ⊥

-- a status that ends a salvage after its schema text was read
abbrev pub IsOfFile : SalvageStatus → Type 0
IsOfFile Usage = ⊥
IsOfFile (SchemaRefused line why) = ⊥
IsOfFile status = ⊤

-- a salvage ended so, unless an input couldn't be read or memory ran out
abbrev pub EndsAs : SalvageStatus → SalvageStatus → Type 0
EndsAs given SourceFault = ⊤
EndsAs given Memory = ⊤
EndsAs given status = status ≡ given

-- what a salvage leaves of the file and both outputs, whatever they tell: the file is as before and few pages of it
-- were fetched, an object is blamed only if its count of faults rose, and nothing is written if no id is found or
-- memory ran out
pub record SavesOver {F O E : Type 0} (f : FileOf F) (o : SinkOf O) (e : SinkOf E) (file file_now : F) (out out_now : O)
    (err err_now : E) (steps steps_now : ℕ) (status : SalvageStatus) : Type 0 where
  pub of_file : IsOfFile status
  pub content : f.content file_now ≡ f.content file
  pub source : status ≡ SourceFault → Rose (f.faults file) (f.faults file_now)
  pub sink : status ≡ SinkFault → Rose (o.faults out) (o.faults out_now)
  pub heard : e.faults err ≤ e.faults err_now
  pub unwritten : ComesBefore status → (out_now ≡ out) × (err_now ≡ err)
  pub changed : (fault : Fault) → status ≡ Changed fault → IsChange fault
  pub cost : TakesSteps f file salvage_steps steps steps_now
  pub fetches : AsksAtMost f file file_now salvage_steps

-- the file wasn't touched, and nothing was written
pub record LeavesOthers {F Q O E : Type 0} (old now : Objects F Q O E) (steps steps_now : ℕ) : Type 0 where
  pub file : now.file ≡ old.file
  pub out : now.out ≡ old.out
  pub err : now.err ≡ old.err
  pub uncounted : steps_now ≡ steps

-- the whole promise of a salvage that the words ask for, till the line of the status is written
pub record Serves {F Q O E : Type 0} (g : Meanings F Q O E) (form : Form) (old now : Objects F Q O E)
    (steps steps_now : ℕ) (status : SalvageStatus) : Type 0 where
  pub asked : status ≢ Usage
  -- the schema text is read first, and at most one byte more than it may have
  pub read : IfSome (g.schema.left old.schema) (λ text. IsReadUpTo 65537 text (g.schema.left now.schema))
  -- a refusal is that of the schema text, and the file is untouched
  pub refused : (line : ℕ) (why : SchemaWhy) → status ≡ SchemaRefused line why
      → IfSome (g.schema.left old.schema) (λ text. IsRefusedText text line why)
      × LeavesOthers old now steps steps_now
  -- if the text is that of no table, the file is untouched in any case, and a refusal ends it
  pub untouched : (text : List ℕ) → g.schema.left old.schema ≡ Some text → IsOfNoTable text
      → LeavesOthers old now steps steps_now
  pub alone : (text : List ℕ) (line : ℕ) (why : SchemaWhy) → g.schema.left old.schema ≡ Some text
      → IsRefusedText text line why → EndsAs (SchemaRefused line why) status
  -- the file is gone through for the records of the table of the schema text
  pub saves : (text content : List ℕ) (table : TableDef) → g.schema.left old.schema ≡ Some text
      → g.file.content old.file ≡ Some content → IsTextOf table text
      → IsSalvage content table form (counts_of g.file old.file) (counts_of g.file now.file) (g.err.faults old.err)
      (g.err.faults now.err) (outputs_of g old) (outputs_of g now) status
  -- a status that ends the run before the file is gone through leaves both outputs as before, whatever the inputs tell
  pub unwritten : ComesBefore status → (now.out ≡ old.out) × (now.err ≡ old.err)
  -- a fault was counted of the object that the status blames
  pub source : status ≡ SourceFault
      → Rose (g.file.faults old.file) (g.file.faults now.file)
      ⊎ Rose (g.schema.faults old.schema) (g.schema.faults now.schema)
  pub sink : status ≡ SinkFault → Rose (g.out.faults old.out) (g.out.faults now.out)
  -- the standard error's count of faults never fell
  pub heard : g.err.faults old.err ≤ g.err.faults now.err
  -- a part of a value isn't any more what it was
  pub changed : (fault : Fault) → status ≡ Changed fault → IsChange fault
  -- the file is as before, and few pages of it were fetched
  pub content : g.file.content now.file ≡ g.file.content old.file
  pub cost : TakesSteps g.file old.file salvage_steps steps steps_now
  pub fetches : AsksAtMost g.file old.file now.file salvage_steps
