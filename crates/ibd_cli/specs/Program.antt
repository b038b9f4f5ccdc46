-- The whole promise of the program, over any six objects.
use Rattle.std.specs.Prelude.{◌≡◌, ◌↔◌, ℕ, List}
use Rattle.page_source.specs.declared.objects.PageSource.{Ghosts as FileOf}
use Rattle.page_source.specs.declared.objects.ByteSource.{Ghosts as SourceOf}
use Rattle.page_source.specs.declared.objects.ByteSink.{Ghosts as SinkOf}
use Rattle.page_source.specs.declared.objects.PageStore.{Ghosts as StoreOf}
use Rattle.ibd_cli.specs.declared.objects.Objects.{Objects}
use Rattle.ibd_cli.specs.declared.status.Status.{Status}
use Rattle.ibd_cli.specs.declared.status.Status.TheVariants.{Usage}
use Rattle.ibd_cli.specs.declared.forms.Task.{Task}
use Rattle.ibd_cli.specs.declared.forms.Form.TheVariants.{Table, Build, Sample}
use Rattle.ibd_cli.specs.Forms.{IsForm, HasNoForm, AsksNoTable, AsksNoBuild, AsksNoSample, key_word}
use Rattle.ibd_cli.specs.Lines.{status_line}
use Rattle.command_line.specs.Causes.{Reports}
use Rattle.ibd_cli.specs.Run.{Serves}
use Rattle.ibd_cli.specs.Build.{ServesBuild}
use Rattle.ibd_cli.specs.Sample.{ServesSample}

-- what the objects tell
pub record Meanings (F Q R O E T : Type 0) : Type 1 where
  pub file : FileOf F
  pub schema : SourceOf Q
  pub rows : SourceOf R
  pub out : SinkOf O
  pub err : SinkOf E
  pub target : StoreOf T

-- six objects as one value, and what they tell
abbrev pub six : {F Q R O E T : Type 0} → F → Q → R → O → E → T → Objects F Q R O E T
six file schema rows out err target =
    record { file = file; schema = schema; rows = rows; out = out; err = err; target = target }

abbrev pub telling : {F Q R O E T : Type 0} → FileOf F → SourceOf Q → SourceOf R → SinkOf O → SinkOf E → StoreOf T
    → Meanings F Q R O E T
telling file schema rows out err target =
    record { file = file; schema = schema; rows = rows; out = out; err = err; target = target }

-- what the words ask for is done, and ends so
pub record Runs {F Q R O E T : Type 0} (g : Meanings F Q R O E T) (words : List (List ℕ))
    (old now : Objects F Q R O E T) (steps_old steps_now : ℕ) (status : Status) : Type 0 where
  -- the words decide which command it is
  pub usage : (status ≡ Usage) ↔ HasNoForm words
  -- what a command doesn't name is never called
  pub file : AsksNoTable words → now.file ≡ old.file
  pub schema : AsksNoTable words → AsksNoBuild words → now.schema ≡ old.schema
  pub steps : AsksNoTable words → AsksNoSample words → steps_now ≡ steps_old
  pub out : AsksNoTable words → AsksNoBuild words → AsksNoSample words → now.out ≡ old.out
  pub rows : AsksNoBuild words → now.rows ≡ old.rows
  pub target : AsksNoBuild words → now.target ≡ old.target
  -- what a command on a table does to the objects that it names, and how it ends
  pub serves : (task : Task) → IsForm words (Table task)
      → Serves g.file g.schema g.out task (key_word words) old.file now.file old.schema now.schema old.out now.out
      steps_old steps_now status
  -- what a build does, and how it ends
  pub builds : IsForm words Build → ServesBuild
      (record { schema = g.schema; rows = g.rows; out = g.out; target = g.target })
      (record { schema = old.schema; rows = old.rows; out = old.out; target = old.target })
      (record { schema = now.schema; rows = now.rows; out = now.out; target = now.target }) status
  -- what a sample does, and how it ends
  pub samples : (n : ℕ) → IsForm words (Sample n) → ServesSample g.out n old.out now.out status
  -- the line of the status
  pub report : Reports (g.err.written old.err) (g.err.written now.err) (g.err.faults old.err) (g.err.faults now.err)
      (status_line status)
