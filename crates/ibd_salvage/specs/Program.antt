-- The whole promise of the program, over any four objects.
use Rattle.std.specs.Prelude.{◌≡◌, ◌↔◌, ◌≤◌, ℕ, List}
use Rattle.page_source.specs.declared.objects.ByteSink.{Ghosts as SinkOf}
use Rattle.ibd_salvage.specs.declared.forms.Form.{Form}
use Rattle.ibd_salvage.specs.declared.objects.Objects.{Objects}
use Rattle.ibd_salvage.specs.declared.status.SalvageStatus.{SalvageStatus}
use Rattle.ibd_salvage.specs.declared.status.SalvageStatus.TheVariants.{Usage}
use Rattle.ibd_salvage.specs.Forms.{IsForm, HasNoForm}
use Rattle.ibd_salvage.specs.Lines.{status_line}
use Rattle.command_line.specs.Causes.{Reports}
use Rattle.ibd_salvage.specs.Run.{Meanings, Serves}

-- no object was called
pub record LeavesAll {F Q O E : Type 0} (old now : Objects F Q O E) (steps steps_now : ℕ) : Type 0 where
  pub objects : now ≡ old
  pub uncounted : steps_now ≡ steps

-- the objects before the line of the status, if the standard error stood so then
abbrev pub before_line : {F Q O E : Type 0} → Objects F Q O E → E → Objects F Q O E
before_line now err = record { file = now.file; schema = now.schema; out = now.out; err = err }

-- a text was put, or a prefix of it if the count of faults rose, and that count never fell
pub record IsPut {E : Type 0} (e : SinkOf E) (old new : E) (text : List ℕ) : Type 0 where
  pub got : Reports (e.written old) (e.written new) (e.faults old) (e.faults new) text
  pub later : e.faults old ≤ e.faults new

-- what the words ask for is done, and ends so
pub record Runs {F Q O E : Type 0} (g : Meanings F Q O E) (words : List (List ℕ)) (old now : Objects F Q O E)
    (steps steps_now : ℕ) (status : SalvageStatus) : Type 0 where
  -- the words decide whether there is anything to do
  pub usage : (status ≡ Usage) ↔ HasNoForm words
  -- the line of the status is the last that is written to the standard error
  pub between : E
  pub line : IsPut g.err between now.err (status_line status)
  -- if there is nothing to do, no object is called before the line of the status
  pub untouched : HasNoForm words → LeavesAll old (before_line now between) steps steps_now
  -- if there is something to do, this is what a salvage does to the objects, and how it ends
  pub serves : (form : Form) → IsForm words form → Serves g form old (before_line now between) steps steps_now status
