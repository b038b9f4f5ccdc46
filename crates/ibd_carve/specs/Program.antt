-- The whole promise of the program, over any four objects.
use Rattle.std.specs.Prelude.{◌≡◌, ◌↔◌, ℕ, List}
use Rattle.page_source.specs.declared.objects.ByteSource.{Ghosts as SourceOf}
use Rattle.page_source.specs.declared.objects.ByteSink.{Ghosts as SinkOf}
use Rattle.image_carve.specs.declared.file.PageFile.{Ghosts as PageFileOf}
use Rattle.command_line.specs.Causes.{Reports}
use Rattle.ibd_carve.specs.declared.forms.Form.{Form}
use Rattle.ibd_carve.specs.declared.objects.Objects.{Objects}
use Rattle.ibd_carve.specs.declared.status.CarveStatus.{CarveStatus}
use Rattle.ibd_carve.specs.declared.status.CarveStatus.TheVariants.{Usage}
use Rattle.ibd_carve.specs.Forms.{IsForm, HasNoForm}
use Rattle.ibd_carve.specs.Lines.{status_line}
use Rattle.ibd_carve.specs.Run.{Serves}

-- what the objects tell
pub record Meanings (Q F O E : Type 0) : Type 1 where
  pub image : SourceOf Q
  pub file : PageFileOf F
  pub out : SinkOf O
  pub err : SinkOf E

-- no object is called but the report
pub record LeavesAll {Q F O E : Type 0} (old now : Objects Q F O E) : Type 0 where
  pub image : now.image ≡ old.image
  pub file : now.file ≡ old.file
  pub out : now.out ≡ old.out

-- what the words ask for is done, and ends so
pub record Runs {Q F O E : Type 0} (g : Meanings Q F O E) (words : List (List ℕ)) (old now : Objects Q F O E)
    (status : CarveStatus) : Type 0 where
  -- the words decide whether there is anything to do
  pub usage : (status ≡ Usage) ↔ HasNoForm words
  pub untouched : HasNoForm words → LeavesAll old now
  -- what is done to the objects, and how it ends
  pub serves : (form : Form) → IsForm words form
      → Serves g.image g.file g.out form old.image now.image old.file now.file old.out now.out status
  -- the line of the status
  pub report : Reports (g.err.written old.err) (g.err.written now.err) (g.err.faults old.err) (g.err.faults now.err)
      (status_line status)
