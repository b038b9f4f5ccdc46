-- What a run leaves: how the objects stand, and why it ended.
use Rattle.std.specs.Prelude.{◌≡◌, ◌≤◌, ◌<◌, ◌^◌, ℕ, ⊤, List, length, IfSome, Option, Result, Ok, Err}
use Rattle.page_source.specs.declared.objects.ByteSource.{Ghosts as SourceOf}
use Rattle.page_source.specs.declared.objects.ByteSink.{Ghosts as SinkOf}
use Rattle.page_source.specs.Faults.{Rose}
use Rattle.page_source.specs.Objects.{GrowsBy, GrowsByPart}
use Rattle.image_listing.specs.declared.listing.ListStop.{ListStop}
use Rattle.image_listing.specs.Calls.{Lists, ListsOver}
use Rattle.image_carve.specs.declared.file.PageFile.{Ghosts as PageFileOf}
use Rattle.image_carve.specs.declared.taken.Taken.{Taken}
use Rattle.image_carve.specs.declared.taken.TakeStop.{TakeStop}
use Rattle.image_carve.specs.Takes.{TakesTold}
use Rattle.ibd_carve.specs.declared.forms.Form.{Form}
use Rattle.ibd_carve.specs.declared.forms.Form.TheVariants.{ListImage, TakeSpace}
use Rattle.ibd_carve.specs.declared.status.CarveStatus.{CarveStatus}
use Rattle.ibd_carve.specs.declared.status.CarveStatus.TheVariants.{Done, SourceFault, SinkFault, StoreFault, Nothing}
use Rattle.ibd_carve.specs.Ends.{status_of_list, status_of_stop}
use Rattle.ibd_carve.specs.Lines.{taken_line}

-- the image was listed, and the file wasn't touched
pub record ListsImage {Q F O : Type 0} (q : SourceOf Q) (o : SinkOf O) (image image_now : Q) (file file_now : F)
    (out out_now : O) (status : CarveStatus) : Type 0 where
  pub result : Result (Unit {0}) ListStop
  pub ends : status ≡ status_of_list result
  pub told : IfSome (q.left image) (λ bytes.
      length bytes < 2 ^ 64 → Lists bytes (q.left image_now) (o.written out) (o.written out_now) result)
  pub over : ListsOver q o image image_now out out_now result
  pub untouched : file_now ≡ file

-- what a take that answered this writes, and the status that it ends with: the line of the file if all was put, or a
-- prefix of it if the output took no more
abbrev pub EndsTake : Option (List ℕ) → Option (List ℕ) → Result Taken TakeStop → CarveStatus → Type 0
EndsTake out out_now (Ok taken) Done = GrowsBy out out_now (taken_line taken)
EndsTake out out_now (Ok taken) SinkFault = GrowsByPart out out_now (taken_line taken)
EndsTake out out_now (Ok taken) status = ⊥
EndsTake out out_now (Err stop) status = status ≡ status_of_stop stop

-- a status that ends a take before its line is written
abbrev pub ComesBeforeLine : CarveStatus → Type 0
ComesBeforeLine Done = ⊥
ComesBeforeLine SinkFault = ⊥
ComesBeforeLine status = ⊤

-- the space was taken out of the image
pub record TakesSpace {Q F O : Type 0} (q : SourceOf Q) (f : PageFileOf F) (o : SinkOf O) (space : ℕ)
    (image image_now : Q) (file file_now : F) (out out_now : O) (status : CarveStatus) : Type 0 where
  pub result : Result Taken TakeStop
  pub ends : EndsTake (o.written out) (o.written out_now) result status
  pub told : TakesTold (q.left image) space (f.held file) (f.held file_now) result
  -- a fault was counted of the object that the status blames
  pub source : status ≡ SourceFault → Rose (q.faults image) (q.faults image_now)
  pub store : status ≡ StoreFault → Rose (f.faults file) (f.faults file_now)
  pub sink : status ≡ SinkFault → Rose (o.faults out) (o.faults out_now)
  -- no count falls
  pub image_later : q.faults image ≤ q.faults image_now
  pub file_later : f.faults file ≤ f.faults file_now
  pub out_later : o.faults out ≤ o.faults out_now
  -- the file isn't touched if there is nothing to put, and the output isn't unless all was put
  pub nothing : status ≡ Nothing → file_now ≡ file
  pub unwritten : ComesBeforeLine status → out_now ≡ out

-- what the words ask for was done
abbrev pub Serves : {Q F O : Type 0} → SourceOf Q → PageFileOf F → SinkOf O → Form → Q → Q → F → F → O → O
    → CarveStatus → Type 0
Serves q f o ListImage image image_now file file_now out out_now status =
    ListsImage q o image image_now file file_now out out_now status
Serves q f o (TakeSpace space) image image_now file file_now out out_now status =
    TakesSpace q f o space image image_now file file_now out out_now status
