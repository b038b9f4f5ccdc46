-- What the words ask for never ends as if they had no form.
use Rattle.std.proofs.Common.{◌≡◌, ℕ, List, Option, Result, Ok, Err, sym, ◌∙◌, subst}
use Rattle.page_source.specs.declared.objects.ByteSource.{Ghosts as SourceOf}
use Rattle.page_source.specs.declared.objects.ByteSink.{Ghosts as SinkOf}
use Rattle.image_listing.specs.declared.listing.ListStop.{ListStop}
use Rattle.image_listing.specs.declared.listing.ListStop.TheVariants as list_stops
use Rattle.image_carve.specs.declared.file.PageFile.{Ghosts as PageFileOf}
use Rattle.image_carve.specs.declared.taken.Taken.{Taken}
use Rattle.image_carve.specs.declared.taken.TakeStop.{TakeStop}
use Rattle.image_carve.specs.declared.taken.TakeStop.TheVariants as take_stops
use Rattle.ibd_carve.specs.declared.forms.Form.{Form}
use Rattle.ibd_carve.specs.declared.forms.Form.TheVariants.{ListImage, TakeSpace}
use Rattle.ibd_carve.specs.declared.status.CarveStatus.{CarveStatus}
use Rattle.ibd_carve.specs.declared.status.CarveStatus.TheVariants.{Usage}
use Rattle.ibd_carve.specs.Ends.{status_of_list, status_of_stop}
use Rattle.ibd_carve.specs.Run.{EndsTake, Serves}

list_asked : (answer : Result (Unit {0}) ListStop) → Usage ≡ status_of_list answer → ⊥
list_asked (Ok u) e = cc
list_asked (Err list_stops.Source) e = cc
list_asked (Err list_stops.Sink) e = cc
list_asked (Err list_stops.Memory) e = cc

stop_asked : (stop : TakeStop) → Usage ≡ status_of_stop stop → ⊥
stop_asked take_stops.Nothing e = cc
stop_asked take_stops.Source e = cc
stop_asked take_stops.Store e = cc
stop_asked take_stops.Memory e = cc

take_asked : (out out_now : Option (List ℕ)) (answer : Result Taken TakeStop) → EndsTake out out_now answer Usage → ⊥
take_asked out out_now (Ok taken) ends = ends
take_asked out out_now (Err stop) ends = stop_asked stop ends

pub is_asked : {Q F O : Type 0} (q : SourceOf Q) (f : PageFileOf F) (o : SinkOf O) (form : Form) (image image_now : Q)
    (file file_now : F) (out out_now : O) (status : CarveStatus)
    → Serves q f o form image image_now file file_now out out_now status → status ≡ Usage → ⊥
is_asked q f o ListImage image image_now file file_now out out_now status serves usage =
    list_asked serves.result (sym usage ∙ serves.ends)
is_asked q f o (TakeSpace space) image image_now file file_now out out_now status serves usage =
    take_asked (o.written out) (o.written out_now) serves.result
    (subst (λ (s : CarveStatus). EndsTake (o.written out) (o.written out_now) serves.result s) usage serves.ends)
