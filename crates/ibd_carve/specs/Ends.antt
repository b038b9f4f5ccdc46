-- The status of a run whose call answered this.
use Rattle.std.specs.Prelude.{Result, Ok, Err}
use Rattle.image_listing.specs.declared.listing.ListStop.{ListStop}
use Rattle.image_listing.specs.declared.listing.ListStop.TheVariants as list_stops
use Rattle.image_carve.specs.declared.taken.TakeStop.{TakeStop}
use Rattle.image_carve.specs.declared.taken.TakeStop.TheVariants as take_stops
use Rattle.ibd_carve.specs.declared.status.CarveStatus.{CarveStatus}
use Rattle.ibd_carve.specs.declared.status.CarveStatus.TheVariants.{Done, SourceFault, SinkFault, StoreFault, Memory}
use Rattle.ibd_carve.specs.declared.status.CarveStatus.TheVariants.{Nothing}

-- the status of a listing
abbrev pub status_of_list : Result (Unit {0}) ListStop → CarveStatus
status_of_list (Ok u) = Done
status_of_list (Err list_stops.Source) = SourceFault
status_of_list (Err list_stops.Sink) = SinkFault
status_of_list (Err list_stops.Memory) = Memory

-- the status of a take that stopped
abbrev pub status_of_stop : TakeStop → CarveStatus
status_of_stop take_stops.Nothing = Nothing
status_of_stop take_stops.Source = SourceFault
status_of_stop take_stops.Store = StoreFault
status_of_stop take_stops.Memory = Memory
