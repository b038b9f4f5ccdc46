-- What ends a salvage, from what ends the writing of a row.
use Rattle.sql_dump.specs.declared.stop.WriteStop.{WriteStop}
use Rattle.sql_dump.specs.declared.stop.WriteStop.TheVariants as writes
use Rattle.salvage_model.specs.declared.stop.SalvageStop.{SalvageStop}
use Rattle.salvage_model.specs.declared.stop.SalvageStop.TheVariants.{Source, Sink, Changed}

abbrev pub salvage_stop_of : WriteStop → SalvageStop
salvage_stop_of (writes.Broken fault) = Changed fault
salvage_stop_of writes.Source = Source
salvage_stop_of writes.Sink = Sink
