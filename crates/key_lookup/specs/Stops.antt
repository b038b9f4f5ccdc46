-- What ends a look-up, from what ends the calls that it makes.
use Rattle.page_source.specs.declared.checks.Stop.{Stop}
use Rattle.page_source.specs.declared.checks.Stop.TheVariants as stops
use Rattle.row_text.specs.declared.row.RowError.{RowError}
use Rattle.row_text.specs.declared.row.RowError.TheVariants as errors
use Rattle.sql_dump.specs.declared.stop.WriteStop.{WriteStop}
use Rattle.sql_dump.specs.declared.stop.WriteStop.TheVariants as writes
use Rattle.key_lookup.specs.declared.stop.GetStop.{GetStop}
use Rattle.key_lookup.specs.declared.stop.GetStop.TheVariants.{Refused, Broken, Source, Sink, Memory}

-- what a stop of the checks and the end of the writing are to a look-up
abbrev pub get_stop_of : Stop → GetStop
get_stop_of (stops.Broken fault) = Broken fault
get_stop_of stops.Source = Source
get_stop_of stops.Memory = Memory

abbrev pub get_stop_of_write : WriteStop → GetStop
get_stop_of_write (writes.Broken fault) = Broken fault
get_stop_of_write writes.Source = Source
get_stop_of_write writes.Sink = Sink

-- what an unread key is to a look-up
abbrev pub get_stop_of_row : RowError → GetStop
get_stop_of_row errors.Refused = Refused
get_stop_of_row errors.Memory = Memory
