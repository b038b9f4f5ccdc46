-- What the reading of rows stops at.
use Rattle.std.specs.Prelude.{ℕ, ◌+◌}
use Rattle.row_text.specs.declared.row.RowError.{RowError}
use Rattle.row_text.specs.declared.row.RowError.TheVariants as errors
use Rattle.row_store.specs.declared.stop.RowsWhy.TheVariants.{Line}
use Rattle.row_store.specs.declared.stop.RowsStop.{RowsStop}
use Rattle.row_store.specs.declared.stop.RowsStop.TheVariants as stops
use Rattle.row_store.specs.declared.stop.ReadStop.{ReadStop}
use Rattle.row_store.specs.declared.stop.ReadStop.TheVariants as reads
use Rattle.row_store.specs.declared.stop.RowStop.{RowStop}
use Rattle.row_store.specs.declared.stop.RowStop.TheVariants as rows

abbrev pub stop_of_read : ReadStop → RowsStop
stop_of_read reads.Source = stops.Source
stop_of_read reads.Memory = stops.Memory

abbrev pub stop_of_row : RowError → RowStop
stop_of_row errors.Refused = rows.Refused Line
stop_of_row errors.Memory = rows.Memory

-- the stop of a row behind so many others
abbrev pub stop_behind : ℕ → RowStop → RowsStop
stop_behind count (rows.Refused why) = stops.Refused (count + 1) why
stop_behind count rows.Memory = stops.Memory
