-- What is printed: the line of a status.
use Rattle.std.specs.Prelude.{ℕ, List, [], ◌++◌, codes}
use Rattle.command_line.specs.Lines.{counted, why_word, refusal_line, fault_line}
use Rattle.row_store.specs.declared.stop.RowsWhy.{RowsWhy}
use Rattle.row_store.specs.declared.stop.RowsWhy.TheVariants as rows_whys
use Rattle.ibd_cli.specs.declared.status.Status.{Status}
use Rattle.ibd_cli.specs.declared.status.Status.TheVariants.{Done, Usage, SchemaRefused, Broken, RowsRefused}
use Rattle.ibd_cli.specs.declared.status.Status.TheVariants.{SourceFault, SinkFault, StoreFault, Memory, Full}
use Rattle.ibd_cli.specs.declared.status.Status.TheVariants.{CrossMissing, CrossExtra, KeyRefused, Absent}

abbrev pub rows_why_word : RowsWhy → List ℕ
rows_why_word rows_whys.Long = codes "long"
rows_why_word rows_whys.Input = codes "input"
rows_why_word rows_whys.Line = codes "line"
rows_why_word rows_whys.Order = codes "order"
rows_why_word rows_whys.Big = codes "big"

-- where the rows and an index differ: the number of the index, and the place that one side has alone
abbrev pub difference_line : ℕ → List ℕ → ℕ → List ℕ
difference_line index side place = counted (codes "cross index ") index ++ counted side place ++ codes "\n"

-- what a status writes to the standard error: nothing where all is done
abbrev pub status_line : Status → List ℕ
status_line Done = []
status_line Usage = codes "usage\n"
status_line (SchemaRefused line why) = refusal_line (codes "schema line ") line (why_word why)
status_line (Broken fault) = fault_line fault
status_line (RowsRefused line why) = refusal_line (codes "rows line ") line (rows_why_word why)
status_line SourceFault = codes "source\n"
status_line SinkFault = codes "sink\n"
status_line StoreFault = codes "store\n"
status_line Memory = codes "memory\n"
status_line Full = codes "full\n"
status_line (CrossMissing index row) = difference_line index (codes " missing row ") row
status_line (CrossExtra index page) = difference_line index (codes " extra page ") page
status_line KeyRefused = codes "key\n"
status_line Absent = codes "absent\n"

-- the exit status of the process
abbrev pub status_number : Status → ℕ
status_number Done = 0
status_number Usage = 1
status_number (SchemaRefused line why) = 2
status_number (Broken fault) = 3
status_number (RowsRefused line why) = 4
status_number SourceFault = 5
status_number SinkFault = 6
status_number StoreFault = 7
status_number Memory = 8
status_number Full = 9
status_number (CrossMissing index row) = 11
status_number (CrossExtra index page) = 12
status_number KeyRefused = 13
status_number Absent = 14
