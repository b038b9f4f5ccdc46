-- What is printed: the line of a status, and that of a file that was put together.
use Rattle.std.specs.Prelude.{ℕ, List, [], ◌++◌, codes}
use Rattle.command_line.specs.Lines.{counted}
use Rattle.image_carve.specs.declared.taken.Taken.{Taken}
use Rattle.ibd_carve.specs.declared.status.CarveStatus.{CarveStatus}
use Rattle.ibd_carve.specs.declared.status.CarveStatus.TheVariants.{Done, Usage, SourceFault, SinkFault, StoreFault}
use Rattle.ibd_carve.specs.declared.status.CarveStatus.TheVariants.{Memory, Nothing}

-- what a status writes to the standard error
abbrev pub status_line : CarveStatus → List ℕ
status_line Done = []
status_line Usage = codes "usage\n"
status_line SourceFault = codes "source\n"
status_line SinkFault = codes "sink\n"
status_line StoreFault = codes "store\n"
status_line Memory = codes "memory\n"
status_line Nothing = codes "nothing\n"

-- the exit status of the process
abbrev pub status_number : CarveStatus → ℕ
status_number Done = 0
status_number Usage = 1
status_number SourceFault = 5
status_number SinkFault = 6
status_number StoreFault = 7
status_number Memory = 8
status_number Nothing = 17

-- how many pages a file has got, of how many, and their greatest LSN
abbrev pub taken_line : Taken → List ℕ
taken_line taken =
    counted (codes "pages=") taken.pages ++ counted (codes " of=") taken.size ++ counted (codes " newest=") taken.newest
    ++ codes "\n"
