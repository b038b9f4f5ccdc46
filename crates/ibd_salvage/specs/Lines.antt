-- What is printed: the line of a status.
use Rattle.std.specs.Prelude.{ℕ, List, [], codes}
use Rattle.command_line.specs.Lines.{why_word, refusal_line, fault_line}
use Rattle.ibd_salvage.specs.declared.status.SalvageStatus.{SalvageStatus}
use Rattle.ibd_salvage.specs.declared.status.SalvageStatus.TheVariants.{Done, Usage, SchemaRefused, Changed}
use Rattle.ibd_salvage.specs.declared.status.SalvageStatus.TheVariants.{SourceFault}
use Rattle.ibd_salvage.specs.declared.status.SalvageStatus.TheVariants.{SinkFault, Memory, Lost, RootLost}

-- what a status writes to the standard error, after what was lost: nothing where the file was gone through to its end
abbrev pub status_line : SalvageStatus → List ℕ
status_line Done = []
status_line Usage = codes "usage\n"
status_line (SchemaRefused line why) = refusal_line (codes "schema line ") line (why_word why)
status_line (Changed fault) = fault_line fault
status_line SourceFault = codes "source\n"
status_line SinkFault = codes "sink\n"
status_line Memory = codes "memory\n"
status_line Lost = []
status_line RootLost = codes "root\n"

-- the exit status of the process
abbrev pub status_number : SalvageStatus → ℕ
status_number Done = 0
status_number Usage = 1
status_number (SchemaRefused line why) = 2
status_number (Changed fault) = 3
status_number SourceFault = 5
status_number SinkFault = 6
status_number Memory = 8
status_number Lost = 15
status_number RootLost = 16
