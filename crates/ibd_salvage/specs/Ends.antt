-- The status of a program whose salvage answered this.
use Rattle.std.specs.Prelude.{◌≡◌, Result, Ok, Err}
use Rattle.salvage_model.specs.declared.saved.Saved.{Saved}
use Rattle.salvage_model.specs.declared.stop.SalvageStop.{SalvageStop}
use Rattle.salvage_model.specs.declared.stop.SalvageStop.TheVariants as stops
use Rattle.salvage_model.specs.Saved.{IsComplete}
use Rattle.command_line.specs.declared.schema_file.SchemaStop.{SchemaStop}
use Rattle.command_line.specs.declared.schema_file.SchemaStop.TheVariants.{Refused, Source, Memory}
use Rattle.ibd_salvage.specs.declared.status.SalvageStatus.{SalvageStatus}
use Rattle.ibd_salvage.specs.declared.status.SalvageStatus.TheVariants as statuses

-- the status of a schema text that isn't read
abbrev pub status_of_schema : SchemaStop → SalvageStatus
status_of_schema (Refused line why) = statuses.SchemaRefused line why
status_of_schema Source = statuses.SourceFault
status_of_schema Memory = statuses.Memory

-- all was saved, or something is lost
abbrev pub EndsSaved : Saved → SalvageStatus → Type 0
EndsSaved saved statuses.Done = IsComplete saved
EndsSaved saved statuses.Lost = ¬ (IsComplete saved)
EndsSaved saved _ = ⊥

-- the status of a salvage; a failure of the report ends none
abbrev pub Ends : Result Saved SalvageStop → SalvageStatus → Type 0
Ends (Ok saved) status = EndsSaved saved status
Ends (Err stops.Root) status = status ≡ statuses.RootLost
Ends (Err stops.Source) status = status ≡ statuses.SourceFault
Ends (Err stops.Sink) status = status ≡ statuses.SinkFault
Ends (Err stops.Losses) status = ⊥
Ends (Err stops.Memory) status = status ≡ statuses.Memory
Ends (Err (stops.Changed fault)) status = status ≡ statuses.Changed fault
