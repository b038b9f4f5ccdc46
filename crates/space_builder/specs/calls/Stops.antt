-- What a build answers where one of its parts stopped.
use Rattle.row_store.specs.declared.stop.RowsStop.{RowsStop}
use Rattle.row_store.specs.declared.stop.RowsStop.TheVariants as rows
use Rattle.space_builder.specs.declared.built.PutStop.{PutStop}
use Rattle.space_builder.specs.declared.built.PutStop.TheVariants as puts
use Rattle.space_builder.specs.declared.plan.PlanStop.{PlanStop}
use Rattle.space_builder.specs.declared.plan.PlanStop.TheVariants as plans
use Rattle.space_builder.specs.declared.built.BuildStop.{BuildStop}
use Rattle.space_builder.specs.declared.built.BuildStop.TheVariants as stops

-- the reading of rows stopped
abbrev pub stop_of_rows : RowsStop → BuildStop
stop_of_rows (rows.Refused line why) = stops.RowsRefused line why
stop_of_rows rows.Source = stops.Source
stop_of_rows rows.Memory = stops.Memory

-- putting stopped, or there was no plan
abbrev pub stop_of_put : PutStop → BuildStop
stop_of_put puts.Store = stops.Store
stop_of_put puts.Memory = stops.Memory

abbrev pub stop_of_plan : PlanStop → BuildStop
stop_of_plan plans.Full = stops.Full
stop_of_plan plans.Memory = stops.Memory
