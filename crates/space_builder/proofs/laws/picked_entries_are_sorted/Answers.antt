use Rattle.space_builder.proofs.building.PickedEntries.{picks_entries}
use Rattle.space_builder.proofs.laws.picked_entries_are_sorted.Goals as goal

pub returns : goal.returns
returns c = picks_entries c.fitted_rows_are_rows.ensures c.entries_differ.ensures c.sorting_rises.ensures
