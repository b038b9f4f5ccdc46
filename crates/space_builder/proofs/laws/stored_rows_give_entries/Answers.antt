use Rattle.space_builder.proofs.building.PickedEntries.{layout_entries}
use Rattle.space_builder.proofs.laws.stored_rows_give_entries.Goals as goal

pub returns : goal.returns
returns c = layout_entries c.picked_entries_are_sorted.ensures
