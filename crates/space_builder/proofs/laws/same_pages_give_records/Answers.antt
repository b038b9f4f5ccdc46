use Rattle.space_builder.proofs.building.PickedEntries.{same_records}
use Rattle.space_builder.proofs.laws.same_pages_give_records.Goals as goal

pub returns : goal.returns
returns c = same_records
