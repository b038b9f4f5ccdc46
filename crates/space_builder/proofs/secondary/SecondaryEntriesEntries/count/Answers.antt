use Rattle.std.proofs.Common.{sym}
use Rattle.space_builder.proofs.building.PickedParts.{count_picked}
use Rattle.space_builder.proofs.secondary.SecondaryEntriesEntries.count.Goals as goal

pub returns : goal.returns
returns c = sym (count_picked c.args.self.now.fields.now c.args.self.now.rows.now c.args.self.now.order.now)
