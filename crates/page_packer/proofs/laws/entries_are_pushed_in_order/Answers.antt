use Rattle.page_packer.proofs.Packed.{pushes_entries}
use Rattle.page_packer.proofs.laws.entries_are_pushed_in_order.Goals as goal

pub returns : goal.returns
returns c = pushes_entries
