use Rattle.offpage_chain.proofs.PartPages.{part_page_read}
use Rattle.offpage_chain.proofs.laws.part_pages_are_read.Goals as goal

pub returns : goal.returns
returns c = part_page_read
