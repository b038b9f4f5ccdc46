use Rattle.page_packer.proofs.Pointers.{pointers_point}
use Rattle.page_packer.proofs.laws.pointers_lead_to_their_pages.Goals as goal

pub returns : goal.returns
returns c = pointers_point
