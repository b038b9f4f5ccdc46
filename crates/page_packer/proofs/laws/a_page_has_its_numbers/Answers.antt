use Rattle.page_packer.proofs.NumberFacts.{packs_numbers}
use Rattle.page_packer.proofs.laws.a_page_has_its_numbers.Goals as goal

pub returns : goal.returns
returns c = packs_numbers
