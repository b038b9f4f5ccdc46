use Rattle.page_packer.proofs.PackedPage.{packs_index_page, packs_pushed, packs_whole_page}
use Rattle.page_packer.proofs.laws.a_page_holds_its_entries.Goals as goal

pub returns : goal.returns
returns c = record { pushed = packs_pushed; entries = packs_index_page; whole = packs_whole_page }
