use Rattle.page_source.proofs.Transferred.{pages_told}
use Rattle.page_source.proofs.transfers.count_pages.Goals as goal

pub returns : goal.returns
returns g c = pages_told _ _ c.in_ok-end_of.field-0 _ c.in_ok-end_of.ensures c.pages_in.ensures
