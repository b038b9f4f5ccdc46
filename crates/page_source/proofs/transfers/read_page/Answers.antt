use Rattle.page_source.proofs.transfers.read_page.Goals as goal
use Rattle.page_source.proofs.Transferred.{page_taken}

pub returns : goal.returns
returns g c = page_taken g.F.Seek.stream_position g.F.Read.remaining _ c.seek_page.new.file _ _ _ _
    c.in_ok-seek_page.ensures c.fill_from.ensures
