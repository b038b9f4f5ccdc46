use Rattle.page_source.proofs.transfers.write_page.Goals as goal
use Rattle.page_source.proofs.Transferred.{page_added}

pub returns : goal.returns
returns g c = page_added g.F.Seek.stream_position g.F.Write.contents _ c.seek_page.new.file _ _ _ _ _
    c.in_ok-seek_page.ensures
    c.bytes.ensures.same c.write_whole.ensures
