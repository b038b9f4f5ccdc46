use Rattle.page_source.proofs.transfers.seek_page.Goals as goal
use Rattle.std.proofs.Common.{◌*◌, ap}
use Rattle.page_source.proofs.Transferred.{goes_there}

pub returns : goal.returns
returns g c = goes_there _ _ (g.F.Seek.stream_bytes c.args.file.now) _ (16384 * c.args.n) _ c.seek.ensures.moves
    (ap (λ k. 16384 * k) c.from.ensures)
