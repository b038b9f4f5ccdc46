use Rattle.image_carve.proofs.Noted.{some_known}
use Rattle.image_carve.proofs.carve.put_newer.Goals as goal

pub returns-clause-untouched : goal.returns-clause-untouched
returns-clause-untouched g c =
    λ none. absurd (some_known c.note.new.self c.args.n c.lsn-lsn.result c.in_ok-note.ensures.here none)
