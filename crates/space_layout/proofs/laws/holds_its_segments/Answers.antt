use Rattle.space_layout.proofs.Known.{known}
use Rattle.space_layout.proofs.Segments.{has_segments}
use Rattle.space_layout.proofs.laws.holds_its_segments.Goals as goal

pub returns : goal.returns
returns c file sizes flags shape holds =
    has_segments file sizes flags shape (known c.laws_below.ensures.uses file sizes flags holds)
