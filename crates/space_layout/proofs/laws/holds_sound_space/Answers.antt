use Rattle.space_layout.proofs.Known.{known}
use Rattle.space_layout.proofs.BuiltSpace.{is_sound}
use Rattle.space_layout.proofs.laws.holds_sound_space.Goals as goal

pub returns : goal.returns
returns c file sizes flags shape plain holds =
    is_sound file sizes flags shape plain (known c.laws_below.ensures.uses file sizes flags holds)
