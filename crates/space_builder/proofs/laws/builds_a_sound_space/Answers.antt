use Rattle.space_builder.proofs.layout.File.{sound_space}
use Rattle.space_builder.proofs.laws.builds_a_sound_space.Goals as goal

pub returns : goal.returns
returns c table rows can = sound_space c.laws_below.ensures table rows can
