use Rattle.space_builder.proofs.layout.Values.{values_are_sound}
use Rattle.space_builder.proofs.laws.builds_sound_values.Goals as goal

pub returns : goal.returns
returns c table rows can = values_are_sound c.laws_below.ensures table rows can
