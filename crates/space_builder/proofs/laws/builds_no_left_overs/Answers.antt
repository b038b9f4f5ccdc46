use Rattle.space_builder.proofs.layout.Values.{only_left_overs}
use Rattle.space_builder.proofs.laws.builds_no_left_overs.Goals as goal

pub returns : goal.returns
returns c table rows can = only_left_overs c.laws_below.ensures table rows can
