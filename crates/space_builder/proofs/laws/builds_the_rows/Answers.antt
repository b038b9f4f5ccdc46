use Rattle.space_builder.proofs.layout.Values.{rows_are}
use Rattle.space_builder.proofs.laws.builds_the_rows.Goals as goal

pub returns : goal.returns
returns c table rows can = rows_are c.laws_below.ensures table rows can
