use Rattle.schema_text.proofs.GoodLines.{good_lines}
use Rattle.schema_text.proofs.laws.good_lines_spell.Goals as goal

pub returns : goal.returns
returns c = good_lines
