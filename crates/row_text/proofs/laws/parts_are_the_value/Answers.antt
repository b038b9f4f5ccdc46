use Rattle.row_text.proofs.LongValues.{no_part, parts_join, is_value, parts_are_value}
use Rattle.row_text.proofs.laws.parts_are_the_value.Goals as goal

pub returns-clause-none : goal.returns-clause-none
returns-clause-none c = no_part

pub returns-clause-join : goal.returns-clause-join
returns-clause-join c = parts_join

pub returns-clause-one : goal.returns-clause-one
returns-clause-one c = is_value

pub returns-clause-whole : goal.returns-clause-whole
returns-clause-whole c = parts_are_value
