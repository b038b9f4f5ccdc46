use Rattle.row_text.proofs.OneLine.{has_one_line, has_one_row, begins_no_other}
use Rattle.row_text.proofs.laws.lines_are_unique.Goals as goal

pub returns-clause-one_line : goal.returns-clause-one_line
returns-clause-one_line c = has_one_line

pub returns-clause-one_row : goal.returns-clause-one_row
returns-clause-one_row c = has_one_row

pub returns-clause-no_other : goal.returns-clause-no_other
returns-clause-no_other c = begins_no_other
