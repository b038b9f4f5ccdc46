use Rattle.row_text.proofs.Lines.{line_opens, line_goes_on, line_closes}
use Rattle.row_text.proofs.laws.pieces_are_the_line.Goals as goal

pub returns-clause-opens : goal.returns-clause-opens
returns-clause-opens c = line_opens

pub returns-clause-goes_on : goal.returns-clause-goes_on
returns-clause-goes_on c = line_goes_on

pub returns-clause-closes : goal.returns-clause-closes
returns-clause-closes c = line_closes
