use Rattle.column_values.proofs.Utf8Steps.{nothing_read}
use Rattle.column_values.proofs.utf8.Utf8.limit.Goals as goal

pub returns-clause-fresh : goal.returns-clause-fresh
returns-clause-fresh c = nothing_read
