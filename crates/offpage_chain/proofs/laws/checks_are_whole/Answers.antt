use Rattle.std.proofs.Common.{◌++◌}
use Rattle.column_values.specs.Characters.{IsTextOfKind}
use Rattle.offpage_chain.proofs.Whole.{checks_are_whole}
use Rattle.offpage_chain.proofs.laws.checks_are_whole.Goals as goal

pub returns : goal.returns
returns c file segment holder reference taken kind local size =
    checks_are_whole file segment holder reference taken (λ bytes. IsTextOfKind kind (local ++ bytes)) size
