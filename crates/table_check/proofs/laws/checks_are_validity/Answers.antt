use Rattle.table_check.proofs.ValidLaw.{valid, checked}
use Rattle.table_check.proofs.laws.checks_are_validity.Goals as goal

pub returns : goal.returns
returns c =
    let audit = c.audit_is_soundness.ensures in
    let trees = c.tree_checks_are_trees.ensures in
    let values = c.value_checks_are_values.ensures in
    λ file table. (valid audit trees values file table, checked audit trees values file table)
