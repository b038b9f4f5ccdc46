use Rattle.table_check.proofs.ValidLaw.{is_walked}
use Rattle.table_check.proofs.laws.trees_are_walked.Goals as goal

pub returns : goal.returns
returns c =
    λ file table valid j below.
    is_walked c.audit_is_soundness.ensures c.tree_checks_are_trees.ensures file table valid j below
