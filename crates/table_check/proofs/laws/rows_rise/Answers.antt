use Rattle.table_check.specs.Trees.{index_in}
use Rattle.table_check.proofs.ValidLaw.{is_walked}
use Rattle.table_check.proofs.laws.rows_rise.Goals as goal

pub returns : goal.returns
returns c =
    λ file table valid j below.
    c.keys_rise_over_leaves.ensures (index_in file table j)
    (is_walked c.audit_is_soundness.ensures c.tree_checks_are_trees.ensures file table valid j below)
