use Rattle.std.proofs.Common.{◌≡◌, false}
use Rattle.table_tests.proofs.tree_walk_tests.leaves.rows_of.Given as goal

abbrev pub invariant-loop-rows : goal.invariant-loop-rows
invariant-loop-rows g l = l.cursor.ended ≡ false
