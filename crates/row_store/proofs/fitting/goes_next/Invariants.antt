use Rattle.row_layout.specs.StoredRow.{going_lengths}
use Rattle.row_store.proofs.Longest.{IsLongest}
use Rattle.row_store.proofs.fitting.goes_next.Given as goal

abbrev pub invariant-loop-i : goal.invariant-loop-i
invariant-loop-i l = IsLongest (going_lengths l.schema l.row) l.i l.most l.place
