use Rattle.std.proofs.Common.{◌≡◌, ℕ, length, slice_index}
use Rattle.space_builder.proofs.values.list_none.Given as goal

-- zeros are listed for the rows so far
abbrev pub invariant-loop-row : goal.invariant-loop-row
invariant-loop-row l = record {
  size : length l.starts.items ≡ l._row;
  same : (q : ℕ) → slice_index l.starts.items q ≡ slice_index l.initial.starts.items q;
}
