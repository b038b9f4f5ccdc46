use Rattle.std.proofs.Common.{◌≡◌, map, take, drop}
use Rattle.row_store.specs.calls.Arena.{spot_of}
use Rattle.row_store.proofs.marks.are_marked.Given as goal

-- so many of the marks there are those of the fields
abbrev pub invariant-loop-i : goal.invariant-loop-i
invariant-loop-i l = take l.i (drop l.first (map spot_of l.marks)) ≡ take l.i l.fields
