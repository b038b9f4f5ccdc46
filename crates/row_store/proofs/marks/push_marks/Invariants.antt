use Rattle.std.proofs.Common.{◌≡◌, ◌++◌, length, map, take}
use Rattle.row_store.specs.calls.Arena.{spot_of}
use Rattle.row_store.proofs.marks.push_marks.Given as goal

-- the marks of the fields so far were added
abbrev pub invariant-loop-spot : goal.invariant-loop-spot
invariant-loop-spot l = record {
  same : map spot_of l.marks.items ≡ map spot_of l.initial.marks.items ++ take l.spot-index l.fields;
  begins : take (length l.initial.marks.items) l.marks.items ≡ l.initial.marks.items;
}
