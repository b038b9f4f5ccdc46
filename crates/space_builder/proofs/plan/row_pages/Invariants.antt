use Rattle.std.proofs.Common.{◌≡◌, ◌-◌, ◌^◌, min, take}
use Rattle.std.specs.List.{sum_by}
use Rattle.row_layout.specs.HoldsValues.{pages_of_stored, stored_in}
use Rattle.space_builder.proofs.plan.row_pages.Given as goal

-- those of the fields so far
abbrev pub invariant-loop-i : goal.invariant-loop-i
invariant-loop-i l = l.total ≡ min (sum_by (pages_of_stored l.format) (take l.i (stored_in l.rows l.r))) (2 ^ 64 - 1)
