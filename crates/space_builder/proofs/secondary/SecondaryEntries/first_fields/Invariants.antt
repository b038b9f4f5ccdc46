use Rattle.std.proofs.Common.{◌≡◌, take}
use Rattle.row_layout.specs.HoldsValues.{stored_in}
use Rattle.space_builder.specs.calls.Picked.{picked_entry}
use Rattle.space_builder.proofs.secondary.SecondaryEntries.first_fields.Given as goal

-- the fields so far
abbrev pub invariant-loop-k : goal.invariant-loop-k
invariant-loop-k l = l.parts ≡ picked_entry (take l.k l.self.fields.now) (stored_in l.self.rows.now l.r)
