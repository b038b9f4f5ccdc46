use Rattle.std.proofs.Common.{◌≡◌, ℕ, ◌<◌, length, get_or, Contains}
use Rattle.cross_index.specs.calls.Gather.{StandsAt}
use Rattle.cross_index.proofs.kept.slots_of.Given as goal

-- the fields so far have their slots
abbrev pub invariant-loop-field : goal.invariant-loop-field
invariant-loop-field l = record {
  count : length l.slots.items ≡ l.field-index;
  each : (i : ℕ) → i < l.field-index → Contains l.kept (get_or l.fields i 0)
      → StandsAt l.kept (get_or l.slots.items i 0) (get_or l.fields i 0);
}
