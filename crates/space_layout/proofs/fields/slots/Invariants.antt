use Rattle.std.proofs.Common.{◌≡◌, ℕ, ◌<◌, length, get_or}
use Rattle.space_layout.specs.Fields.{slot_of}
use Rattle.space_layout.proofs.fields.slots.Given as goal

abbrev pub invariant-loop-i : goal.invariant-loop-i
invariant-loop-i l =
    (length l.slots ≡ 32) × ((k : ℕ) → k < l.i → get_or l.slots k 0 ≡ slot_of l.sizes l.s k)
