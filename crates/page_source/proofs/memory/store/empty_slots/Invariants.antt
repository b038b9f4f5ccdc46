use Rattle.std.proofs.Common.{◌≡◌, vec_len}
use Rattle.std.specs.FinMap.{empty}
use Rattle.page_source.specs.Slots.{held_from}
use Rattle.page_source.proofs.memory.store.empty_slots.Given as goal

abbrev pub invariant-loop-i : goal.invariant-loop-i
invariant-loop-i l = (vec_len l.slots ≡ l._i) × (held_from 0 l.slots.items ≡ empty)
