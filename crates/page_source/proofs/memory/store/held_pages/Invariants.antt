use Rattle.std.proofs.Common.{◌≡◌, ◌^◌, ◌<◌, ◌++◌, vec_len, drop}
use Rattle.page_source.specs.Slots.{held_from}
use Rattle.page_source.proofs.memory.store.held_pages.Given as goal

abbrev pub invariant-loop-slot : goal.invariant-loop-slot
invariant-loop-slot l =
    let behind = drop (vec_len l.slots) l.fn.slots.items in
    record {
      all : l.slots.items ++ behind ≡ l.fn.slots.items;
      within : vec_len l.slots < 2 ^ 32;
      held : l.held ≡ held_from (vec_len l.slots) behind;
    }

abbrev pub decreases-loop-slot : goal.decreases-loop-slot
decreases-loop-slot l = vec_len l.slots
