use Rattle.std.proofs.Common.{◌≡◌, ℕ, ◌+◌, ◌*◌, ◌<◌, get_or, take}
use Rattle.page_source.specs.Pages.{num, with_bytes}
use Rattle.inode_segments.specs.Writing.{slots_bytes}
use Rattle.inode_segments.proofs.inode.write_slots.Given as goal

abbrev pub invariant-loop-i : goal.invariant-loop-i
invariant-loop-i l = record {
  exact : l.page ≡ with_bytes l.fn.page l.at (slots_bytes (take l.i l.slots));
  read : (k : ℕ) → k < l.i → num l.page (l.at + 4 * k) 4 ≡ get_or l.slots k 0;
}
