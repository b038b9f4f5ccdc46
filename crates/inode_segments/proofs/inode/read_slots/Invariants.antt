use Rattle.std.proofs.Common.{◌≡◌, ℕ, ◌+◌, ◌*◌, ◌<◌, length, get_or}
use Rattle.page_source.specs.Pages.{num}
use Rattle.inode_segments.proofs.inode.read_slots.Given as goal

abbrev pub invariant-loop-i : goal.invariant-loop-i
invariant-loop-i l =
    (length l.slots ≡ 32) × ((k : ℕ) → k < l.i → get_or l.slots k 0 ≡ num l.page (l.at + 4 * k) 4)
