use Rattle.std.proofs.Common.{◌≡◌, ℕ, ◌<◌, length, get_or}
use Rattle.extent_map.specs.Writing.{bitmap_byte}
use Rattle.extent_map.proofs.extent.bitmap.Given as goal

abbrev pub invariant-loop-i : goal.invariant-loop-i
invariant-loop-i l =
    (length l.bytes ≡ 16) × ((k : ℕ) → k < l.i → get_or l.bytes k 0 ≡ bitmap_byte l.used k)
