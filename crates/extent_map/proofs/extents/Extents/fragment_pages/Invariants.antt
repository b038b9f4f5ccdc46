use Rattle.std.proofs.Common.{◌≡◌, List, ℕ, map}
use Rattle.std.specs.List.{range_with_len}
use Rattle.extent_map.specs.Extents.{AreExtents, is_fragment_page}
use Rattle.extent_map.proofs.extents.Extents.fragment_pages.Given as goal

abbrev pub invariant-loop-n : goal.invariant-loop-n
invariant-loop-n l =
    (file : List ℕ) → AreExtents file l.self → l.flags.items ≡ map (is_fragment_page file) (range_with_len 0 l.n)
