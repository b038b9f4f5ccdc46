use Rattle.std.proofs.Common.{◌≡◌, ℕ, ◌≤◌, List, length, map, All}
use Rattle.std.specs.List.{range_with_len}
use Rattle.extent_map.specs.Extents.{AreExtents, used_count}
use Rattle.space_audit.proofs.homes.count_uses.Given as goal

abbrev pub invariant-loop-e : goal.invariant-loop-e
invariant-loop-e l = record {
  count : length l.uses.items ≡ l.e;
  small : All (λ count. count ≤ 64) l.uses.items;
  told : (file : List ℕ) → AreExtents file l.extents → l.uses.items ≡ map (used_count file) (range_with_len 0 l.e);
}
