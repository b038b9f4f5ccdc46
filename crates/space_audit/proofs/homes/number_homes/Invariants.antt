use Rattle.std.proofs.Common.{◌≡◌, ℕ, List, length, map}
use Rattle.std.specs.List.{range_with_len}
use Rattle.extent_map.specs.Extents.{AreExtents}
use Rattle.inode_segments.specs.Inodes.{segments, segment_id}
use Rattle.space_audit.specs.Lists.{home_number, uses_of}
use Rattle.space_audit.proofs.homes.number_homes.Given as goal

abbrev pub invariant-loop-e : goal.invariant-loop-e
invariant-loop-e l = record {
  count : length l.homes.items ≡ l.e;
  told : (file : List ℕ) → AreExtents file l.extents → l.uses ≡ uses_of file
      → l.ids ≡ map (segment_id file) (segments file)
      → l.homes.items ≡ map (home_number file) (range_with_len 0 l.e);
}
