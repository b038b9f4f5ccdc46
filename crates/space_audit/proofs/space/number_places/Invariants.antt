use Rattle.std.proofs.Common.{◌≡◌, ℕ, ◌<◌, map, take, get_or}
use Rattle.space_header.specs.declared.address.Address.{Address}
use Rattle.space_audit.specs.Space.{address_key, HasSmallOffset}
use Rattle.space_audit.proofs.space.number_places.Given as goal

abbrev pub invariant-loop-s : goal.invariant-loop-s
invariant-loop-s l = record {
  keys : l.places ≡ map address_key (take l.s l.inodes.places);
  small : (k : ℕ) (d : Address) → k < l.s → HasSmallOffset (get_or l.inodes.places k d);
}
