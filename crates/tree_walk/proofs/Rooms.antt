-- the room stays
use Rattle.std.proofs.Common.{◌∙◌, ℕ}
use Rattle.tree_walk.specs.declared.walk.Walk.{Walk}
use Rattle.tree_walk.specs.Room.{HasRoom, HasSameRoom}

pub room_join : (a b c : Walk) → HasSameRoom a b → HasSameRoom b c → HasSameRoom a c
room_join a b c x y = record {
  scratch = y.scratch ∙ x.scratch;
  low = y.low ∙ x.low;
  high = y.high ∙ x.high;
  first = y.first ∙ x.first;
  last = y.last ∙ x.last;
}

pub has_room : (old new : Walk) (n : ℕ) → HasSameRoom old new → HasRoom old n → HasRoom new n
has_room old new n s r = record {
  scratch = rw s.scratch r.scratch;
  low = rw s.low r.low;
  high = rw s.high r.high;
  first = rw s.first r.first;
  last = rw s.last r.last;
}
