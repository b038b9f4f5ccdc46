use Rattle.std.proofs.Common.{◌≡◌, ◌<◌, ◌+◌, length, IfSome}
use Rattle.space_header.specs.Header.{extent_address}
use Rattle.space_header.specs.Linked.{node_in}
use Rattle.space_header.proofs.Walks.{Walked}
use Rattle.space_header.proofs.list.follow.Given as goal

abbrev pub invariant-loop-place : goal.invariant-loop-place
invariant-loop-place g l =
    record {
      count : length l.extents.items ≡ l._place;
      steps : l.steps ≡ l.fn.steps + l._place;
      below : IfSome l.before (λ e. e < 65536);
      walked : Walked (node_in l.nodes) extent_address
          (λ e. e < length l.nodes) l.base.last l.base.first l.extents.items l.before l.found;
    }
