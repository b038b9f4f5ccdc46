use Rattle.std.proofs.Common.{◌≤◌, ℕ, List, flat_map, take}
use Rattle.std.specs.Borrow.{Bor}
use Rattle.page_source.specs.Objects.{GrowsBy}
use Rattle.page_source.proofs.pieces.put_pieces.Given as goal

abbrev pub invariant-loop-piece : goal.invariant-loop-piece
invariant-loop-piece g l =
    let written = g.O.ByteSink.written in
    let faults = g.O.ByteSink.faults in
    record {
      text : GrowsBy (written l.fn.sink) (written l.sink)
          (flat_map (λ (piece : Bor (List ℕ)). piece.now) (take l.piece-index l.pieces));
      later : faults l.fn.sink ≤ faults l.sink;
    }
