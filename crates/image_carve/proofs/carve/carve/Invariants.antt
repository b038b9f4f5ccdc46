use Rattle.std.proofs.Common.{◌≡◌, ◌≤◌, []}
use Rattle.page_scan.specs.Scan.{rest_of}
use Rattle.image_carve.specs.Carved.{known}
use Rattle.image_carve.proofs.Turns.{TurnTold}
use Rattle.image_carve.proofs.carve.carve.Given as goal

abbrev pub invariant-loop-turn : goal.invariant-loop-turn
invariant-loop-turn g l =
    let left = g.Q.ByteSource.left in
    let held = g.F.PageFile.held in
    record {
      turn : TurnTold (left l.fn.image) l.space (held l.fn.file) (record { lsns = l.newest; held = held l.file })
          (rest_of l.scanner (left l.image)) l._turn;
      untouched : known l.newest ≡ [] → l.file ≡ l.fn.file;
      source_later : g.Q.ByteSource.faults l.fn.image ≤ g.Q.ByteSource.faults l.image;
      store_later : g.F.PageFile.faults l.fn.file ≤ g.F.PageFile.faults l.file;
    }
