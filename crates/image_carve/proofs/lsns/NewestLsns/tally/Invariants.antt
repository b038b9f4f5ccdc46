use Rattle.std.proofs.Common.{◌≤◌, take}
use Rattle.image_carve.specs.Carved.{known}
use Rattle.image_carve.specs.Carving.{IsTally}
use Rattle.image_carve.proofs.lsns.NewestLsns.tally.Given as goal

abbrev pub invariant-loop-n : goal.invariant-loop-n
invariant-loop-n l = record {
  tally : IsTally (known (take l.n l.self)) l.pages l.newest;
  few : l.pages ≤ l.n;
}
