use Rattle.std.proofs.Common.{◌≡◌, ◌*◌, length}
use Rattle.vectors.proofs.build.edited.Given as goal

abbrev pub invariant-loop-n : goal.invariant-loop-n
invariant-loop-n l = length l.file ≡ 16384 * l.n
