use Rattle.std.proofs.Common.{◌≡◌, take, fold}
use Rattle.fil_frame.specs.Fold.{fold_step}
use Rattle.fil_frame.proofs.rnd.fold.Given as goal

abbrev pub invariant-loop-byte : goal.invariant-loop-byte
invariant-loop-byte l = l.state ≡ fold fold_step 0 (take l.byte-index l.bytes)
