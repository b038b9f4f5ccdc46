use Rattle.std.proofs.Common.{add-zero}
use Rattle.std.specs.Int.Bits.{xor_assoc, xor_zero_r}
use Rattle.fil_frame.specs.Sparse.{xor_sum, remaining}
use Rattle.fil_frame.proofs.body.remaining.Goals as goal

pub returns : goal.returns
unfolding remaining xor_sum
returns g c = simp (xor_assoc, xor_zero_r, add-zero)
