use Rattle.std.proofs.Common.{arith, refl}
use Rattle.std.proofs.lemmas.Grind.{common_steps}
use Rattle.fil_frame.specs.Crc.{crc_state}
use Rattle.fil_frame.proofs.CrcLemmas.{crc_state_more}
use Rattle.fil_frame.proofs.crc.after_rest.Goals as goal

pub loop-byte-init : goal.loop-byte-init
unfolding crc_state
loop-byte-init c = refl

pub loop-byte-preserved : goal.loop-byte-preserved
loop-byte-preserved c = grind (arith, common_steps, crc_state_more)
