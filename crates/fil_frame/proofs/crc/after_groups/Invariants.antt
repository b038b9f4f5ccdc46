use Rattle.std.proofs.Common.{◌≡◌, ◌*◌, take}
use Rattle.fil_frame.specs.Crc.{crc_state}
use Rattle.fil_frame.proofs.crc.after_groups.Given as goal

abbrev pub invariant-loop-g : goal.invariant-loop-g
invariant-loop-g l = l.state ≡ crc_state l.start (take (8 * l.g) l.bytes)
