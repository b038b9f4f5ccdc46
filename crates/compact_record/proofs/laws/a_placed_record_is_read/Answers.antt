use Rattle.compact_record.proofs.Placed.{reads_what_is_placed}
use Rattle.compact_record.proofs.laws.a_placed_record_is_read.Goals as goal

pub returns : goal.returns
returns c = reads_what_is_placed
