use Rattle.compact_record.proofs.ReadParts.{reads_what_stands}
use Rattle.compact_record.proofs.laws.parts_that_stand_are_read.Goals as goal

pub returns : goal.returns
returns c = reads_what_stands
