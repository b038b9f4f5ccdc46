use Rattle.space_header.proofs.Fields.{base_read, node_read, header_read}
use Rattle.space_header.proofs.laws.written_fields_are_read.Goals as goal

pub returns : goal.returns
returns c = record { base = base_read; node = node_read; header = header_read }
