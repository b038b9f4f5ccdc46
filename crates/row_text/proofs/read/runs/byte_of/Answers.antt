use Rattle.row_text.proofs.Letters.{entry_is, no_entry}
use Rattle.row_text.proofs.read.runs.byte_of.Goals as goal

pub returns-then-byte : goal.returns-then-byte
returns-then-byte c =
    λ byte e. no_entry c.args.letter c.entry_of-byte.result byte c.entry_of-byte.ensures c.if-byte.true e

pub returns : goal.returns
returns c = entry_is c.args.letter c.entry_of-byte.result c.entry_of-byte.ensures c.if-byte.false
