use Rattle.std.proofs.Common.{arith}
use Rattle.fil_frame.proofs.WordLemmas.{by_tables}
use Rattle.fil_frame.proofs.crc.after_zeros.Goals as goal

pub returns : goal.returns
returns c = by_tables c.args.word (omega arith)
