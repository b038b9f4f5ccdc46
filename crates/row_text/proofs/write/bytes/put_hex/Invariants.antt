use Rattle.std.proofs.Common.{length}
use Rattle.hex.specs.Hex.{encode_lower}
use Rattle.page_source.proofs.Texts.{IsPutTo}
use Rattle.row_text.proofs.write.bytes.put_hex.Given as goal

abbrev pub invariant-loop-rest : goal.invariant-loop-rest
invariant-loop-rest g l = IsPutTo g.O.ByteSink l.fn.sink l.sink encode_lower l.fn.bytes l.rest

abbrev pub decreases-loop-rest : goal.decreases-loop-rest
decreases-loop-rest g l = length l.rest
