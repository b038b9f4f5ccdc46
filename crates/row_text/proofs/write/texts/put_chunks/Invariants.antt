use Rattle.std.proofs.Common.{length}
use Rattle.row_text.specs.Values.{escaped_text}
use Rattle.page_source.proofs.Texts.{IsPutTo}
use Rattle.row_text.proofs.write.texts.put_chunks.Given as goal

abbrev pub invariant-loop-rest : goal.invariant-loop-rest
invariant-loop-rest g l = IsPutTo g.O.ByteSink l.fn.sink l.sink escaped_text l.fn.text l.rest

abbrev pub decreases-loop-rest : goal.decreases-loop-rest
decreases-loop-rest g l = length l.rest
