use Rattle.std.proofs.Common.{length}
use Rattle.row_text.specs.Values.{escaped_text}
use Rattle.page_source.proofs.Texts.{IsPutTo}
use Rattle.row_text.proofs.write.texts.put_between.Given as goal

abbrev pub invariant-loop-at : goal.invariant-loop-at
invariant-loop-at g l = IsPutTo g.O.ByteSink l.fn.sink l.sink escaped_text l.fn.text l.rest

abbrev pub decreases-loop-at : goal.decreases-loop-at
decreases-loop-at g l = length l.rest
