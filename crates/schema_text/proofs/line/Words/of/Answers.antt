use Rattle.std.proofs.Common.{◌==◌, Ok, rules}
use Rattle.std.specs.declared.alloc.AllocError.{AllocError}
use Rattle.std.proofs.lemmas.Iterator.Consumers.{map_from_collect}
use Rattle.std.proofs.lemmas.Iterator.Splits.{YieldsList-from_slice_split}
use Rattle.schema_text.proofs.line.Words.of.Goals as goal

pub returns : goal.returns
returns c =
    map_from_collect {E = AllocError} (Ok c.in_ok-words.words) c.in_ok-words.ensures.ran
    (YieldsList-from_slice_split _
    (λ b. b == 32) c.args.line.now c.split.ensures.rest c.split.ensures.done c.split.ensures.closure
    (λ x b q k. search rules))
