use Rattle.std.proofs.Common.{arith}
use Rattle.schema_text.proofs.IndexLemmas.{root_split}
use Rattle.schema_text.proofs.keys.has_new_root.Goals as goal

pub returns : goal.returns
returns c =
    root_split c.args.part.now c.indexes.result.now c.args.root c.has_root.result c.indexes.ensures.same
    c.indexes.ensures.part (omega arith) c.has_root.ensures.yes c.has_root.ensures.no
