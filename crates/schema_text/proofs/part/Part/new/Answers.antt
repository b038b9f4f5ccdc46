use Rattle.schema_text.proofs.PartLemmas.{part_begun}
use Rattle.schema_text.proofs.part.Part.new.Goals as goal

pub invariant_of-result : goal.invariant_of-result
invariant_of-result c = rw (c.new.ensures.items, c.new-2.ensures.items)
    (part_begun c.args.table c.args.format c.requires)
