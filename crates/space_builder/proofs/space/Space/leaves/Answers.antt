use Rattle.std.proofs.Common.{length, ap, ◌∙◌, arith}
use Rattle.space_builder.proofs.SpaceSteps.{some_index, some_levels}
use Rattle.space_builder.proofs.TreeSpaces.{plan_levels}
use Rattle.space_builder.proofs.space.Space.leaves.Goals as goal

pub leaf_size-requires : goal.leaf_size-requires
leaf_size-requires c =
    let rows = c.requires.0 in
    let is = c.requires.1 in
    let some = some_levels c.laws_below.ensures c.args.self.now rows is in
    let same = ap length
    (c.deref.ensures.value
    ∙ plan_levels c.args.self.now rows is 0 (some_index c.args.self.now rows is) c.index.result.now c.index.ensures) in
    omega (arith, some, same)
