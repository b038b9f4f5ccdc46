use Rattle.std.proofs.Common.{length, ap, arith}
use Rattle.space_builder.proofs.SpaceSteps.{few_sizes}
use Rattle.space_builder.proofs.space.Space.pages.Goals as goal

pub extents_needed-requires : goal.extents_needed-requires
extents_needed-requires c =
    let few = few_sizes c.laws_below.ensures c.args.self.now c.requires.0 c.requires.1 in
    let same = ap length c.deref.ensures.value in
    omega (arith, few, same)
