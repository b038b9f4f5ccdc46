use Rattle.std.proofs.Common.{◌∙◌, arith}
use Rattle.std.proofs.lemmas.List.{take_all}
use Rattle.space_builder.proofs.order.narrowed.Goals as goal

pub returns : goal.returns
returns c =
    c.loop-k.invariant ∙ take_all c.loop-k.k c.args.list.now (omega (arith, c.loop-k-test.false))
