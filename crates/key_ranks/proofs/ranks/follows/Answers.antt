use Rattle.key_ranks.proofs.FrontSteps.{fronts_decide}
use Rattle.key_ranks.proofs.ranks.follows.Goals as goal

pub returns-then-before-here : goal.returns-then-before-here
returns-then-before-here g c _ =
    fronts_decide (g.K.RowKeys.table c.args.keys.now) c.args.kind.now c.args.digits.now c.args.before c.args.here
    c.requires.kind c.requires.fronts c.if-before-here.true
