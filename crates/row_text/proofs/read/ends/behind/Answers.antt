use Rattle.std.proofs.Common.{◌∙◌}
use Rattle.std.proofs.lemmas.Bool.{iff_false}
use Rattle.row_text.proofs.WholeLine.{is_front}
use Rattle.row_text.proofs.read.ends.behind.Goals as goal

pub returns-else-are_same-clause-none : goal.returns-else-are_same-clause-none
returns-else-are_same-clause-none c = λ _ rest e.
    iff_false c.are_same.ensures c.if-are_same.false
    (c.split_at.ensures.front ∙ is_front c.args.text.now c.args.front.now rest e)
