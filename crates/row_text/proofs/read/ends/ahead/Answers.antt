use Rattle.std.proofs.Common.{◌∙◌}
use Rattle.std.proofs.lemmas.Bool.{iff_false}
use Rattle.row_text.proofs.WholeLine.{is_end}
use Rattle.row_text.proofs.read.ends.ahead.Goals as goal

pub returns-else-are_same-clause-none : goal.returns-else-are_same-clause-none
returns-else-are_same-clause-none c = λ _ front e.
    iff_false c.are_same.ensures c.if-are_same.false
    (c.split_at.ensures.back ∙ is_end c.args.text.now c.args.end.now front e)
