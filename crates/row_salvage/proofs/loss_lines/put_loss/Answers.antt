use Rattle.std.proofs.Common.{ℕ, List, ◌∙◌, subst}
use Rattle.page_source.specs.Calls.{Puts}
use Rattle.row_salvage.proofs.LossLines.{unread_pieces}
use Rattle.row_salvage.proofs.loss_lines.put_loss.Goals as goal

pub returns-in-Unread : goal.returns-in-Unread
returns-in-Unread g c =
    subst (λ (text : List ℕ). Puts g.E.ByteSink c.args.err.now c.put_pieces-in-Unread.new.sink text
    c.put_pieces-in-Unread.result)
    (unread_pieces c.args.loss c.in-Unread.n _ _ c.in-Unread.is c.as_slice-in-Unread.ensures
    (c.as_bytes-in-Unread.ensures.value ∙ c.format-in-Unread.ensures.text))
    c.put_pieces-in-Unread.ensures
