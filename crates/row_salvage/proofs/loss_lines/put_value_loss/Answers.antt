use Rattle.std.proofs.Common.{ℕ, List, [], ◌∙◌, refl, subst, Err}
use Rattle.page_source.specs.Calls.{Puts}
use Rattle.page_source.proofs.Texts.{put_none, put_cut, put_last}
use Rattle.salvage_model.specs.Losses.{loss_line}
use Rattle.row_salvage.proofs.LossLines.{value_pieces}
use Rattle.row_salvage.proofs.loss_lines.put_value_loss.Goals as goal

pub returns-in_err-put_pieces : goal.returns-in_err-put_pieces
returns-in_err-put_pieces g c =
    subst (λ (text : List ℕ). Puts g.E.ByteSink c.args.err.now c.put_pieces.new.sink text c.from_residual.result)
    (value_pieces c.args.n c.args.k c.args.column.now c.args.loss _ _ _ _ c.as_slice.ensures
    (c.as_bytes.ensures.value ∙ c.format.ensures.text) (c.as_bytes-2.ensures.value ∙ c.format-2.ensures.text)
    c.bytes.ensures)
    (put_cut g.E.ByteSink c.args.err.now c.args.err.now c.put_pieces.new.sink [] _ (loss_line c.args.loss)
    (Err c.in_err-put_pieces.field-0.0) c.in_err-put_pieces.field-0.0 c.from_residual.result
    (put_none g.E.ByteSink c.args.err.now) c.in_err-put_pieces.ensures refl c.from_residual.ensures.0)

pub returns : goal.returns
returns g c =
    subst (λ (text : List ℕ). Puts g.E.ByteSink c.args.err.now c.put_loss.new.err text c.put_loss.result)
    (value_pieces c.args.n c.args.k c.args.column.now c.args.loss _ _ _ _ c.as_slice.ensures
    (c.as_bytes.ensures.value ∙ c.format.ensures.text) (c.as_bytes-2.ensures.value ∙ c.format-2.ensures.text)
    c.bytes.ensures)
    (put_last g.E.ByteSink c.args.err.now c.put_pieces.new.sink c.put_loss.new.err _ (loss_line c.args.loss)
    c.put_loss.result
    (record { grown = c.in_ok-put_pieces.ensures.ok; later = c.in_ok-put_pieces.ensures.cause.later })
    c.put_loss.ensures)
