use Rattle.std.proofs.Common.{◌∙◌, ap, sym, Some, arith}
use Rattle.ibd_salvage.specs.Forms.{kind_word}
use Rattle.ibd_salvage.proofs.WordForms.{three_of, four_of, when_none}
use Rattle.ibd_salvage.proofs.forms.form_of.Goals as goal

pub returns-in_default : goal.returns-in_default
returns-in_default c =
    three_of c.args.words.now (kind_word c.in_ok-kind.kind) _ (c.in_ok-get.ensures ∙ ap Some c.in_ok-kind.ensures)
    c.in_ok-get-2.ensures c.in_default.ensures

pub returns : goal.returns
returns c =
    let words = four_of c.args.words.now (kind_word c.in_ok-kind.kind) _
    (c.in_ok-get.ensures ∙ ap Some c.in_ok-kind.ensures)
    (c.in-Some.ensures ∙ ap Some c.in_ok-decimal_id.ensures.found)
    (when_none _ c.get-4.result (sym c.if-is_some.false ∙ c.is_some.ensures) c.get-4.ensures) in
    (words.0, words.1, omega arith, words.2)
