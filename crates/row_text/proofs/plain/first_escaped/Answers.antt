use Rattle.std.proofs.Common.{sym, ap, ◌∙◌, List, ℕ, position}
use Rattle.row_text.specs.Values.{is_escaped}
use Rattle.row_text.proofs.Escapes.{found_behind, none_behind, none_is_plain}
use Rattle.row_text.proofs.plain.first_escaped.Goals as goal

pub returns-in-Some-clause-place : goal.returns-in-Some-clause-place
returns-in-Some-clause-place c =
    let front = c.plain_front-front.ensures in
    sym (found_behind c.args.text.now _ c.in-Some.at front.within front.plain
    (ap (λ (t : List ℕ). position is_escaped t) (sym c.split_at.ensures.back) ∙ sym c.in-Some.ensures.place))

pub returns-in-None-clause-place : goal.returns-in-None-clause-place
returns-in-None-clause-place c =
    let front = c.plain_front-front.ensures in
    sym (none_behind c.args.text.now _ front.within front.plain
    (ap (λ (t : List ℕ). position is_escaped t) (sym c.split_at.ensures.back) ∙ sym c.in-None.ensures.place))

pub returns-in-None-clause-none : goal.returns-in-None-clause-none
returns-in-None-clause-none c = λ _. none_is_plain c.args.text.now (sym (returns-in-None-clause-place c))
