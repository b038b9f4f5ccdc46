use Rattle.std.proofs.Common.{List, ℕ, ◌++◌, ◌∙◌, ap, refl}
use Rattle.row_text.proofs.WholeLine.{no_front, no_name, no_middle, no_end}
use Rattle.row_text.proofs.read.values_in.Goals as goal

pub returns-in_err-named-clause-none : goal.returns-in_err-named-clause-none
returns-in_err-named-clause-none c = λ _ text e.
    no_front c.args.line.now c.args.schema.now.table text (c.in_err-named.ensures.none refl) e

pub returns-in_err-rest-clause-none : goal.returns-in_err-rest-clause-none
returns-in_err-rest-clause-none c = λ _ text e.
    no_name c.args.line.now c.in_ok-named.named.now c.args.schema.now.table text c.in_ok-named.ensures.found
    (rw c.table.ensures at (c.in_err-rest.ensures.none refl)) e

pub returns-in_err-values-clause-none : goal.returns-in_err-values-clause-none
returns-in_err-values-clause-none c = λ _ text e.
    no_middle c.args.line.now c.in_ok-named.named.now c.args.schema.now.table c.in_ok-rest.rest.now text
    c.in_ok-named.ensures.found
    (c.in_ok-rest.ensures.found ∙ ap (λ (name : List ℕ). name ++ c.in_ok-rest.rest.now) c.table.ensures)
    (c.in_err-values.ensures.none refl) e

pub returns-clause-none : goal.returns-clause-none
returns-clause-none c = λ is text e.
    no_end c.args.line.now c.in_ok-named.named.now c.args.schema.now.table c.in_ok-rest.rest.now
    c.in_ok-values.values.now
    text c.in_ok-named.ensures.found
    (c.in_ok-rest.ensures.found ∙ ap (λ (name : List ℕ). name ++ c.in_ok-rest.rest.now) c.table.ensures)
    c.in_ok-values.ensures.found (c.ahead.ensures.none is) e
