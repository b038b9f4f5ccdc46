use Rattle.std.proofs.Common.{sym, ◌∙◌, refl}
use Rattle.std.proofs.lemmas.Bool.{iff_false}
use Rattle.row_text.specs.Values.{date_text}
use Rattle.row_text.proofs.OneNumber.{inside_one}
use Rattle.row_text.proofs.MomentWords.{date_word, no_date, other_date}
use Rattle.row_text.proofs.read.moments.date_value.Goals as goal

pub returns-in_err-inside : goal.returns-in_err-inside
returns-in_err-inside c = rw c.from_residual.ensures (no_date c.args.word.now (λ y m d low range e.
    c.in_err-inside.ensures.none refl (date_text y m d) e))

pub returns-in_err-date : goal.returns-in_err-date
returns-in_err-date c = rw c.from_residual-in_err-date.ensures (no_date c.args.word.now (λ y m d low range e.
    c.in_err-date.ensures y m d (inside_one c.in_ok-inside.inside.now (date_text y m d)
    (sym c.in_ok-inside.ensures.found ∙ e))))

pub returns-then-not-is_low_date : goal.returns-then-not-is_low_date
returns-then-not-is_low_date c =
    let date = c.in_ok-date.date in
    let found = c.in_ok-date.ensures in
    other_date date.year date.month date.day c.in_ok-inside.inside.now c.args.word.now found.0 found.1 found.2
    c.in_ok-inside.ensures.found found.3 (iff_false c.is_low_date.ensures c.if-not-is_low_date.true)

pub returns : goal.returns
returns c =
    let date = c.in_ok-date.date in
    let found = c.in_ok-date.ensures in
    date_word date.year date.month date.day c.in_ok-inside.inside.now c.args.word.now found.0
    (c.is_low_date.ensures.0 c.if-not-is_low_date.false) c.in_ok-inside.ensures.found found.3
