use Rattle.std.proofs.Common.{sym, ◌∙◌}
use Rattle.std.proofs.lemmas.Bool.{iff_false}
use Rattle.row_text.proofs.MomentWords.{four_bytes, year_word, no_year}
use Rattle.row_text.proofs.read.moments.year_value.Goals as goal

pub returns-then-not-is_year : goal.returns-then-not-is_year
returns-then-not-is_year c =
    let word = c.args.word.now in
    let year = c.in_ok-year in
    no_year year.year word year.ensures.0 (four_bytes word c.if-word-ne4.false ∙ sym year.ensures.1)
    (iff_false c.is_year.ensures c.if-not-is_year.true)

pub returns : goal.returns
returns c =
    let word = c.args.word.now in
    let year = c.in_ok-year in
    year_word year.year word (c.is_year.ensures.0 c.if-not-is_year.false)
    (four_bytes word c.if-word-ne4.false ∙ sym year.ensures.1)
