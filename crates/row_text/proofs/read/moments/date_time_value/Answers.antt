use Rattle.std.proofs.lemmas.Bool.{iff_false}
use Rattle.row_text.proofs.MomentWords.{moment_word, no_moment, other_moment}
use Rattle.row_text.proofs.read.moments.date_time_value.Goals as goal

pub returns-in_err-moment : goal.returns-in_err-moment
returns-in_err-moment c =
    rw c.from_residual.ensures (no_moment c.args.f c.args.word.now (λ y mo d h mi s n whole part e.
    c.in_err-moment.ensures y mo d h mi s n e))

pub returns-then-not-is_moment : goal.returns-then-not-is_moment
returns-then-not-is_moment c =
    other_moment c.args.f c.in_ok-moment.moment c.args.word.now c.requires c.in_ok-moment.ensures
    (iff_false c.is_moment.ensures c.if-not-is_moment.true)

pub returns : goal.returns
returns c = moment_word c.args.f c.in_ok-moment.moment c.args.word.now c.requires c.in_ok-moment.ensures
    (c.is_moment.ensures.0 c.if-not-is_moment.false)
