use Rattle.std.proofs.Common.{arith}
use Rattle.std.proofs.lemmas.Bool.{iff_false}
use Rattle.row_text.proofs.Seconds.{stamp_word, no_stamp, no_stamp_word, zero_word}
use Rattle.row_text.proofs.read.moments.timestamp_value.Goals as goal

pub returns-in_err-moment : goal.returns-in_err-moment
returns-in_err-moment c = rw c.from_residual.ensures (no_stamp_word c.args.f c.args.word.now
    (λ y mo d h mi s n e. c.in_err-moment.ensures y mo d h mi s n e))

pub returns-then-is_no_second : goal.returns-then-is_no_second
returns-then-is_no_second c =
    zero_word c.args.f c.in_ok-moment.moment c.args.word.now c.requires c.in_ok-moment.ensures
    (c.is_no_second.ensures.0 c.if-is_no_second.true)

pub returns-in_err-seconds : goal.returns-in_err-seconds
returns-in_err-seconds c = rw c.from_residual-in_err-seconds.ensures
    (no_stamp c.args.f c.in_ok-moment.moment c.args.word.now c.requires c.in_ok-moment.ensures
    (iff_false c.is_no_second.ensures c.if-is_no_second.false)
    (λ s some most second. c.in_err-seconds.ensures s some most second))

pub returns : goal.returns
returns c =
    let found = c.in_ok-seconds.ensures in
    stamp_word c.args.f c.in_ok-seconds.seconds c.in_ok-moment.moment c.args.word.now c.requires found.1
    (λ zeroth. absurd (omega (arith, zeroth, found.0))) c.in_ok-moment.ensures found.2
