use Rattle.std.proofs.Common.{◌≡◌, ◌/◌, refl, arith}
use Rattle.std.proofs.lemmas.Bool.{iff_false}
use Rattle.row_text.proofs.Seconds.{day_is_of, one_day, whole_second}
use Rattle.row_text.proofs.read.moments.counted_second.Goals as goal

pub returns-in_err-day : goal.returns-in_err-day
returns-in_err-day c = rw c.from_residual.ensures (λ s some most is.
    c.in_err-day.ensures (s / 86400) (omega (arith, most))
    (day_is_of s c.args.moment some most c.requires.year c.requires.month c.requires.day is))

pub returns-then-not-is_counted : goal.returns-then-not-is_counted
returns-then-not-is_counted c = λ s some most is.
    let day = c.in_ok-day.day in
    let one = day_is_of s c.args.moment some most c.requires.year c.requires.month c.requires.day is in
    let same : day ≡ s / 86400 = one_day day (s / 86400) c.args.moment.date.year c.args.moment.date.month
    c.args.moment.date.day c.in_ok-day.ensures.0 (omega (arith, most)) c.in_ok-day.ensures.1 one in
    let e = whole_second s day c.args.moment.time.hour c.args.moment.time.minute c.args.moment.time.second
    c.args.moment is
    same refl refl refl in
    iff_false c.is_counted.ensures c.if-not-is_counted.true (omega (arith, e, some), omega (arith, e, most))
