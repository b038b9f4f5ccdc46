use Rattle.row_text.proofs.Seconds.{civil_of}
use Rattle.row_text.proofs.CalendarDates.{counted_is}
use Rattle.row_text.proofs.calendar.day_of_date.Goals as goal

pub returns-in_err-date : goal.returns-in_err-date
returns-in_err-date c = rw c.from_residual.ensures (λ n few is.
    c.in_err-date.ensures (civil_of n c.args.year c.args.month c.args.day few is).0)

pub returns : goal.returns
returns c =
    let is = c.in_ok-date.ensures in
    counted_is c.args.year c.args.month c.args.day c.in_ok-date.date c.counted_day.result
    (record { year = is.0; month = is.1; day = is.2 }) c.counted_day.ensures
