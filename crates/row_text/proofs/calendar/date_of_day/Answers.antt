use Rattle.std.proofs.Common.{◌≡◌, pos, ap, sym, ◌∙◌, arith}
use Rattle.jiff_core.proofs.SignedLemmas.{signed_arith}
use Rattle.jiff_core.specs.Calendar.{days_from_civil}
use Rattle.row_text.proofs.Dates.{IsDayIn, year_is, month_is, day_is, is_day}
use Rattle.row_text.proofs.calendar.date_of_day.Goals as goal

dated : (c : goal.After-from_days_since_min)
    → IsDayIn c.from_days_since_min.result.year c.from_days_since_min.result.month c.from_days_since_min.result.day
    c.args.day
dated c =
    let d = c.from_days_since_min.result in
    let number : days_from_civil d.year d.month d.day ≡ pos c.args.day =
    omega (arith, signed_arith, c.from_days_since_min.ensures) in
    is_day d.year d.month d.day c.args.day (d.year_in, d.month_in, d.day_in) number c.requires

pub returns-clause-year : goal.returns-clause-year
returns-clause-year c = let day = dated c in day.same ∙ ap pos (sym (year_is day.number _ _ c.args.day day.is))

pub returns-clause-month : goal.returns-clause-month
returns-clause-month c = let day = dated c in sym (month_is day.number _ _ c.args.day day.is)

pub returns-clause-day : goal.returns-clause-day
returns-clause-day c = let day = dated c in sym (day_is day.number _ _ c.args.day day.is)
