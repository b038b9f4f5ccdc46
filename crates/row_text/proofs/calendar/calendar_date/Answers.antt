use Rattle.row_text.proofs.CalendarDates.{date_answer}
use Rattle.row_text.proofs.calendar.calendar_date.Goals as goal

pub returns : goal.returns
returns c = date_answer c.args.year c.args.month c.args.day c.new.result c.ok.result c.requires.low_year
    c.requires.low_month c.requires.low_day c.ok.ensures.value c.new.ensures.succeeds.1 c.new.ensures.value
