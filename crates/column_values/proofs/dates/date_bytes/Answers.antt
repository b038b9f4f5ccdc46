use Rattle.std.proofs.Common.{arith}
use Rattle.column_values.specs.Spell.{packed_date}
use Rattle.column_values.proofs.IntegerValues.{alone}
use Rattle.column_values.proofs.MomentValues.{date_spelled}
use Rattle.column_values.proofs.dates.date_bytes.Goals as goal

pub returns-in_ok-push_number-in-Date : goal.returns-in_ok-push_number-in-Date
returns-in_ok-push_number-in-Date c =
    let y = c.in-Date.year in
    let m = c.in-Date.month in
    let d = c.in-Date.day in
    let same = alone 3 _ (packed_date y m d) _ _ c.new-list.ensures c.in_ok-push_number-in-Date.ensures.ok
    (omega arith) in
    rw c.in-Date.is (date_spelled y m d _ (omega arith) (omega arith) (omega arith) same)
