use Rattle.std.proofs.Common.{◌-◌, arith}
use Rattle.std.proofs.lemmas.Bool.{false≢true}
use Rattle.column_values.proofs.IntegerValues.{alone}
use Rattle.column_values.proofs.MomentValues.{year_spelled, year_in_range}
use Rattle.column_values.proofs.moments.year_bytes.Goals as goal

pub returns-then-not-is_year : goal.returns-then-not-is_year
returns-then-not-is_year c = λ is. absurd (false≢true (c.if-not-is_year.ensures.1
    (year_in_range c.in-Year.year (rw c.in-Year.is at is))))

pub returns : goal.returns
returns c =
    let y = c.in-Year.year in
    let same = alone 1 _ (y - 1900) _ _ c.new-list.ensures c.in_ok-push_number.ensures.ok (omega arith) in
    rw c.in-Year.is (year_spelled y _ (c.is_year.ensures.0 c.if-not-is_year.false) same)
