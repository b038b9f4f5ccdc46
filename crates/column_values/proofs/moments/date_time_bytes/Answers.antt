use Rattle.std.proofs.Common.{◌∙◌, ap, ℕ, ◌+◌, ◌^◌, ◌++◌, List, arith}
use Rattle.column_values.specs.Moments.{packed_moment, fraction_bytes}
use Rattle.column_values.proofs.IntegerValues.{alone}
use Rattle.column_values.proofs.MomentValues.{moment_spelled}
use Rattle.column_values.proofs.moments.date_time_bytes.Goals as goal

pub returns : goal.returns
returns c =
    let v = c.in-DateTime in
    let n : ℕ = 2 ^ 39 + packed_moment v.year v.month v.day v.hour v.minute v.second in
    let same = alone 5 _ n _ _ c.new-list.ensures c.in_ok-push_number.ensures.ok (omega arith) in
    let both = c.in_ok-push_fraction.ensures ∙ ap (λ (t : List ℕ). t ++ fraction_bytes c.args.digits v.micro) same in
    rw v.is (moment_spelled c.args.digits v.year v.month v.day v.hour v.minute v.second v.micro _ c.requires
    (c.is_moment.ensures.0 c.if-not-is_moment.false) (c.is_fraction.ensures.0 c.if-not-is_fraction.false) both)
