use Rattle.std.proofs.Common.{◌∙◌, ap, ◌++◌, List, ℕ, arith}
use Rattle.column_values.specs.Moments.{fraction_bytes}
use Rattle.column_values.proofs.IntegerValues.{alone}
use Rattle.column_values.proofs.MomentValues.{timestamp_spelled}
use Rattle.column_values.proofs.moments.timestamp_bytes.Goals as goal

pub returns : goal.returns
returns c =
    let v = c.in-Timestamp in
    let same = alone 4 _ v.seconds _ _ c.new-list.ensures c.in_ok-push_number.ensures.ok (omega arith) in
    let both = c.in_ok-push_fraction.ensures ∙ ap (λ (t : List ℕ). t ++ fraction_bytes c.args.digits v.micro) same in
    rw v.is (timestamp_spelled c.args.digits v.seconds v.micro _ c.requires
    (c.is_timestamp.ensures.0 c.if-not-is_timestamp.false) both)
