use Rattle.std.proofs.Common.{ℕ, ◌/◌, ◌%◌, List, ◌∷◌, ◌++◌, ap}
use Rattle.row_text.specs.Values.{time_text, timestamp_text}
use Rattle.row_text.proofs.write.values.moment_of.Goals as goal

pub returns : goal.returns
unfolding timestamp_text
returns c digits =
    let n = c.args.seconds in
    ap (λ (date : List ℕ). date ++ 32 ∷ time_text digits (n / 3600 % 24) (n / 60 % 60) (n % 60) c.args.micro)
    c.date_of-year.ensures
