use Rattle.std.proofs.Common.{ℕ, ◌/◌, ◌%◌, List, get_or, ap, arith}
use Rattle.row_text.proofs.read.decimals.two.Goals as goal

pub returns-in_err-high : goal.returns-in_err-high
returns-in_err-high c = rw c.from_residual.ensures (λ n e.
    c.in_err-high.ensures (n / 10 % 10) (omega arith) (ap (λ (t : List ℕ). get_or t 0 0) e))

pub returns-in_err-low : goal.returns-in_err-low
returns-in_err-low c = rw c.from_residual-in_err-low.ensures (λ n e.
    c.in_err-low.ensures (n % 10) (omega arith) (ap (λ (t : List ℕ). get_or t 1 0) e))
