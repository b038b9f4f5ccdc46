use Rattle.std.proofs.Common.{◌≡◌, ◌-◌, ◌/◌, ◌^◌, ℕ, List, length, drop}
use Rattle.row_text.specs.Digits.{last_digits}
use Rattle.row_text.proofs.write.digits.write_last_digits.Given as goal

-- so many digits stand at the end
pub record IsWritten (number left count : ℕ) (old out : List ℕ) : Type 0 where
  pub size : length out ≡ length old
  pub rest : left ≡ number / 10 ^ count
  pub digits : drop (length old - count) out ≡ last_digits count number

abbrev pub invariant-loop-count : goal.invariant-loop-count
invariant-loop-count l = IsWritten l.fn.number l.left l.count l.fn.out l.out
