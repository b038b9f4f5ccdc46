use Rattle.std.proofs.Common.{◌≡◌, ℕ, ◌+◌, ◌<◌, ◌≤◌, ◌^◌, get_or}
use Rattle.key_ranks.specs.Ranks.{digit_at, number_of}
use Rattle.key_ranks.proofs.fronts.spelled.Given as goal

-- the digits so far spell this number
abbrev pub invariant-loop-i : goal.invariant-loop-i
invariant-loop-i l = record {
  least : (j : ℕ) → j < l.i → (digit_at l.digits j).low ≤ get_or l.value j l.filler;
  most : (j : ℕ) → j < l.i → get_or l.value j l.filler < (digit_at l.digits j).low + (digit_at l.digits j).width;
  is : l.number ≡ number_of l.filler l.digits l.value l.i;
  few : l.number < 2 ^ 40;
}
