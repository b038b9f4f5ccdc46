use Rattle.std.proofs.Common.{◌≡◌}
use Rattle.sample_table.specs.Sample.{letters}
use Rattle.sample_table.proofs.row.letters.Given as goal

abbrev pub invariant-loop-i : goal.invariant-loop-i
invariant-loop-i l = l.text ≡ letters l._i
