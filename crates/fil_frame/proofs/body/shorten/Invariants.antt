use Rattle.fil_frame.proofs.Shortened.{IsCleared, IsLeft}
use Rattle.fil_frame.proofs.body.shorten.Given as goal

abbrev pub invariant-loop-i : goal.invariant-loop-i
invariant-loop-i g l = IsCleared l.body l.quotient g.row.S l.i

abbrev pub invariant-loop-i-2 : goal.invariant-loop-i-2
invariant-loop-i-2 g l = IsLeft l.body l.quotient l.rest g.row.S l.cleared l.i
