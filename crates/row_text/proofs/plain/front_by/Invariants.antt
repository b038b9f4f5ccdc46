use Rattle.std.proofs.Common.{◌≡◌, ◌+◌, length, take, drop}
use Rattle.row_text.specs.Values.{IsPlain}
use Rattle.row_text.proofs.plain.front_by.Given as goal

abbrev pub invariant-loop-rest : goal.invariant-loop-rest
invariant-loop-rest l =
    record {
      size : l.front + length l.rest ≡ length l.text;
      rest : l.rest ≡ drop l.front l.text;
      plain : IsPlain (take l.front l.text);
    }

abbrev pub decreases-loop-rest : goal.decreases-loop-rest
decreases-loop-rest l = length l.rest
