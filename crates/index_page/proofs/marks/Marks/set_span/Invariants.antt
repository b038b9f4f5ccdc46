use Rattle.std.proofs.Common.{◌≡◌, ◌≤◌, ◌-◌}
use Rattle.index_page.specs.Marks.{bits_of, with_span, IsUnmarked}
use Rattle.index_page.proofs.marks.Marks.set_span.Given as goal

abbrev pub invariant-loop-here : goal.invariant-loop-here
invariant-loop-here l =
    record {
      least : l.from ≤ l.here;
      most : l.here ≤ l.to;
      marks : bits_of l.self ≡ with_span (bits_of l.fn.self) l.from l.here;
      free : IsUnmarked (bits_of l.fn.self) l.from l.here;
    }

abbrev pub decreases-loop-here : goal.decreases-loop-here
decreases-loop-here l = l.to - l.here
