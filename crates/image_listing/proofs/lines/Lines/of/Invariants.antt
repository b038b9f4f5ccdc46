use Rattle.std.specs.BTreeMap.{IsOrdered}
use Rattle.image_listing.specs.Tallies.{line_cmp, AreTallies}
use Rattle.image_listing.proofs.lines.Lines.of.Given as goal

-- the pages that came are counted
abbrev pub invariant-loop-key : goal.invariant-loop-key
invariant-loop-key l = record {
  counted : AreTallies l.yielded l.lines.tallies;
  rise : IsOrdered line_cmp l.lines.tallies;
}
