use Rattle.std.proofs.Common.{map, flat_map}
use Rattle.std.specs.Map.Iter.{deref_pair}
use Rattle.page_source.proofs.Texts.{HasPut}
use Rattle.image_listing.specs.Listing.{line_text}
use Rattle.image_listing.specs.Tallies.{line_of}
use Rattle.image_listing.proofs.lines.Lines.put.Given as goal

-- the lines that came were put
abbrev pub invariant-loop-key : goal.invariant-loop-key
invariant-loop-key g l =
    HasPut g.O.ByteSink l.fn.out l.out (flat_map line_text (map line_of (map deref_pair l.yielded)))
