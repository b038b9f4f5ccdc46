use Rattle.std.proofs.Common.{◌≡◌, map}
use Rattle.std.specs.List.{range_with_len}
use Rattle.space_builder.specs.calls.Picked.{first_page_in, clustered_part}
use Rattle.space_builder.proofs.clustered.ClusteredEntries.first_fields.Given as goal

-- the fields so far
abbrev pub invariant-loop-i : goal.invariant-loop-i
invariant-loop-i l =
    l.parts
    ≡ map (clustered_part l.self.format (first_page_in l.self.starts.now l.self.first_pages.now) l.self.rows.now l.r)
    (range_with_len 0 l.i)
