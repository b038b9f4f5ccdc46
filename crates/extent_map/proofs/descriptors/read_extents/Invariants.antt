use Rattle.std.proofs.Common.{◌≡◌, ◌+◌, ◌*◌, ◌/◌, ◌≤◌, length, map, min, IfSome}
use Rattle.std.specs.List.{range_with_len}
use Rattle.page_source.specs.Verdict.{AllBelow}
use Rattle.page_source.specs.Calls.{AsksNoMore}
use Rattle.extent_map.specs.Extents.{extent_of}
use Rattle.extent_map.specs.Descriptors.{DescriptorChecks}
use Rattle.extent_map.proofs.descriptors.read_extents.Given as goal

abbrev pub invariant-loop-k : goal.invariant-loop-k
invariant-loop-k g l = record {
  same : g.S.PageSource.content l.source ≡ g.S.PageSource.content l.fn.source;
  later : g.S.PageSource.faults l.fn.source ≤ g.S.PageSource.faults l.source;
  asked : AsksNoMore g.S.PageSource l.fn.source l.source l.fn.steps l.steps;
  steps : l.steps ≡ l.fn.steps + l.k;
  count : length l.extents ≡ min (256 * l.k) (l.header.limit / 64);
  checks : IfSome (g.S.PageSource.content l.fn.source) (λ file. AllBelow (DescriptorChecks file) l.k);
  read : IfSome (g.S.PageSource.content l.fn.source)
      (λ file. l.extents ≡ map (extent_of file) (range_with_len 0 (min (256 * l.k) (l.header.limit / 64))));
}
