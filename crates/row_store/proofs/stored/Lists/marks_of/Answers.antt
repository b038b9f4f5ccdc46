use Rattle.std.proofs.Common.{◌-◌, ◌≡◌, ◌+◌, ◌∙◌, List, length, map, take, drop, ap, arith}
use Rattle.std.proofs.lemmas.List.{length-map}
use Rattle.row_store.specs.declared.marks.Mark.{Mark}
use Rattle.row_store.specs.calls.Arena.{Span, arena_of, span_at, span_of, spot_of}
use Rattle.row_store.proofs.RowsIn.{lies_at, span_read, marks_read}
use Rattle.row_store.proofs.stored.Lists.marks_of.Goals as goal

pub slice_bounds-result-end : goal.slice_bounds-result-end
slice_bounds-result-end c =
    let lists = c.args.self.now in
    let is : span_of c.index-span.result.now ≡ span_at (arena_of lists) c.args.r =
    span_read lists.spans.items c.args.r c.index-span.result.now _ c.requires.row c.index-span.ensures in
    omega (
      arith,
      ap (λ (s : Span). s.first) is,
      ap (λ (s : Span). s.width) is,
      (lies_at lists c.args.r c.requires.rows c.requires.row).marks,
      length-map lists.marks.items spot_of,
      ap (λ (marks : List Mark). length marks) c.deref.ensures.value,
      c.from.ensures,
    )

pub returns : goal.returns
returns c =
    let lists = c.args.self.now in
    let is : span_of c.index-span.result.now ≡ span_at (arena_of lists) c.args.r =
    span_read lists.spans.items c.args.r c.index-span.result.now _ c.requires.row c.index-span.ensures in
    let spots = map spot_of lists.marks.items in
    let first = c.index-span.result.now.first in
    ap (λ (marks : List Mark). map spot_of (take (first + c.from.result - first) (drop first marks)))
    c.deref.ensures.value
    ∙ marks_read lists.marks.items first c.index-span.result.now.width (first + c.from.result)
    (omega (arith, c.from.ensures))
    ∙ ap (λ (s : Span). take s.width (drop s.first spots)) is
