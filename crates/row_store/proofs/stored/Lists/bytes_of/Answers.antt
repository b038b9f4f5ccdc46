use Rattle.std.proofs.Common.{◌≡◌, List, ℕ, length, ap, arith}
use Rattle.row_store.specs.calls.Arena.{Span, arena_of, span_at, span_of}
use Rattle.row_store.proofs.RowsIn.{lies_at, span_read}
use Rattle.row_store.proofs.stored.Lists.bytes_of.Goals as goal

pub slice_bounds-result-count : goal.slice_bounds-result-count
slice_bounds-result-count c =
    let lists = c.args.self.now in
    let is : span_of c.index.result.now ≡ span_at (arena_of lists) c.args.r =
    span_read lists.spans.items c.args.r c.index.result.now _ c.requires.row c.index.ensures in
    omega (
      arith,
      c.start.ensures,
      ap (λ (s : Span). s.start) is,
      (lies_at lists c.args.r c.requires.rows c.requires.row).start,
      ap (λ (bytes : List ℕ). length bytes) c.deref.ensures.value,
    )

pub slice_bounds-result-start : goal.slice_bounds-result-start
slice_bounds-result-start c = slice_bounds-result-count c
