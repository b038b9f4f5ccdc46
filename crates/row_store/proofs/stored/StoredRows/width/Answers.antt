use Rattle.std.proofs.Common.{◌≡◌, ap, arith}
use Rattle.row_store.specs.calls.Arena.{Span, arena_of, span_at, span_of}
use Rattle.row_store.proofs.RowsIn.{span_read, span_within, width_seen}
use Rattle.row_store.proofs.stored.StoredRows.width.Goals as goal

pub index-requires : goal.index-requires
index-requires c =
    let lists = c.self.inside.lists in
    omega (arith, span_within lists c.args.self.now c.args.r c.self.view_is c.requires, lists.spans.ok)

pub returns : goal.returns
returns c =
    let lists = c.self.inside.lists in
    let is : span_of c.index.result.now ≡ span_at (arena_of lists) c.args.r =
    span_read lists.spans.items c.args.r c.index.result.now _
    (span_within lists c.args.self.now c.args.r c.self.view_is c.requires) c.index.ensures in
    omega (
      arith,
      c.from.ensures,
      ap (λ (s : Span). s.width) is,
      width_seen lists c.args.self.now c.args.r c.self.view_is c.requires c.self.invariant,
    )
