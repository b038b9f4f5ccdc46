use Rattle.std.specs.List.{flat_map, range_with_len}
use Rattle.space_builder.specs.calls.Space.{OfSpace}
use Rattle.space_builder.specs.layout.Layout.{index_pages}
use Rattle.space_builder.proofs.Puts.{ArePut}
use Rattle.space_builder.proofs.space.Space.put_trees.Given as goal

abbrev pub invariant-loop-j : goal.invariant-loop-j
invariant-loop-j g l =
    OfSpace l.self (λ rows. ArePut g.T.PageStore l.fn.store l.store
    (flat_map (index_pages l.self.schema.now rows) (range_with_len 0 l.j)))
