use Rattle.space_builder.specs.calls.Room.{AreKept}
use Rattle.space_builder.proofs.ValueSteps.{RowsPut}
use Rattle.space_builder.proofs.values.put_values.Given as goal

-- the rows so far are put, and the first pages of their fields are kept
abbrev pub invariant-loop-r : goal.invariant-loop-r
invariant-loop-r g l = record {
  put : RowsPut g.T.PageStore l.format l.sizes l.leaves l.stored l.fn.store l.store l.r l.next;
  kept : AreKept l.format l.sizes l.leaves l.stored l.r l.room.starts.items l.room.first_pages.items;
}
