use Rattle.std.proofs.Common.{◌≡◌}
use Rattle.row_layout.specs.HoldsValues.{stored_in}
use Rattle.space_builder.proofs.ValueSteps.{FieldsPut}
use Rattle.space_builder.proofs.values.put_row.Given as goal

abbrev pub invariant-loop-i : goal.invariant-loop-i
invariant-loop-i g l = record {
  fields : FieldsPut g.T.PageStore l.format l.sizes l.at (stored_in l.stored l.r) l.fn.store l.store l.i l.next
      l.fn.room.first_pages.items l.room.first_pages.items;
  starts : l.room.starts.items ≡ l.fn.room.starts.items;
}
