use Rattle.row_store.proofs.Spots.{no_row}
use Rattle.row_store.proofs.row_fields.RowFields.new.Goals as goal

pub returns : goal.returns
returns c = rw (c.new.ensures.items, c.new-2.ensures.items) no_row
