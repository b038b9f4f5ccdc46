use Rattle.row_store.proofs.Spots.{no_row}
use Rattle.row_store.proofs.row_fields.RowFields.clear.Goals as goal

pub returns : goal.returns
returns c = rw (c.clear.ensures.items, c.clear-2.ensures.items) no_row
