use Rattle.std.proofs.Common.{ap, map}
use Rattle.row_store.specs.calls.Arena.{span_of}
use Rattle.row_store.proofs.RowsIn.{none_in}
use Rattle.row_store.proofs.stored.StoredRows.new.Goals as goal

pub returns : goal.returns
returns c = none_in _ (ap (map span_of) c.new-3.ensures.items)
