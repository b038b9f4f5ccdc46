use Rattle.column_values.proofs.ValueOrder.{orders_values}
use Rattle.column_values.proofs.laws.bytes_order_as_values.Goals as goal

pub returns : goal.returns
returns c = orders_values
