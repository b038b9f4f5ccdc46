use Rattle.std.proofs.Common.{arith, sym, ◌∙◌}
use Rattle.column_values.proofs.Bytes.{are_bytes}
use Rattle.column_values.proofs.DecimalValues.{decimal_sized}
use Rattle.column_values.proofs.decimals.decimal.Goals as goal

pub returns-then-bytes-size : goal.returns-then-bytes-size
returns-then-bytes-size c = λ spelling. c.if-bytes-size.true
    (decimal_sized c.args.p c.args.s c.requires spelling.0 c.args.bytes.now spelling.1
    ∙ sym c.size_of-size.ensures.value)

pub signed_units-requires-clause-are_bytes : goal.signed_units-requires-clause-are_bytes
signed_units-requires-clause-are_bytes c = rw c.copy_from_slice.ensures.after
    (are_bytes c.args.bytes.now (λ k. omega (arith, c.type_inv.bytes k)))
