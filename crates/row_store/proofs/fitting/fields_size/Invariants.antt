use Rattle.std.proofs.Common.{◌≡◌, ◌-◌, ◌^◌, min}
use Rattle.row_store.specs.calls.RowFields.{field_sizes}
use Rattle.row_store.proofs.fitting.fields_size.Given as goal

abbrev pub invariant-loop-i : goal.invariant-loop-i
invariant-loop-i l = l.size ≡ min (field_sizes l.format l.fields l.row l.i) (2 ^ 64 - 1)
