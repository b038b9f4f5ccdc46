use Rattle.std.proofs.Common.{◌≡◌}
use Rattle.column_values.specs.Order.{key_cmp}
use Rattle.compact_record.specs.Reading.{key_kinds}
use Rattle.compact_record.specs.Keys.{key_at}
use Rattle.compact_record.proofs.KeySteps.{KeyLeft}
use Rattle.key_lookup.proofs.key.compare_fields.Given as goal

abbrev pub invariant-loop-i : goal.invariant-loop-i
invariant-loop-i l = KeyLeft l.page l.bytes l.fields l.a l.b l.i ≡ key_cmp (key_kinds l.fields)
    (key_at l.page l.fields l.a) (key_at l.bytes l.fields l.b)
