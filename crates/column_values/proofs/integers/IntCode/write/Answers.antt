use Rattle.std.proofs.Common.{◌≡◌, ◌-◌, ◌*◌, ◌^◌, true, false, arith}
use Rattle.std.specs.Prelude.{pos, ◌+ℤ◌, nat_abs}
use Rattle.std.proofs.lemmas.Int.{ints}
use Rattle.column_values.specs.Spell.{IsInRange, int_bytes}
use Rattle.column_values.proofs.IntegerValues.{signed_written, unsigned_written, whole_write}
use Rattle.column_values.proofs.Numbers.{whole_is_twice, pow256_most}
use Rattle.column_values.proofs.integers.IntCode.write.Goals as goal

pub write_uint-requires-clause-fits : goal.write_uint-requires-clause-fits
write_uint-requires-clause-fits g c =
    let twice = whole_is_twice g.row.W c.requires.some in
    let is_signed : c.args.signed ≡ true = c.if-signed.true in
    let range : IsInRange true g.row.W c.args.value = rw is_signed at c.requires.range in
    omega (arith, ints, range.0, range.1)

pub overflow_cast-value-else-signed : goal.overflow_cast-value-else-signed
overflow_cast-value-else-signed g c =
    let is_unsigned : c.args.signed ≡ false = c.if-signed.false in
    let range : IsInRange false g.row.W c.args.value = rw is_unsigned at c.requires.range in
    let low = range.0 in
    let high = range.1 in
    let most = pow256_most g.row.W c.requires.few in
    (grind (arith, ints), omega (arith, ints))

pub returns-then-signed-clause-value : goal.returns-then-signed-clause-value
returns-then-signed-clause-value g c =
    let W = g.row.W in
    let is_signed : c.args.signed ≡ true = c.if-signed.true in
    let range : IsInRange true W c.args.value = rw is_signed at c.requires.range in
    let same : c.write_uint.new.buf ≡ int_bytes true W c.args.value =
    whole_write W _ (nat_abs (c.args.value +ℤ pos (2 ^ (8 * W - 1)))) _ _ c.requires.size c.write_uint.ensures
    (omega (arith, ints, c.half.ensures.value)) in
    rw (is_signed, same) (signed_written W c.args.value c.requires.some range)

pub returns-else-signed-clause-value : goal.returns-else-signed-clause-value
returns-else-signed-clause-value g c =
    let W = g.row.W in
    let is_unsigned : c.args.signed ≡ false = c.if-signed.false in
    let range : IsInRange false W c.args.value = rw is_unsigned at c.requires.range in
    let same : c.write_uint-else-signed.new.buf ≡ int_bytes false W c.args.value =
    whole_write W _ (nat_abs c.args.value) _ _ c.requires.size c.write_uint-else-signed.ensures (omega (arith, ints)) in
    rw (is_unsigned, same) (unsigned_written W c.args.value range)
