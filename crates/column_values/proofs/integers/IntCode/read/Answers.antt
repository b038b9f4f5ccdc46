use Rattle.std.proofs.Common.{◌≡◌, true, false, arith, ◌∙◌}
use Rattle.std.proofs.lemmas.Int.{ints}
use Rattle.page_source.specs.Pages.{num}
use Rattle.column_values.proofs.Numbers.{big_number_is, num-lt, flipped_is, signed_range}
use Rattle.column_values.proofs.integers.IntCode.read.Goals as goal

pub returns-then-signed : goal.returns-then-signed
returns-then-signed g c =
    let W = g.row.W in
    let bytes = c.args.bytes.now in
    let number = big_number_is W bytes in
    let half = c.half.ensures.value in
    let is_signed : c.args.signed ≡ true = c.if-signed.true in
    let low = num-lt W bytes (λ k. omega (arith, c.type_inv.bytes k)) in
    record {
      value = rw is_signed (omega (arith, ints));
      flipped = λ _. omega (arith, ints)
          ∙ flipped_is W (num bytes 0 W) c.requires.some low;
      range =
          rw is_signed (
            omega (arith, ints, (signed_range W (num bytes 0 W) c.requires.some low).0),
            omega (arith, ints, (signed_range W (num bytes 0 W) c.requires.some low).1),
          );
    }

pub returns-else-signed-clause-value : goal.returns-else-signed-clause-value
returns-else-signed-clause-value g c =
    let number = big_number_is g.row.W c.args.bytes.now in
    let is_unsigned : c.args.signed ≡ false = c.if-signed.false in
    rw is_unsigned (omega (arith, ints))

pub returns-else-signed-clause-range : goal.returns-else-signed-clause-range
returns-else-signed-clause-range g c =
    let number = big_number_is g.row.W c.args.bytes.now in
    let is_unsigned : c.args.signed ≡ false = c.if-signed.false in
    let low = num-lt g.row.W c.args.bytes.now (λ k. omega (arith, c.type_inv.bytes k)) in
    rw is_unsigned (omega (arith, ints), omega (arith, ints))
