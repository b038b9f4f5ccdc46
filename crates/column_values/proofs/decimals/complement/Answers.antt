use Rattle.std.proofs.Common.{◌-◌, slice_index, arith}
use Rattle.std.proofs.lemmas.List.{get_or_default}
use Rattle.std.proofs.lemmas.List.Edits.{map_over_more}
use Rattle.column_values.proofs.decimals.complement.Goals as goal

pub loop-byte-preserved : goal.loop-byte-preserved
loop-byte-preserved c =
    let x = slice_index c.loop-byte.bytes c.loop-byte.byte-index in
    map_over_more (λ b. 255 - b) c.args.bytes.now c.loop-byte.bytes c.loop-byte.byte-index x
    (omega arith) c.loop-byte.invariant
    (get_or_default c.loop-byte.bytes c.loop-byte.byte-index 0 x (omega (arith, c.loop-byte.auto)))
