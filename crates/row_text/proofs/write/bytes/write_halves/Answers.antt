use Rattle.std.proofs.Common.{◌+◌, ◌*◌, ◌/◌, ◌%◌, ◌<◌, slice_index, slice_set, sym, arith}
use Rattle.std.proofs.lemmas.List.{length-set}
use Rattle.std.specs.List.{range_with_len}
use Rattle.hex.proofs.Pairs.{encode_step, encode_done}
use Rattle.column_values.proofs.Bytes.{are_bytes}
use Rattle.row_text.proofs.Hex.{half_is}
use Rattle.row_text.proofs.write.bytes.write_halves.Goals as goal

pub loop-i-preserved : goal.loop-i-preserved
loop-i-preserved c =
    let done = c.loop-i.invariant in
    let byte = slice_index c.args.bytes.now c.loop-i.i in
    let few : byte < 256 = omega (arith, c.type_inv.bytes c.loop-i.i) in
    record {
      size = omega (
        arith,
        done.size,
        length-set c.loop-i.room (2 * c.loop-i.i) (byte / 16),
        length-set (slice_set c.loop-i.room (2 * c.loop-i.i) (byte / 16)) (2 * c.loop-i.i + 1) (byte % 16),
      );
      done = encode_step (range_with_len 0 16) c.args.bytes.now c.loop-i.room c.loop-i.i _ _ (omega arith)
          (omega (arith, done.size)) (sym (half_is (byte / 16) (omega (arith, few))))
          (sym (half_is (byte % 16) (omega arith))) done.done;
    }

pub returns-clause-halves : goal.returns-clause-halves
returns-clause-halves c =
    encode_done (range_with_len 0 16) _ _ c.loop-i.i (omega arith) (omega (arith, c.loop-i.invariant.size))
    c.loop-i.invariant.done

pub returns-clause-bytes : goal.returns-clause-bytes
returns-clause-bytes c = are_bytes c.args.bytes.now (λ k. omega (arith, c.type_inv.bytes k))
