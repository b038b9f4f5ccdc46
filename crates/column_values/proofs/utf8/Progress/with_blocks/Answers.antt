use Rattle.std.proofs.Common.{◌≡◌, ◌+◌, ◌-◌, length, take, drop, ap, ◌∙◌, arith, subst}
use Rattle.std.proofs.lemmas.List.{length-take-le}
use Rattle.std.proofs.lemmas.List.{take-take}
use Rattle.column_values.specs.Utf8View.{state_of, RoomFor}
use Rattle.column_values.proofs.Utf8Steps.{reads_part}
use Rattle.column_values.proofs.utf8.Progress.with_blocks.Goals as goal

pub loop-at-preserved : goal.loop-at-preserved
loop-at-preserved c =
    let bytes = c.args.bytes.now in
    let at = c.loop-at.at in
    let size = c.with_some-size.result.0 in
    let block = c.split_at-in-loop-at.result.0.now in
    let old = state_of c.loop-at.progress in
    let new = state_of c.with_some-size.result.1 in
    let read = c.with_some-size.ensures in
    let is : take size block ≡ take size (drop at bytes) =
    ap (take size) (c.split_at-in-loop-at.ensures.front ∙ ap (take 195) c.split_at.ensures.back)
    ∙ take-take size 195 (drop at bytes) read.within in
    let length_is : length (take size block) ≡ size =
    length-take-le size block (omega (arith, read.within, c.split_at-in-loop-at.ensures.front_len)) in
    let left : length bytes - at ≡ length (take size block) + (length bytes - (at + size)) =
    omega (arith, length_is, read.within, c.loop-at-test.true, c.loop-at.invariant.within) in
    record {
      within = omega (arith, read.within, c.loop-at-test.true, c.loop-at.invariant.within);
      reads = reads_part (state_of c.args.self) old new at size bytes (take size block) c.loop-at.invariant.reads
          read.reads is;
      room = read.reads.room (length bytes - (at + size)) (subst (RoomFor old) left c.loop-at.invariant.room);
    }
