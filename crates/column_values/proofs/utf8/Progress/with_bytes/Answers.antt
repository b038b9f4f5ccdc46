use Rattle.std.proofs.Common.{◌≡◌, suc, ◌+◌, ◌-◌, length, refl, arith, subst}
use Rattle.column_values.specs.Utf8View.{state_of, RoomFor}
use Rattle.column_values.proofs.Utf8Steps.{reads_none, reads_along, step_room}
use Rattle.column_values.proofs.utf8.Progress.with_bytes.Goals as goal

pub loop-byte-init : goal.loop-byte-init
loop-byte-init c =
    let bytes = c.args.bytes.now in
    let whole : length bytes ≡ length bytes - 0 = omega arith in
    record {
      reads = reads_none (state_of c.args.self);
      room = subst (RoomFor (state_of c.args.self)) whole c.requires;
    }

pub loop-byte-preserved : goal.loop-byte-preserved
loop-byte-preserved c =
    let i = c.loop-byte.byte-index in
    let bytes = c.args.bytes.now in
    let old = state_of c.loop-byte.progress in
    let new = state_of c.with-progress.result in
    let left : length bytes - i ≡ suc (length bytes - (i + 1)) = omega arith in
    let room : RoomFor old (suc (length bytes - (i + 1))) = rw left at c.loop-byte.invariant.room in
    record {
      reads = reads_along (state_of c.args.self) old new _ i bytes c.with-progress.ensures refl (omega arith)
          c.loop-byte.invariant.reads;
      room = step_room old new _ (length bytes - (i + 1)) c.with-progress.ensures room;
    }
