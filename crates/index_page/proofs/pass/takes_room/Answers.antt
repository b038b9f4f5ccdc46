use Rattle.std.proofs.Common.{arith}
use Rattle.index_page.proofs.RoomMarks.{has_bytes}
use Rattle.index_page.proofs.pass.takes_room.Goals as goal

pub set_span-requires-clause-rising : goal.set_span-requires-clause-rising
set_span-requires-clause-rising c =
    let some = has_bytes c.args.page.now c.args.fields.now c.args.origin
    (c.again.ensures.exact.0 c.if-not-again.false) in
    omega (arith, some, c.again.ensures.read c.if-not-again.false)
