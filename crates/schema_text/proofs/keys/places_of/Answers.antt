use Rattle.std.proofs.Common.{arith}
use Rattle.schema_text.specs.Cuts.{IsAmong}
use Rattle.schema_text.proofs.KeyLemmas.{places_more, key_known}
use Rattle.schema_text.proofs.keys.places_of.Goals as goal

pub place_of-requires-clause-known : goal.place_of-requires-clause-known
place_of-requires-clause-known c =
    key_known (IsAmong c.args.columns.now) c.args.line.now c.args.from c.loop-i.i _ (omega arith)
    (omega arith) c.at.ensures c.requires.known

pub loop-i-preserved : goal.loop-i-preserved
loop-i-preserved c =
    rw c.in_ok-push.ensures.items
    (places_more c.args.columns.now c.args.line.now c.args.from c.loop-i.i c.loop-i.list.items c.at.result.now
    c.place_of.result (omega arith) (omega arith) c.at.ensures c.loop-i.invariant c.place_of.ensures)
