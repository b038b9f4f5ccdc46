use Rattle.std.proofs.Common.{arith}
use Rattle.tree_walk.proofs.LastRecord.{last_is}
use Rattle.tree_walk.proofs.Records.{record_step}
use Rattle.tree_walk.proofs.place.records.last_record.Goals as goal

pub loop-k-preserved : goal.loop-k-preserved
loop-k-preserved c = record {
  least = omega arith;
  at =
      record_step c.args.page.now c.loop-k.k c.loop-k.at c.next_origin-at-in-loop-k.result c.loop-k.invariant.least
      (let t = c.loop-k-test.true in let e = c.requires.count in omega arith) c.loop-k.invariant.at
      c.next_origin-at-in-loop-k.ensures.value;
}

pub returns-in-Some : goal.returns-in-Some
returns-in-Some c =
    last_is c.args.page.now c.args.fields.now c.requires.facts c.args.count c.in-Some.last c.requires.some
    c.requires.count c.in-Some.ensures
