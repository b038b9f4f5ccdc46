use Rattle.std.proofs.Common.{arith}
use Rattle.row_text.proofs.LeadingBytes.{takes_none, takes_byte, no_pair, too_short}
use Rattle.row_text.proofs.read.bytes.add_pairs.Goals as goal

pub loop-rest-init : goal.loop-rest-init
loop-rest-init c = takes_none c.args.list.now c.args.text.now

pub returns-in_default-clause-all : goal.returns-in_default-clause-all
returns-in_default-clause-all c = no_pair c.loop-rest.rest.now c.in_default.ensures

pub loop-rest-preserved : goal.loop-rest-preserved
loop-rest-preserved c =
    takes_byte c.args.list.now c.loop-rest.list c.push.new.self c.args.text.now c.loop-rest.rest.now
    c.split_at.result.1.now c.in-Some.byte c.loop-rest.invariant (omega (arith, c.loop-rest-test.true))
    c.in-Some.ensures.0 c.in-Some.ensures.1 c.in-Some.ensures.2 c.in_ok-push.ensures.ok c.split_at.ensures.back

pub returns-clause-all : goal.returns-clause-all
returns-clause-all c = too_short c.loop-rest.rest.now (omega (arith, c.loop-rest-test.false))
