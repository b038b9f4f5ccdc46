use Rattle.offpage_chain.proofs.Writes.{none_put, one_put, put_failed}
use Rattle.offpage_chain.proofs.write.write_chain.Goals as goal

pub loop-k-init : goal.loop-k-init
loop-k-init g c = none_put g.T.PageStore c.args.store.now c.args.space c.args.numbers.now c.args.bytes.now

pub returns-in_err-put : goal.returns-in_err-put
returns-in_err-put g c =
    put_failed g.T.PageStore c.args.store.now c.loop-k.store c.put.new.self c.args.space c.args.numbers.now
    c.args.bytes.now c.loop-k.k c.from_residual.result c.from_residual.ensures.0 c.loop-k-test.true c.loop-k.invariant
    c.in_err-put.ensures.done.0 c.in_err-put.ensures.done.1 c.in_err-put.ensures.cause.later
    c.in_err-put.ensures.cause.failed

pub loop-k-preserved : goal.loop-k-preserved
loop-k-preserved g c =
    one_put g.T.PageStore c.args.store.now c.loop-k.store c.put.new.self c.args.space c.args.numbers.now
    c.args.bytes.now c.loop-k.k c.put_part_page.new.page c.requires.distinct c.loop-k-test.true c.put_part_page.ensures
    c.loop-k.invariant c.in_ok-put.ensures.done.0 c.in_ok-put.ensures.done.1 c.in_ok-put.ensures.cause.later
