use Rattle.std.proofs.Common.{List, ℕ, subst, sym}
use Rattle.page_source.specs.Calls.{Puts}
use Rattle.sql_dump.proofs.long.put_part.Goals as goal

pub returns-then-take_plain-clause-puts : goal.returns-then-take_plain-clause-puts
returns-then-take_plain-clause-puts g c =
    let now = c.put.ensures in
    subst (λ (t : List ℕ). Puts g.O.ByteSink c.args.sink.now c.put.new.self t c.put.result)
    (sym (c.take_plain.ensures.same c.if-take_plain.true))
    (record { ok = now.ok; failed = now.failed; cause = now.cause })
