use Rattle.std.proofs.Common.{ℕ, List, subst, sym}
use Rattle.page_source.specs.Calls.{Puts}
use Rattle.row_text.proofs.Escapes.{escaped_plain}
use Rattle.row_text.proofs.write.texts.put_chunk.Goals as goal

pub returns-then-is_plain-clause-puts : goal.returns-then-is_plain-clause-puts
returns-then-is_plain-clause-puts g c =
    let now = c.put.ensures in
    subst (λ (t : List ℕ). Puts g.O.ByteSink c.args.sink.now c.put.new.self t c.put.result)
    (sym (escaped_plain c.args.chunk.now (c.is_plain.ensures c.if-is_plain.true)))
    (record { ok = now.ok; failed = now.failed; cause = now.cause })

pub returns-clause-puts : goal.returns-clause-puts
returns-clause-puts g c =
    let now = c.put-2.ensures in
    subst (λ (t : List ℕ). Puts g.O.ByteSink c.args.sink.now c.put-2.new.self t c.put-2.result)
    c.write_escaped-n.ensures.text (record { ok = now.ok; failed = now.failed; cause = now.cause })
