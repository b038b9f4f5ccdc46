use Rattle.std.proofs.Common.{leb-true, arith}
use Rattle.cross_index.proofs.EntrySteps.{read_key}
use Rattle.cross_index.proofs.entries.read_entry.Goals as goal

pub returns-then-again-clause-read : goal.returns-then-again-clause-read
returns-then-again-clause-read c = λ yes'.
    read_key c.args.page.now c.args.origin c.args.fields.now c.again.new.self c.requires.few
    (c.again.ensures.read c.if-again.true) (c.again.ensures.lies c.if-again.true)
    (omega (arith, c.end.ensures, leb-true _ _ yes'))
