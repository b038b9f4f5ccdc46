use Rattle.std.proofs.Common.{arith}
use Rattle.cross_index.proofs.MarkSteps.{place_past, place_lies, place_is}
use Rattle.cross_index.proofs.kept_values.place_at.Goals as goal

pub returns-then-i-len-clause-same : goal.returns-then-i-len-clause-same
returns-then-i-len-clause-same c =
    place_past c.args.marks.now c.args.i (omega (arith, c.len.ensures, c.if-i-len.true))

pub returns-clause-lies : goal.returns-clause-lies
returns-clause-lies c =
    place_lies c.args.marks.now c.args.i c.start_of.result c.at-mark.result c.args.most
    (omega (arith, c.len.ensures, c.if-i-len.false)) c.start_of.ensures c.at-mark.ensures c.requires

pub returns-clause-same : goal.returns-clause-same
returns-clause-same c =
    place_is c.args.marks.now c.args.i c.start_of.result c.at-mark.result
    (omega (arith, c.len.ensures, c.if-i-len.false)) c.start_of.ensures c.at-mark.ensures
