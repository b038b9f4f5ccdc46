use Rattle.std.proofs.Common.{arith}
use Rattle.std.specs.declared.cmp.Ordering.TheVariants.{Less, Equal, Greater}
use Rattle.column_values.proofs.TextOrder.{text_decides}
use Rattle.column_values.proofs.WordOrder.{text_front_decides}
use Rattle.column_values.proofs.order.compare_text.Goals as goal

pub returns-in-Less : goal.returns-in-Less
returns-in-Less c =
    let seen = c.compare_words-from.ensures in
    text_front_decides _ c.args.a.now c.args.b.now _ Less seen.first seen.second seen.order c.in-Less.is

pub returns-in-Greater : goal.returns-in-Greater
returns-in-Greater c =
    let seen = c.compare_words-from.ensures in
    text_front_decides _ c.args.a.now c.args.b.now _ Greater seen.first seen.second seen.order c.in-Greater.is

pub loop-i-init : goal.loop-i-init
loop-i-init c =
    let seen = c.compare_words-from.ensures in
    text_front_decides _ c.args.a.now c.args.b.now _ Equal seen.first seen.second seen.order c.in-Equal.is

pub returns-in-Less-here : goal.returns-in-Less-here
returns-in-Less-here c =
    text_decides c.args.a.now c.args.b.now c.loop-i.i _ _ _ _ _
    (omega (arith, c.max-i-end.ensures)) c.byte_at.ensures c.byte_at-in-loop-i.ensures c.cmp-here.ensures
    c.in-Less-here.is c.loop-i.invariant

pub returns-in-Greater-here : goal.returns-in-Greater-here
returns-in-Greater-here c =
    text_decides c.args.a.now c.args.b.now c.loop-i.i _ _ _ _ _
    (omega (arith, c.max-i-end.ensures)) c.byte_at.ensures c.byte_at-in-loop-i.ensures c.cmp-here.ensures
    c.in-Greater-here.is c.loop-i.invariant

pub loop-i-preserved : goal.loop-i-preserved
loop-i-preserved c =
    text_decides c.args.a.now c.args.b.now c.loop-i.i _ _ _ _ _
    (omega (arith, c.max-i-end.ensures)) c.byte_at.ensures c.byte_at-in-loop-i.ensures c.cmp-here.ensures
    c.in-Equal-here.is c.loop-i.invariant
