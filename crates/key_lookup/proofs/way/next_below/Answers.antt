use Rattle.std.proofs.Common.{Some, ap, ◌∙◌}
use Rattle.compact_record.specs.Reading.{key_of}
use Rattle.key_lookup.specs.Way.{high_held}
use Rattle.key_lookup.proofs.Down.{held_by, high_inherits, high_is_next, is_behind}
use Rattle.key_lookup.proofs.way.next_below.Goals as goal

pub returns-then-behind-lt-FIRST_ORIGIN-clause-high : goal.returns-then-behind-lt-FIRST_ORIGIN-clause-high
returns-then-behind-lt-FIRST_ORIGIN-clause-high c =
    let r = c.requires in
    c.keep_high-next.ensures.high c.args.node.now c.swap.new.x
    ∙ high_inherits c.args.walk.now.child c.args.node.now r.facts c.args.chosen.k c.args.chosen.origin
    c.next_origin-behind.result r.last r.origin c.next_origin-behind.ensures.value
    (high_held c.args.walk.now c.args.node.now c.args.due.next) c.if-behind-lt-FIRST_ORIGIN.true

pub returns-clause-high : goal.returns-clause-high
returns-clause-high c =
    let r = c.requires in
    ap (λ page. Some (key_of page c.next_origin-behind.result c.args.node.now)) c.swap-2.ensures.x_after
    ∙ high_is_next c.args.walk.now.child c.args.node.now r.facts c.args.chosen.k c.args.chosen.origin
    c.next_origin-behind.result r.last r.origin c.next_origin-behind.ensures.value
    (high_held c.args.walk.now c.args.node.now c.args.due.next) c.if-behind-lt-FIRST_ORIGIN.false

pub returns-clause-held : goal.returns-clause-held
returns-clause-held c =
    let r = c.requires in
    let is = is_behind c.args.walk.now.child c.args.node.now r.facts c.args.chosen.k c.args.chosen.origin
    c.next_origin-behind.result r.last r.origin c.next_origin-behind.ensures.value c.if-behind-lt-FIRST_ORIGIN.false in
    held_by c.swap-2.new.x c.args.node.now c.next_origin-behind.result c.again.new.self c.again.result
    (rw c.swap-2.ensures.x_after is) c.again.ensures.exact.1 c.again.ensures.read
