use Rattle.std.proofs.Common.{◌≡◌, ℕ, List, sym, ap, ◌∙◌, subst}
use Rattle.compact_record.specs.Keys.{child_at}
use Rattle.column_values.specs.Types.{Fields}
use Rattle.key_lookup.specs.Way.{high_held, high_behind}
use Rattle.key_lookup.specs.Choice.{IsLast}
use Rattle.index_page.specs.Header.{record_count}
use Rattle.tree_walk.specs.Records.{IsRecord}
use Rattle.tree_walk.proofs.Records.{record_at}
use Rattle.key_lookup.proofs.Down.{held_by}
use Rattle.key_lookup.proofs.Kids.{down_due}
use Rattle.key_lookup.proofs.way.step_down.Goals as goal

pub returns-clause-due : goal.returns-clause-due
returns-clause-due c = λ index depth node page is.
    let child = c.args.walk.now.child in
    let last = c.choose-chosen.ensures.last in
    let record' = subst (λ (o : ℕ). IsRecord child c.args.node.now o) (sym last.origin)
    (record_at child c.args.node.now c.choose-chosen.result.k c.requires.facts last.within) in
    let there = subst (λ (q : List ℕ). IsRecord q c.args.node.now c.choose-chosen.result.origin)
    (sym c.next_below-next.ensures.parent) record' in
    let held = held_by c.next_below-next.new.walk.parent c.args.node.now c.choose-chosen.result.origin c.again.new.self
    c.again.result there c.again.ensures.exact.1 c.again.ensures.read in
    down_due index c.args.key.now depth c.args.walk.now c.args.due child page is c.choose-chosen.result
    (subst (λ (f : Fields). IsLast child f c.args.key.now c.choose-chosen.result (record_count child)) (sym node)
    c.choose-chosen.ensures.last) _ c.next_below-next.ensures.parent c.next_below-next.result
    (subst (λ (f : Fields). high_held c.next_below-next.new.walk f c.next_below-next.result
    ≡ high_behind child f c.choose-chosen.result.k (high_held c.args.walk.now f c.args.due.next)) (sym node)
    c.next_below-next.ensures.high)
    c.child.result (subst (λ (f : Fields). c.child.result ≡ child_at c.next_below-next.new.walk.parent f
    c.choose-chosen.result.origin) (sym node)
    (c.child.ensures ∙ ap (child_at c.next_below-next.new.walk.parent c.args.node.now) held.stands))
    c.is_leftmost-leftmost.result c.is_leftmost-leftmost.ensures c.low_of.result c.low_of.ensures c.at.result
    c.at.ensures c.requires.level
