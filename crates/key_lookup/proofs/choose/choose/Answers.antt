use Rattle.std.proofs.Common.{◌<◌, ◌+◌, sym, subst, ◌∙◌, arith}
use Rattle.index_page.specs.Header.{record_count}
use Rattle.key_lookup.specs.declared.choose.Chosen.{Chosen}
use Rattle.key_lookup.specs.Choice.{IsLast}
use Rattle.key_lookup.proofs.Down.{held_by}
use Rattle.key_lookup.proofs.Chosen.{here_more, is_record, takes, keeps}
use Rattle.key_lookup.proofs.choose.choose.Goals.{then-ne, else-ne}
use Rattle.key_lookup.proofs.choose.choose.Goals as goal

pub again-requires-clause-origin : goal.again-requires-clause-origin
again-requires-clause-origin c =
    let i = c.loop-k.invariant in
    let is = is_record c.args.page.now c.args.node.now c.requires.facts c.loop-k.k c.loop-k.at
    c.next_origin-at-in-loop-k.result i.least
    (omega (arith, c.loop-k-test.true, c.record_count-count.ensures.value)) i.at
    c.next_origin-at-in-loop-k.ensures.value in
    (is.least, is.most)

pub compare_record-requires-clause-record : goal.compare_record-requires-clause-record
compare_record-requires-clause-record c =
    let i = c.loop-k.invariant in
    let is = is_record c.args.page.now c.args.node.now c.requires.facts c.loop-k.k c.loop-k.at
    c.next_origin-at-in-loop-k.result i.least
    (omega (arith, c.loop-k-test.true, c.record_count-count.ensures.value)) i.at
    c.next_origin-at-in-loop-k.ensures.value in
    (held_by c.args.page.now c.args.node.now c.next_origin-at-in-loop-k.result c.again.new.self c.again.result is
    c.again.ensures.exact.1 c.again.ensures.read).whole

pub loop-k-preserved : goal.loop-k-preserved
loop-k-preserved c =
    let i = c.loop-k.invariant in
    let within : c.loop-k.k < record_count c.args.page.now =
    omega (arith, c.loop-k-test.true, c.record_count-count.ensures.value) in
    let is = is_record c.args.page.now c.args.node.now c.requires.facts c.loop-k.k c.loop-k.at
    c.next_origin-at-in-loop-k.result i.least within i.at c.next_origin-at-in-loop-k.ensures.value in
    let held = held_by c.args.page.now c.args.node.now c.next_origin-at-in-loop-k.result c.again.new.self c.again.result
    is c.again.ensures.exact.1 c.again.ensures.read in
    record {
      least = omega arith;
      at = here_more c.args.page.now c.args.node.now c.requires.facts c.loop-k.k c.loop-k.at
          c.next_origin-at-in-loop-k.result i.least within i.at c.next_origin-at-in-loop-k.ensures.value;
      last = elim c.if-ne.branch [
        | then-ne w ↦ subst (λ (chosen : Chosen). IsLast c.args.page.now c.args.node.now c.args.key.now chosen
            (c.loop-k.k + 1)) (sym w.chosen-is)
            (takes c.args.page.now c.args.node.now c.requires.facts c.loop-k.k c.loop-k.at
            c.next_origin-at-in-loop-k.result i.least within i.at c.next_origin-at-in-loop-k.ensures.value
            c.args.key.now c.loop-k.chosen i.last c.compare_record.result c.again.new.self.origin held.stands
            c.compare_record.ensures (sym c.ne.ensures ∙ w.if-ne.true))
        | else-ne w ↦ subst (λ (chosen : Chosen). IsLast c.args.page.now c.args.node.now c.args.key.now chosen
            (c.loop-k.k + 1)) (sym w.chosen-is)
            (keeps c.args.page.now c.args.node.now c.requires.facts c.loop-k.k c.loop-k.at
            c.next_origin-at-in-loop-k.result i.least within i.at c.next_origin-at-in-loop-k.ensures.value
            c.args.key.now c.loop-k.chosen i.last c.compare_record.result c.again.new.self.origin held.stands
            c.compare_record.ensures (sym c.ne.ensures ∙ w.if-ne.false))
      ];
      members = c.again.ensures.members ∙ i.members;
    }
