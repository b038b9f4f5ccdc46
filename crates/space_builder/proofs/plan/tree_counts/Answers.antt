use Rattle.std.proofs.Common.{◌≡◌, ◌∙◌, Vec, Global, ℕ, []}
use Rattle.std.proofs.lemmas.Result.{IfOk-weaker}
use Rattle.tree_layout.specs.Division.{tree_levels, level_counts}
use Rattle.row_layout.specs.HoldsValues.{clustered_entries}
use Rattle.space_builder.specs.calls.Picked.{first_page_in, picked_entries}
use Rattle.space_builder.specs.calls.Plan.{HasTreeCounts}
use Rattle.space_builder.proofs.building.PlanSteps.{clustered_given, picked_given, given_divides, given_counted}
use Rattle.space_builder.proofs.plan.tree_counts.Goals as goal

pub count_tree-requires : goal.count_tree-requires
count_tree-requires c =
    given_divides c.laws_below.ensures c.args.schema.now c.args.rows.now c.args.index c.requires.index
    c.in_ok-leaf.leaf c.in_ok-node.node c.in_ok-leaf.ensures.value c.in_ok-node.ensures.value
    (clustered_entries c.format.result (first_page_in [] []) c.args.rows.now)
    (clustered_given c.args.schema.now c.args.rows.now c.args.index c.format.result c.if-index-eq0.true
    c.format.ensures)
    c.requires.rows

pub returns-then-index-eq0 : goal.returns-then-index-eq0
returns-then-index-eq0 c =
    let entries = clustered_entries c.format.result (first_page_in [] []) c.args.rows.now in
    IfOk-weaker c.count_tree.result
    (λ (counts : Vec ℕ Global). counts.items
    ≡ level_counts (tree_levels c.in_ok-leaf.leaf c.in_ok-node.node (λ l k. 0) entries))
    (λ (counts : Vec ℕ Global). HasTreeCounts c.args.schema.now c.args.rows.now c.args.index counts.items)
    (λ counts is. given_counted c.laws_below.ensures c.args.schema.now c.args.rows.now c.args.index c.requires.index
    c.in_ok-leaf.leaf c.in_ok-node.node c.in_ok-leaf.ensures.value c.in_ok-node.ensures.value entries
    (clustered_given c.args.schema.now c.args.rows.now c.args.index c.format.result c.if-index-eq0.true
    c.format.ensures)
    c.requires.rows counts.items is)
    c.count_tree.ensures

pub count_tree-requires-2 : goal.count_tree-requires-2
count_tree-requires-2 c =
    given_divides c.laws_below.ensures c.args.schema.now c.args.rows.now c.args.index c.requires.index
    c.in_ok-leaf.leaf c.in_ok-node.node c.in_ok-leaf.ensures.value c.in_ok-node.ensures.value
    (picked_entries c.deref.result.now c.args.rows.now c.args.order.now)
    (picked_given c.picked_entries_are_sorted.ensures c.args.schema.now c.args.rows.now c.args.index
    c.args.order.now c.deref.result.now c.if-index-eq0.false c.requires.index c.requires.order
    (c.deref.ensures.value ∙ c.in_ok-fields.ensures))
    c.requires.rows

pub returns : goal.returns
returns c =
    let entries = picked_entries c.deref.result.now c.args.rows.now c.args.order.now in
    IfOk-weaker c.count_tree-2.result
    (λ (counts : Vec ℕ Global). counts.items
    ≡ level_counts (tree_levels c.in_ok-leaf.leaf c.in_ok-node.node (λ l k. 0) entries))
    (λ (counts : Vec ℕ Global). HasTreeCounts c.args.schema.now c.args.rows.now c.args.index counts.items)
    (λ counts is. given_counted c.laws_below.ensures c.args.schema.now c.args.rows.now c.args.index c.requires.index
    c.in_ok-leaf.leaf c.in_ok-node.node c.in_ok-leaf.ensures.value c.in_ok-node.ensures.value entries
    (picked_given c.picked_entries_are_sorted.ensures c.args.schema.now c.args.rows.now c.args.index
    c.args.order.now c.deref.result.now c.if-index-eq0.false c.requires.index c.requires.order
    (c.deref.ensures.value ∙ c.in_ok-fields.ensures))
    c.requires.rows counts.items is)
    c.count_tree-2.ensures
