use Rattle.std.proofs.Common.{◌≡◌, ◌∙◌, ◌<◌, Vec, Global, List, ℕ, length, map, ap, arith}
use Rattle.std.proofs.lemmas.List.{take_all}
use Rattle.std.proofs.lemmas.Result.{IfOk-weaker}
use Rattle.page_packer.specs.Entries.{Entry, entry_at}
use Rattle.tree_layout.specs.Counting.{Cutting, weight_of, nothing_cut, one_more, cut_more, pages_of, cut_leaves}
use Rattle.space_builder.proofs.building.Weights.{cut_step}
use Rattle.space_builder.proofs.counts.cut_leaves.Goals as goal

pub loop-k-preserved : goal.loop-k-preserved
loop-k-preserved g c =
    let entries = g.E.Entries.entries c.args.entries.now in
    let leaf = c.args.leaf.now in
    let node = c.args.node.now in
    let within : c.loop-k.k < length entries = omega (arith, c.loop-k-test.true, c.count-k-end.ensures) in
    c.in_ok-push_entry.ensures
    ∙ ap (λ (cut : Cutting). one_more cut (weight_of leaf node (entry_at entries c.loop-k.k))) c.loop-k.invariant
    ∙ cut_step leaf node entries c.loop-k.k within

pub returns : goal.returns
unfolding cut_leaves
returns g c =
    let entries = g.E.Entries.entries c.args.entries.now in
    let leaf = c.args.leaf.now in
    let node = c.args.node.now in
    let all : pages_of c.loop-k.cut ≡ cut_leaves leaf node entries =
    ap (λ (cut : Cutting). pages_of cut)
    (c.loop-k.invariant
    ∙ ap (λ (list : List Entry). cut_more nothing_cut (map (weight_of leaf node) list))
    (take_all c.loop-k.k entries (omega (arith, c.loop-k-test.false, c.count-k-end.ensures)))) in
    IfOk-weaker c.pages.result (λ (pages : Vec ℕ Global). pages.items ≡ pages_of c.loop-k.cut)
    (λ (pages : Vec ℕ Global). pages.items ≡ cut_leaves leaf node entries) (λ pages is. is ∙ all) c.pages.ensures
