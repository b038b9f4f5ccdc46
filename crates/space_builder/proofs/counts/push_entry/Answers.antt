use Rattle.std.proofs.Common.{◌≡◌, ◌∙◌, sym, true, false}
use Rattle.page_packer.specs.Entries.{entry_at}
use Rattle.tree_layout.specs.Counting.{weight_of, begins_page}
use Rattle.space_builder.proofs.building.Weights.{only_first}
use Rattle.space_builder.proofs.counts.push_entry.Goals as goal
use Rattle.space_builder.proofs.counts.push_entry.Goals.{then-begins+in_ok-pointer, else-begins}

pub returns : goal.returns
returns g c =
    let weight =
    weight_of c.args.leaf.now c.args.node.now (entry_at (g.E.Entries.entries c.args.entries.now) c.args.k) in
    let pointer : begins_page c.args.cut.now c.in_ok-size.size ≡ true → c.if-begins.pointer ≡ weight.pointer =
    elim c.if-begins.branch [
      | then-begins+in_ok-pointer w ↦ λ yes. w.pointer-is ∙ w.in_ok-pointer.ensures
      | else-begins w ↦ λ yes.
          let no : true ≡ false = sym yes ∙ sym c.begins.ensures ∙ w.if-begins.false in
          cc
    ] in
    c.in_ok-push.ensures.ok
    ∙ only_first c.args.cut.now weight (record { size = c.in_ok-size.size; pointer = c.if-begins.pointer })
    c.in_ok-size.ensures pointer
