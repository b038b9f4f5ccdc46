use Rattle.std.proofs.Common.{◌∙◌, sym, ap}
use Rattle.space_audit.specs.Space.{segment_with_address}
use Rattle.tree_walk.proofs.Audit.{address_is}
use Rattle.tree_walk.proofs.tree.root.segment_in.Goals as goal

pub returns-in-Some : goal.returns-in-Some
returns-in-Some c =
    sym (c.in-Some.ensures.1) ∙ ap (segment_with_address c.args.space.now.segments)
    (address_is c.args.page.now c.args.at _ _ c.read_be.ensures.number c.read_be-2.ensures.number)

pub returns-in-None : goal.returns-in-None
returns-in-None c =
    c.segment_count.ensures.count ∙ (sym c.in-None.ensures ∙ ap (segment_with_address c.args.space.now.segments)
    (address_is c.args.page.now c.args.at _ _ c.read_be.ensures.number c.read_be-2.ensures.number))
