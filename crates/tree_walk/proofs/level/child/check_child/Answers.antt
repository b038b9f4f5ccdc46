use Rattle.std.proofs.Common.{◌≡◌, ◌∙◌, Bool, cond, ap, subst, refl}
use Rattle.std.proofs.lemmas.Bool.{eq-eqb}
use Rattle.page_source.specs.Pages.{page_of}
use Rattle.compact_record.specs.Keys.{child_at}
use Rattle.tree_walk.specs.Walk.{child_in_hand, IsTally}
use Rattle.page_source.proofs.Told.{map_told}
use Rattle.tree_walk.proofs.Audit.{place_within}
use Rattle.tree_walk.proofs.level.child.check_child.Goals as goal

pub fetch-requires : goal.fetch-requires
fetch-requires g c =
    map_told (g.S.PageSource.content c.args.source.now)
    (λ file a. place_within file c.args.aim.now.tree.space.now _ c.args.aim.now.segment c.child-n.result a
    ((c.if-not-is_place.ensures.place file a).0 refl)) c.requires.ready.audit

pub returns-clause-tally : goal.returns-clause-tally
returns-clause-tally g c =
    map_told (g.S.PageSource.content c.args.source.now)
    (λ file p z.
    let node = c.args.aim.now.tree.node.now in
    let n : c.child-n.result ≡ child_in_hand c.args.walk.now node c.args.place = c.child-n.ensures ∙ ap
    (child_at c.args.walk.now.parent node) c.requires.low.stands in
    let leaf = c.args.aim.now.tree.leaf.now in
    let is_leaf : c.fields_on-fields.result.now ≡ leaf = c.fields_on-fields.ensures
    ∙ ap (λ (b : Bool). cond b leaf node) (eq-eqb c.args.aim.now.level 0 z) in
    subst (λ fields. IsTally
    (page_of file (child_in_hand c.args.walk.now node c.args.place)) fields c.in_ok-tally.tally)
    is_leaf
    (subst (λ page. IsTally page c.fields_on-fields.result.now c.in_ok-tally.tally) (p ∙ ap (page_of file) n)
    (c.in_ok-tally.ensures.tally z)))
    c.in_ok-fetch.ensures.bytes
