use Rattle.std.proofs.Common.{◌∙◌, sym, arith}
use Rattle.page_source.proofs.Told.{map_told, map_told2}
use Rattle.tree_walk.specs.Tree.{index_in}
use Rattle.tree_walk.proofs.Cursors.{follows_here, follows_ahead, follows_more, follows_end}
use Rattle.tree_walk.proofs.level.look.look.Goals as goal

pub returns-then-next-ge-FIRST_ORIGIN-clause-exact : goal.returns-then-next-ge-FIRST_ORIGIN-clause-exact
returns-then-next-ge-FIRST_ORIGIN-clause-exact g c =
    map_told (g.S.PageSource.content c.args.source.now)
    (λ file a. follows_here (index_in file c.args.aim.now.tree) c.args.aim.now.depth
    c.args.place.cursor c.args.walk.now.parent c.args.place.j c.args.aim.now.tree.node.now a.facts a.stands
    c.next_origin-next.result c.next_origin-next.ensures.value c.if-next-ge-FIRST_ORIGIN.true c.args.walk.now.after)
    c.requires.at

pub returns-then-number-clause-exact : goal.returns-then-number-clause-exact
returns-then-number-clause-exact g c =
    map_told (g.S.PageSource.content c.args.source.now)
    (λ file a. follows_end (index_in file c.args.aim.now.tree) c.args.aim.now.depth
    c.args.place.cursor c.args.walk.now.parent c.args.place.j c.args.aim.now.tree.node.now a.facts a.stands
    c.next_origin-next.result c.next_origin-next.ensures.value c.if-next-ge-FIRST_ORIGIN.false
    (sym c.read_be-number.ensures.number ∙ c.if-number.true) c.args.walk.now.after)
    c.requires.at

pub returns-clause-exact : goal.returns-clause-exact
returns-clause-exact g c =
    map_told2 (g.S.PageSource.content c.args.source.now)
    (λ file a r. follows_ahead (index_in file c.args.aim.now.tree) c.args.aim.now.depth
    c.args.place.cursor c.args.walk.now.parent c.args.place.j c.args.aim.now.tree.node.now a.facts
    (let h = a.is_aim.above in omega arith) a.stands
    c.next_origin-next.result c.next_origin-next.ensures.value c.if-next-ge-FIRST_ORIGIN.false
    c.read_be-number.result c.read_be-number.ensures.number c.if-number.false c.fetch.new.page r
    c.next_origin-origin.result c.next_origin-origin.ensures.value)
    c.requires.at c.in_ok-fetch.ensures.bytes

pub returns-then-place-eq0-clause-exact : goal.returns-then-place-eq0-clause-exact
returns-then-place-eq0-clause-exact g c =
    map_told (g.S.PageSource.content c.args.source.now)
    (λ file a.
    let h = follows_more (index_in file c.args.aim.now.tree) c.args.aim.now.depth
    c.args.place.cursor c.args.walk.now.parent c.args.place.j c.args.aim.now.tree.node.now a.facts a.stands
    c.read_be-number.result c.read_be-number.ensures.number c.if-number.false in
    let z = c.if-place-eq0.true in
    absurd (omega arith))
    c.requires.at
