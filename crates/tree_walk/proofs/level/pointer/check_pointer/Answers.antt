use Rattle.std.proofs.Common.{◌≡◌, ◌∙◌, ap, None}
use Rattle.std.proofs.lemmas.Result.{err_from_is_err_and}
use Rattle.page_source.proofs.Told.{map_told, map_told2, map_told3}
use Rattle.tree_walk.specs.declared.walk.Walk.{Walk}
use Rattle.tree_walk.specs.Tree.{index_in}
use Rattle.tree_walk.proofs.Cursors.{placed_in_hand, halts_in_hand, grew_in_hand, tally_in_hand, looks_halt}
use Rattle.tree_walk.proofs.level.pointer.check_pointer.Goals as goal

pub returns-in_err-tally-clause-exact : goal.returns-in_err-tally-clause-exact
returns-in_err-tally-clause-exact g c =
    let ep : c.read_high.new.walk.parent ≡ c.args.walk.now.parent = ap (λ (w : Walk). w.parent)
    c.read_high.ensures.same ∙ ap (λ (w : Walk). w.parent) c.in_ok-next.ensures.walk in
    let ea : c.read_high.new.walk.after ≡ c.look.new.walk.after = ap (λ (w : Walk). w.after) c.read_high.ensures.same in
    let x = rw c.in_ok-next.ensures.keeps.same at c.in_err-tally.ensures.exact in
    let r = err_from_is_err_and c.from_residual-in_err-tally.result c.from_residual-in_err-tally.ensures.1 in
    rw (r.1, r.2)
    (map_told3 (g.S.PageSource.content c.args.source.now)
    (λ file a f x. halts_in_hand (index_in file c.args.aim.now.tree) c.args.aim.now
    c.args.place c.in_ok-next.next c.read_high.new.walk c.args.walk.now.parent c.look.new.walk.after ep ea a f
    c.args.marks.now c.in_err-tally.field-0.0 x)
    c.requires.at c.in_ok-next.ensures.exact x)

pub returns-clause-exact : goal.returns-clause-exact
returns-clause-exact g c =
    let ep : c.read_high.new.walk.parent ≡ c.args.walk.now.parent = ap (λ (w : Walk). w.parent)
    c.read_high.ensures.same ∙ ap (λ (w : Walk). w.parent) c.in_ok-next.ensures.walk in
    let ea : c.read_high.new.walk.after ≡ c.look.new.walk.after = ap (λ (w : Walk). w.after) c.read_high.ensures.same in
    let x = rw c.in_ok-next.ensures.keeps.same at c.in_ok-tally.ensures.exact in
    map_told3 (g.S.PageSource.content c.args.source.now)
    (λ file a f x. placed_in_hand (index_in file c.args.aim.now.tree) c.args.aim.now
    c.args.place c.in_ok-next.next c.read_high.new.walk c.args.walk.now.parent c.look.new.walk.after ep ea a f
    c.args.marks.now None x)
    c.requires.at c.in_ok-next.ensures.exact x

pub returns-clause-marked : goal.returns-clause-marked
returns-clause-marked g c =
    let ep : c.read_high.new.walk.parent ≡ c.args.walk.now.parent = ap (λ (w : Walk). w.parent)
    c.read_high.ensures.same ∙ ap (λ (w : Walk). w.parent) c.in_ok-next.ensures.walk in
    let ea : c.read_high.new.walk.after ≡ c.look.new.walk.after = ap (λ (w : Walk). w.after) c.read_high.ensures.same in
    map_told2 (g.S.PageSource.content c.args.source.now)
    (λ file a f. grew_in_hand (index_in file c.args.aim.now.tree) c.args.aim.now
    c.args.place c.in_ok-next.next c.read_high.new.walk c.args.walk.now.parent c.look.new.walk.after ep ea a f
    c.args.marks.now c.check_child.new.marks c.in_ok-tally.ensures.marked)
    c.requires.at c.in_ok-next.ensures.exact

pub returns-clause-tally : goal.returns-clause-tally
returns-clause-tally g c =
    let ep : c.read_high.new.walk.parent ≡ c.args.walk.now.parent = ap (λ (w : Walk). w.parent)
    c.read_high.ensures.same ∙ ap (λ (w : Walk). w.parent) c.in_ok-next.ensures.walk in
    let ea : c.read_high.new.walk.after ≡ c.look.new.walk.after = ap (λ (w : Walk). w.after) c.read_high.ensures.same in
    let x = rw c.in_ok-next.ensures.keeps.same at c.in_ok-tally.ensures.tally in
    map_told3 (g.S.PageSource.content c.args.source.now)
    (λ file a f x z. tally_in_hand (index_in file c.args.aim.now.tree) c.args.aim.now
    c.args.place c.in_ok-next.next c.read_high.new.walk c.args.walk.now.parent c.look.new.walk.after ep ea a f
    c.in_ok-tally.tally (x z))
    c.requires.at c.in_ok-next.ensures.exact x

pub returns-in_err-next-clause-exact : goal.returns-in_err-next-clause-exact
returns-in_err-next-clause-exact g c =
    let r = err_from_is_err_and c.from_residual.result c.from_residual.ensures.1 in
    rw (r.1, r.2)
    (map_told (g.S.PageSource.content c.args.source.now)
    (λ file x. looks_halt (index_in file c.args.aim.now.tree) c.args.aim.now.depth
    c.args.place.j c.args.walk.now.parent c.look.new.walk.after c.in_err-next.field-0.0 _ x)
    c.in_err-next.ensures.exact)
