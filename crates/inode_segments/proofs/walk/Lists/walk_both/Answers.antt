use Rattle.std.proofs.Common.{[], ◌∙◌}
use Rattle.std.proofs.lemmas.Result.{err_from_is_err_and}
use Rattle.page_source.specs.Lists.{flag_in}
use Rattle.page_source.proofs.Told.{map_told, map_told2, map_told4}
use Rattle.inode_segments.specs.Inodes.{list_pages}
use Rattle.inode_segments.proofs.Both.{none_marked, none_size, first_stops, second_answers, kept_answer}
use Rattle.inode_segments.proofs.walk.Lists.walk_both.Goals as goal

pub returns-in_err-walk-clause-exact : goal.returns-in_err-walk-clause-exact
returns-in_err-walk-clause-exact g c =
    let header = c.args.self.now.header.now in
    let r = err_from_is_err_and c.from_residual.result c.from_residual.ensures.1 in
    rw (r.1, r.2) (map_told2 (g.S.PageSource.content c.args.source.now) (λ file is checks.
    first_stops file (flag_in c.args.self.now.fragments.now) header is c.in_err-walk.field-0.0
    (checks [] (none_marked c.args.inodes.now header.size c.requires.none)))
    c.requires.told c.in_err-walk.ensures.exact)

pub returns-clause-exact : goal.returns-clause-exact
returns-clause-exact g c =
    let header = c.args.self.now.header.now in
    let none = none_marked c.args.inodes.now header.size c.requires.none in
    let second = rw c.in_ok-walk.ensures.over.same at c.walk-2.ensures.exact in
    map_told4 (g.S.PageSource.content c.args.source.now) (λ file is first marked second.
    second_answers file (flag_in c.args.self.now.fragments.now) header is (first [] none) c.walk-2.result
    (second (list_pages file header.inodes_full) (marked [] none)))
    c.requires.told c.in_ok-walk.ensures.exact c.in_ok-walk.ensures.marked second

pub returns-clause-kept : goal.returns-clause-kept
returns-clause-kept g c =
    let o = g.S.PageSource.content c.args.source.now in
    let header = c.args.self.now.header.now in
    let old = c.args.inodes.now in
    let none = none_marked old header.size c.requires.none in
    let grew = rw c.in_ok-walk.ensures.over.same at c.walk-2.ensures.grew in
    let more = rw c.in_ok-walk.ensures.over.same at c.walk-2.ensures.marked in
    kept_answer o (flag_in c.args.self.now.fragments.now) header old c.walk.new.inodes c.walk-2.new.inodes
    c.walk-2.result c.requires.none c.requires.told c.in_ok-walk.ensures.grew grew
    (map_told o (λ file marked. marked [] none) c.in_ok-walk.ensures.marked) more
    (c.in_ok-walk.ensures.size ∙ none_size old header.size c.requires.none) c.walk-2.ensures.size
    (returns-clause-exact g c)
