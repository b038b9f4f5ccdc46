use Rattle.std.proofs.lemmas.Result.{err_from_is_err_and}
use Rattle.page_source.specs.Lists.{flag_in}
use Rattle.page_source.proofs.Told.{map_told, map_told3}
use Rattle.inode_segments.proofs.Both.{lists_stop, segments_stop, next_stated}
use Rattle.inode_segments.proofs.read.read_inodes.Goals as goal

pub returns-in_err-walk_both-clause-exact : goal.returns-in_err-walk_both-clause-exact
returns-in_err-walk_both-clause-exact g c =
    let r = err_from_is_err_and c.from_residual-in_err-walk_both.result c.from_residual-in_err-walk_both.ensures.1 in
    rw (r.1, r.2) (map_told (g.S.PageSource.content c.args.source.now) (λ file checks.
    lists_stop file (flag_in c.args.fragments.now) c.in_err-walk_both.field-0.0 checks)
    c.in_err-walk_both.ensures.exact)

pub returns-in_err-check_segments-clause-exact : goal.returns-in_err-check_segments-clause-exact
returns-in_err-check_segments-clause-exact g c =
    let r = err_from_is_err_and c.from_residual-in_err-check_segments.result
    c.from_residual-in_err-check_segments.ensures.1 in
    rw (r.1, r.2) (map_told3 (g.S.PageSource.content c.args.source.now) (λ file is lists kept.
    segments_stop file (flag_in c.args.fragments.now) lists c.in_err-check_segments.field-0.0
    (c.in_err-check_segments.ensures.exact file kept (next_stated file c.args.header.now is)))
    c.requires.told c.in_ok-walk_both.ensures.exact c.in_ok-walk_both.ensures.kept)

pub returns-clause-exact : goal.returns-clause-exact
returns-clause-exact g c =
    map_told3 (g.S.PageSource.content c.args.source.now) (λ file is lists kept.
    (lists, c.in_ok-check_segments.ensures.exact file kept (next_stated file c.args.header.now is)))
    c.requires.told c.in_ok-walk_both.ensures.exact c.in_ok-walk_both.ensures.kept
