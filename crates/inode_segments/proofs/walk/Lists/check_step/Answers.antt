use Rattle.std.proofs.Common.{Some, None, rules}
use Rattle.std.proofs.lemmas.Result.{err_from_is_err_and}
use Rattle.page_source.specs.Lists.{flag_in}
use Rattle.page_source.proofs.Told.{map_told, map_told2}
use Rattle.inode_segments.specs.InodeChecks.{IsStep}
use Rattle.inode_segments.proofs.Checked.{size_stated, place_breaks, page_breaks}
use Rattle.inode_segments.proofs.walk.Lists.check_step.Goals as goal

pub returns-then-not-may_go-clause-exact : goal.returns-then-not-may_go-clause-exact
returns-then-not-may_go-clause-exact g c =
    let step = c.args.step.now in
    rw c.into.ensures (map_told (g.S.PageSource.content c.args.source.now) (λ file header reached marked.
    let not_there : ¬ (IsStep file (flag_in c.args.self.now.fragments.now) reached step.address) = λ goes.
    search (
      rules,
      c.may_go.ensures.exact file reached (size_stated file c.args.self.now.header.now header)
          marked,
      goes,
    ) in
    place_breaks file (flag_in c.args.self.now.fragments.now) c.args.full reached step.address step.holder step.before
    c.at.result not_there c.at.ensures) c.requires.told)

pub returns-in_err-check_page-clause-exact : goal.returns-in_err-check_page-clause-exact
returns-in_err-check_page-clause-exact g c =
    let step = c.args.step.now in
    let r = err_from_is_err_and c.from_residual-in_err-check_page.result c.from_residual-in_err-check_page.ensures.1 in
    rw (r.1, r.2) (map_told2 (g.S.PageSource.content c.args.source.now) (λ file header here reached marked.
    let goes : IsStep file (flag_in c.args.self.now.fragments.now) reached step.address =
    search (rules, c.may_go.ensures.exact file reached (size_stated file c.args.self.now.header.now header) marked) in
    page_breaks file (flag_in c.args.self.now.fragments.now) c.args.full reached step.address step.holder step.before
    c.fetch.new.page c.args.self.now.header.now.space (Some c.in_err-check_page.field-0.0) goes here
    header.space c.in_err-check_page.ensures.exact)
    c.requires.told c.in_ok-fetch.ensures.bytes)

pub returns-clause-exact : goal.returns-clause-exact
returns-clause-exact g c =
    let step = c.args.step.now in
    map_told2 (g.S.PageSource.content c.args.source.now) (λ file header here reached marked.
    let goes : IsStep file (flag_in c.args.self.now.fragments.now) reached step.address =
    search (rules, c.may_go.ensures.exact file reached (size_stated file c.args.self.now.header.now header) marked) in
    page_breaks file (flag_in c.args.self.now.fragments.now) c.args.full reached step.address step.holder step.before
    c.fetch.new.page c.args.self.now.header.now.space None goes here header.space c.in_ok-check_page.ensures.exact)
    c.requires.told c.in_ok-fetch.ensures.bytes
