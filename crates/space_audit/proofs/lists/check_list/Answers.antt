use Rattle.std.proofs.Common.{◌≡◌, ℕ, ◌<◌, length, refl, sym, subst, ◌∙◌, arith}
use Rattle.std.proofs.lemmas.Bool.{false≢true}
use Rattle.page_source.specs.Lists.{HaveSameMembers}
use Rattle.space_audit.specs.Lists.{at_home}
use Rattle.space_audit.proofs.AtHome.{as_many, home_list_holds, home_list_breaks}
use Rattle.space_audit.proofs.lists.check_list.Goals as goal

pub returns-then-not-holds_home-clause-exact : goal.returns-then-not-holds_home-clause-exact
returns-then-not-holds_home-clause-exact g c =
    rw c.at-then-not-holds_home.ensures (home_list_breaks c.links_one_list.ensures c.args.nodes.now _ c.in-Ok.list
    c.requires.few c.in-Ok.ensures.linked
    (λ s. false≢true (c.if-not-holds_home.ensures.1 (subst (λ xs. HaveSameMembers xs
    (at_home c.args.homes.now.numbers c.args.home)) (sym c.items.ensures) s))))

pub returns-clause-exact : goal.returns-clause-exact
returns-clause-exact g c =
    home_list_holds c.args.nodes.now _ c.in-Ok.list c.in-Ok.ensures.linked
    (subst (λ xs. HaveSameMembers xs (at_home c.args.homes.now.numbers c.args.home)) c.items.ensures
    (c.if-not-holds_home.ensures.0 refl))

pub returns-clause-followed : goal.returns-clause-followed
returns-clause-followed g c =
    let same = subst (λ xs. HaveSameMembers xs (at_home c.args.homes.now.numbers c.args.home)) c.items.ensures
    (c.if-not-holds_home.ensures.0 refl) in
    let many = as_many c.args.homes.now.numbers c.args.home c.in-Ok.list c.in-Ok.ensures.linked.distinct same in
    omega (arith, c.in-Ok.ensures.followed, many)
