use Rattle.std.proofs.Common.{◌≡◌, ℕ, ◌<◌, length, get_or, refl, sym, ◌∙◌, subst, arith}
use Rattle.std.proofs.lemmas.Bool.{false≢true}
use Rattle.space_audit.proofs.AtHome.{as_many, all_at_home, not_at_home}
use Rattle.space_audit.proofs.lists.holds_home.Goals as goal

pub returns-then-list-count : goal.returns-then-list-count
returns-then-list-count c = (
  λ e. absurd (false≢true e),
  λ h. absurd (c.if-list-count.true (as_many c.args.homes.now.numbers c.args.home c.args.list.now
      c.requires.distinct h
      ∙ sym c.count-count.ensures)),
)

pub returns-then-numbers-extent : goal.returns-then-numbers-extent
returns-then-numbers-extent c = (
  λ e. absurd (false≢true e),
  λ h. absurd (c.if-numbers-extent.true
      (subst (λ xs. get_or xs (get_or c.args.list.now c.loop-extent.extent-index 0) 0 ≡ c.args.home)
      (sym c.numbers-numbers.ensures.same)
      (not_at_home c.args.homes.now.numbers c.args.home c.args.list.now c.loop-extent.extent-index (omega arith) h))),
)

pub returns : goal.returns
returns c = (
  λ e. all_at_home c.args.homes.now.numbers c.args.home c.args.list.now c.requires.distinct c.requires.within
      (omega (arith, c.if-list-count.false, c.count-count.ensures))
      (λ k l. subst (λ xs. get_or xs (get_or c.args.list.now k 0) 0 ≡ c.args.home) c.numbers-numbers.ensures.same
      (c.loop-extent.invariant k (omega arith))),
  λ h. refl,
)
