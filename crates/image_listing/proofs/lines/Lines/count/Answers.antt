use Rattle.std.proofs.Common.{◌≡◌, Option, Some, sym, ap, ◌∙◌, subst, unwrap_or}
use Rattle.std.specs.Option.{option_copied}
use Rattle.std.specs.BTreeMap.{get, Updates}
use Rattle.image_listing.specs.declared.lines.Lines.{Lines}
use Rattle.image_listing.specs.declared.lines.Tally.{Tally}
use Rattle.image_listing.specs.Versions.{Puts}
use Rattle.image_listing.specs.Tallies.{line_cmp, with_page, no_page}
use Rattle.image_listing.proofs.Orders.{line_exact, puts_from_updates}
use Rattle.image_listing.proofs.lines.Lines.count.Goals as goal
use Rattle.image_listing.proofs.lines.Lines.count.Goals.{in-Some, in-None}

pub returns-clause-puts : goal.returns-clause-puts
returns-clause-puts c =
    let old = c.args.self.now.tallies in
    let now = c.insert.new.self in
    let key = c.args.key in
    let puts = λ (self : c.match-get.self ≡ c.args.self.now)
    (tally : c.match-get.tally ≡ unwrap_or (get line_cmp old key) no_page).
    subst (λ (t : Tally). Puts line_cmp old now key t)
    (c.with_page.ensures ∙ ap (λ (t : Tally). with_page t c.args.version) tally)
    (puts_from_updates line_exact old now key c.with_page.result
    (subst (λ (before : Lines). Updates line_cmp before.tallies now key (Some c.with_page.result)) self
    c.in_ok-insert.ensures.updates)) in
    elim c.match-get.branch [
      | in-Some w ↦ puts w.self-is (w.tally-is ∙ ap (λ (t : Option Tally). unwrap_or t no_page)
          (ap option_copied (sym w.in-Some.is) ∙ c.get.ensures.value))
      | in-None w ↦ puts w.self-is (w.tally-is ∙ ap (λ (t : Option Tally). unwrap_or t no_page)
          (ap option_copied (sym w.in-None.is) ∙ c.get.ensures.value))
    ]
