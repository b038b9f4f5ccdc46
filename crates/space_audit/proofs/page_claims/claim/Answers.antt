use Rattle.std.proofs.Common.{◌≡◌, ℕ, get_or, refl, sym, ◌∙◌, ap}
use Rattle.space_audit.specs.Holders.{held_more}
use Rattle.space_audit.proofs.Held.{held_claim, held_taken}
use Rattle.space_audit.proofs.page_claims.claim.Goals as goal

pub returns-then-holders-page : goal.returns-then-holders-page
returns-then-holders-page c = λ claims a.
    held_claim c.args.holders.now claims c.args.page c.args.who c.args.who c.requires
    (sym (ap (λ k. held_more k c.args.who) c.if-holders-page.true)) a

pub returns-else-holders-page : goal.returns-else-holders-page
returns-else-holders-page c = λ claims a.
    held_claim c.args.holders.now claims c.args.page c.args.who 4294967292 c.requires
    (sym (held_taken (get_or c.args.holders.now c.args.page 0) c.args.who c.if-holders-page.false)) a
