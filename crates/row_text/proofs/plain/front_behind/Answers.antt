use Rattle.std.proofs.Common.{ℕ, List, take, subst}
use Rattle.row_text.specs.Values.{IsPlain}
use Rattle.row_text.proofs.Escapes.{plain_run}
use Rattle.row_text.proofs.plain.front_behind.Goals as goal

pub returns-clause-plain : goal.returns-clause-plain
returns-clause-plain c =
    plain_run c.args.text.now c.args.found c.front_by.result c.requires.before
    (subst (λ (t : List ℕ). IsPlain (take c.front_by.result t)) c.split_at.ensures.back c.front_by.ensures.plain)
