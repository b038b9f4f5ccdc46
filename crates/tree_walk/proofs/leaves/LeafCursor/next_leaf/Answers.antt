use Rattle.std.proofs.Common.{ℕ, Ok, Err, subst}
use Rattle.std.proofs.lemmas.Result.{err_from_is_err_and}
use Rattle.tree_walk.specs.Leaf.{CursorView}
use Rattle.tree_walk.specs.Hops.{IsDue, Hops}
use Rattle.tree_walk.proofs.leaves.LeafCursor.next_leaf.Goals as goal

pub returns-then-found-clause-hops : goal.returns-then-found-clause-hops
returns-then-found-clause-hops g c =
    subst (λ (v : CursorView). (n : ℕ) → IsDue v.leaf v.last n → Hops n v.leaf c.take.new.leaf
    (Ok c.in_ok-found.found)) c.self.view_is c.in_ok-found.ensures.hops

pub returns-else-found-clause-hops : goal.returns-else-found-clause-hops
returns-else-found-clause-hops g c =
    subst (λ (v : CursorView). (n : ℕ) → IsDue v.leaf v.last n → Hops n v.leaf c.take.new.leaf
    (Ok c.in_ok-found.found)) c.self.view_is c.in_ok-found.ensures.hops

pub returns-in_err-found-clause-hops : goal.returns-in_err-found-clause-hops
returns-in_err-found-clause-hops g c =
    let r = err_from_is_err_and c.from_residual.result c.from_residual.ensures.1 in
    rw (r.1, r.2)
    (subst (λ (v : CursorView). (n : ℕ) → IsDue v.leaf v.last n → Hops n v.leaf c.take.new.leaf
    (Err c.in_err-found.field-0.0)) c.self.view_is c.in_err-found.ensures.hops)
