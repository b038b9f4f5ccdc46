use Rattle.std.proofs.Common.{◌≡◌, ℕ, Option, Ok, Err, ap, subst}
use Rattle.std.proofs.lemmas.Result.{err_from_is_err_and}
use Rattle.tree_walk.specs.Leaf.{CursorView}
use Rattle.tree_walk.specs.Hops.{IsDue, GoesByNextFields}
use Rattle.tree_walk.proofs.leaves.LeafCursor.next.Goals as goal

pub returns-in-Some-clause-exact : goal.returns-in-Some-clause-exact
returns-in-Some-clause-exact g c =
    let leaf : c.self.inside.leaf ≡ c.args.self.now.leaf = ap (λ (v : CursorView). v.leaf) c.self.view_is in
    let last : c.self.inside.last ≡ c.args.self.now.last = ap (λ (v : CursorView). v.last) c.self.view_is in
    rw (c.in-Some.is, leaf, last) at c.in_ok-found.ensures.exact

pub returns-in-Some-clause-near : goal.returns-in-Some-clause-near
returns-in-Some-clause-near g c =
    let leaf : c.self.inside.leaf ≡ c.args.self.now.leaf = ap (λ (v : CursorView). v.leaf) c.self.view_is in
    let last : c.self.inside.last ≡ c.args.self.now.last = ap (λ (v : CursorView). v.last) c.self.view_is in
    rw (leaf, last) at c.in_ok-found.ensures.near

pub returns-in_default-clause-near : goal.returns-in_default-clause-near
returns-in_default-clause-near g c =
    let leaf : c.self.inside.leaf ≡ c.args.self.now.leaf = ap (λ (v : CursorView). v.leaf) c.self.view_is in
    let last : c.self.inside.last ≡ c.args.self.now.last = ap (λ (v : CursorView). v.last) c.self.view_is in
    rw (leaf, last) at c.in_ok-found.ensures.near

pub returns-in-Some-clause-hops : goal.returns-in-Some-clause-hops
returns-in-Some-clause-hops g c =
    subst (λ (v : CursorView). (n : ℕ) → IsDue v.leaf v.last n → GoesByNextFields n v.leaf c.seek.new.leaf
    (Ok c.in_ok-found.found)) c.self.view_is c.in_ok-found.ensures.hops

pub returns-in_default-clause-hops : goal.returns-in_default-clause-hops
returns-in_default-clause-hops g c =
    subst (λ (v : CursorView). (n : ℕ) → IsDue v.leaf v.last n → GoesByNextFields n v.leaf c.seek.new.leaf
    (Ok c.in_ok-found.found)) c.self.view_is c.in_ok-found.ensures.hops

pub returns-in_err-found-clause-hops : goal.returns-in_err-found-clause-hops
returns-in_err-found-clause-hops g c =
    let r = err_from_is_err_and c.from_residual.result c.from_residual.ensures.1 in
    rw (r.1, r.2)
    (subst (λ (v : CursorView). (n : ℕ) → IsDue v.leaf v.last n
    → GoesByNextFields {A = Option ℕ} n v.leaf c.seek.new.leaf
    (Err c.in_err-found.field-0.0)) c.self.view_is c.in_err-found.ensures.hops)

pub returns-in_err-found-clause-near : goal.returns-in_err-found-clause-near
returns-in_err-found-clause-near g c =
    let leaf : c.self.inside.leaf ≡ c.args.self.now.leaf = ap (λ (v : CursorView). v.leaf) c.self.view_is in
    let last : c.self.inside.last ≡ c.args.self.now.last = ap (λ (v : CursorView). v.last) c.self.view_is in
    rw (leaf, last) at c.in_err-found.ensures.near
