use Rattle.std.proofs.Common.{◌≡◌, arith, ◌++◌, ◌∷◌, [], None, sym, subst, ap, ◌∙◌, ◌*◌, ◌+◌, length}
use Rattle.column_values.specs.Order.{Key}
use Rattle.cross_index.specs.calls.Kept.{LieTo}
use Rattle.cross_index.proofs.MarkSteps.{lie_more, null_more}
use Rattle.cross_index.proofs.kept_values.KeptValues.push_null.Goals as goal

pub invariant_of-self-2 : goal.invariant_of-self-2
invariant_of-self-2 c =
    let most = length c.self.inside.bytes.items in
    let is : c.len.result ≡ most = omega (arith, c.len.ensures, c.self.inside.bytes.ok) in
    subst (λ marks. LieTo 0 marks most) (sym c.in_ok-push.ensures.ok)
    (lie_more 0 c.self.inside.marks most (2 * c.len.result + 1) most c.self.invariant (omega arith) (omega (arith, is)))

pub returns : goal.returns
returns c =
    null_more c.self.inside.bytes.items c.self.inside.marks c.push.new.self (length c.self.inside.bytes.items)
    (2 * c.len.result + 1) c.self.invariant (omega arith) c.in_ok-push.ensures.ok
    ∙ ap (λ (cells : Key). cells ++ None ∷ []) c.self.view_is
