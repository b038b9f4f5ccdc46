use Rattle.std.proofs.Common.{◌≡◌, arith, ◌++◌, ◌∷◌, [], Some, sym, subst, ap, ◌∙◌, ◌*◌, length, length-append}
use Rattle.column_values.specs.Order.{Key}
use Rattle.cross_index.specs.calls.Kept.{LieTo}
use Rattle.cross_index.proofs.MarkSteps.{lie_more, value_more}
use Rattle.cross_index.proofs.kept_values.KeptValues.push.Goals as goal

pub invariant_of-self-in-Ok : goal.invariant_of-self-in-Ok
invariant_of-self-in-Ok c =
    let before = c.self.inside.bytes.items in
    let most = length c.extend_from_slice.new.self.items in
    let grown = ap length c.in_ok-extend_from_slice.ensures.items ∙ length-append before c.args.value.now in
    let is : c.len.result ≡ most = omega (arith, c.len.ensures, c.extend_from_slice.new.self.ok) in
    subst (λ marks. LieTo 0 marks most) (sym c.in-Ok.ensures.ok)
    (lie_more 0 c.self.inside.marks (length before) (2 * c.len.result) most c.self.invariant (omega (arith, grown))
    (omega (arith, is)))

pub returns-in-Ok : goal.returns-in-Ok
returns-in-Ok c =
    value_more c.self.inside.bytes.items c.args.value.now c.extend_from_slice.new.self.items c.self.inside.marks
    c.push.new.self (2 * c.len.result) c.self.invariant c.in_ok-extend_from_slice.ensures.items
    (omega (arith, c.len.ensures, c.extend_from_slice.new.self.ok)) c.in-Ok.ensures.ok
    ∙ ap (λ (cells : Key). cells ++ Some c.args.value.now ∷ []) c.self.view_is
