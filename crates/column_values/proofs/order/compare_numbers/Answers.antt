use Rattle.std.proofs.Common.{sym, ◌∙◌, arith}
use Rattle.std.specs.Ordering.{nat_cmp}
use Rattle.column_values.proofs.Bytes.{are_bytes}
use Rattle.column_values.proofs.ValueOrder.{whole_number}
use Rattle.column_values.proofs.order.compare_numbers.Goals as goal

pub returns : goal.returns
returns g c =
    let a = c.args.a.now in
    let b = c.args.b.now in
    let first = c.number_at.ensures.number in
    let second = c.number_at-2.ensures.number in
    c.cmp.ensures ∙ (λ i. nat_cmp (first i) (second i)) ∙ sym (whole_number _ a b c.requires.first c.requires.second
    (are_bytes a (λ k. omega (arith, c.type_inv.a k))) (are_bytes b (λ k. omega (arith, c.type_inv.b k))))
