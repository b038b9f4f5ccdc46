use Rattle.std.proofs.Common.{refl, sym, arith}
use Rattle.std.specs.declared.cmp.Ordering.TheVariants.{Less, Equal, Greater}
use Rattle.column_values.proofs.Bytes.{are_bytes}
use Rattle.column_values.proofs.WordOrder.{word_decides, overlap_decides}
use Rattle.column_values.proofs.order.compare_halves.Goals as goal

pub returns-in-Less-clause-order : goal.returns-in-Less-clause-order
returns-in-Less-clause-order c =
    let a = c.args.a.now in
    let b = c.args.b.now in
    sym (word_decides 0 4 a b _ _ _ Less (omega (arith, c.requires.first_long, c.if-both-lt4.false))
    (omega (arith, c.requires.second_long, c.if-both-lt4.false)) (are_bytes a (λ k. omega (arith, c.type_inv.a k)))
    (are_bytes b (λ k. omega (arith, c.type_inv.b k))) c.number_at.ensures.number c.number_at-2.ensures.number
    c.cmp-front.ensures c.in-Less.is refl)

pub returns-in-Greater-clause-order : goal.returns-in-Greater-clause-order
returns-in-Greater-clause-order c =
    let a = c.args.a.now in
    let b = c.args.b.now in
    sym (word_decides 0 4 a b _ _ _ Greater (omega (arith, c.requires.first_long, c.if-both-lt4.false))
    (omega (arith, c.requires.second_long, c.if-both-lt4.false)) (are_bytes a (λ k. omega (arith, c.type_inv.a k)))
    (are_bytes b (λ k. omega (arith, c.type_inv.b k))) c.number_at.ensures.number c.number_at-2.ensures.number
    c.cmp-front.ensures c.in-Greater.is refl)

pub returns-in-Equal-clause-order : goal.returns-in-Equal-clause-order
returns-in-Equal-clause-order c =
    let a = c.args.a.now in
    let b = c.args.b.now in
    let are_a = are_bytes a (λ k. omega (arith, c.type_inv.a k)) in
    let are_b = are_bytes b (λ k. omega (arith, c.type_inv.b k)) in
    overlap_decides 4 c.args.both 4 a b _ _ _ (omega (arith, c.if-both-lt4.false)) (omega (arith, c.requires.few))
    (omega (arith, c.if-both-lt4.false)) c.requires.first_long c.requires.second_long are_a are_b
    c.number_at-in-Equal.ensures.number c.number_at-in-Equal-2.ensures.number c.cmp-end.ensures
    (word_decides 0 4 a b _ _ _ Equal (omega (arith, c.requires.first_long, c.if-both-lt4.false))
    (omega (arith, c.requires.second_long, c.if-both-lt4.false)) are_a are_b c.number_at.ensures.number
    c.number_at-2.ensures.number c.cmp-front.ensures c.in-Equal.is refl)
