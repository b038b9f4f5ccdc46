use Rattle.std.proofs.Common.{◌+◌, ◌*◌, ◌≡◌, take, sym, ◌∙◌, arith}
use Rattle.std.specs.declared.cmp.Ordering.TheVariants.{Less, Equal, Greater}
use Rattle.column_values.specs.Order.{bytes_cmp}
use Rattle.column_values.proofs.Bytes.{are_bytes}
use Rattle.column_values.proofs.WordOrder.{word_decides, overlap_decides}
use Rattle.column_values.proofs.order.compare_words.Goals as goal

pub returns-in-Less-clause-order : goal.returns-in-Less-clause-order
returns-in-Less-clause-order c =
    let a = c.args.a.now in
    let b = c.args.b.now in
    sym (word_decides (8 * c.loop-word.word) 8 a b _ _ _ Less
    (omega (arith, c.min-both.ensures, c.loop-word-test.true))
    (omega (arith, c.min-both.ensures, c.loop-word-test.true))
    (are_bytes a (λ k. omega (arith, c.type_inv.a k))) (are_bytes b (λ k. omega (arith, c.type_inv.b k)))
    c.number_at.ensures.number c.number_at-in-loop-word.ensures.number c.cmp-order.ensures c.in-Less.is
    c.loop-word.invariant)

pub returns-in-Greater-clause-order : goal.returns-in-Greater-clause-order
returns-in-Greater-clause-order c =
    let a = c.args.a.now in
    let b = c.args.b.now in
    sym (word_decides (8 * c.loop-word.word) 8 a b _ _ _ Greater
    (omega (arith, c.min-both.ensures, c.loop-word-test.true))
    (omega (arith, c.min-both.ensures, c.loop-word-test.true))
    (are_bytes a (λ k. omega (arith, c.type_inv.a k))) (are_bytes b (λ k. omega (arith, c.type_inv.b k)))
    c.number_at.ensures.number c.number_at-in-loop-word.ensures.number c.cmp-order.ensures c.in-Greater.is
    c.loop-word.invariant)

pub loop-word-preserved : goal.loop-word-preserved
loop-word-preserved c =
    let a = c.args.a.now in
    let b = c.args.b.now in
    let next : 8 * (c.loop-word.word + 1) ≡ 8 * c.loop-word.word + 8 = omega arith in
    (λ k. bytes_cmp (take (next k) a) (take (next k) b))
    ∙ word_decides (8 * c.loop-word.word) 8 a b _ _ _ Equal
    (omega (arith, c.min-both.ensures, c.loop-word-test.true))
    (omega (arith, c.min-both.ensures, c.loop-word-test.true))
    (are_bytes a (λ k. omega (arith, c.type_inv.a k))) (are_bytes b (λ k. omega (arith, c.type_inv.b k)))
    c.number_at.ensures.number c.number_at-in-loop-word.ensures.number c.cmp-order.ensures c.in-Equal.is
    c.loop-word.invariant

pub returns-clause-order : goal.returns-clause-order
returns-clause-order c =
    let a = c.args.a.now in
    let b = c.args.b.now in
    overlap_decides (8 * c.loop-word.word) c.min-both.result 8 a b _ _ _ (omega (arith, c.if-both-lt8.false))
    (omega (arith, c.loop-word-test.false)) (omega (arith, c.loop-word.auto.word-end))
    (omega (arith, c.min-both.ensures)) (omega (arith, c.min-both.ensures))
    (are_bytes a (λ k. omega (arith, c.type_inv.a k))) (are_bytes b (λ k. omega (arith, c.type_inv.b k)))
    c.number_at-2.ensures.number c.number_at-3.ensures.number c.cmp-end.ensures c.loop-word.invariant
