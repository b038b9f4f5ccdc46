use Rattle.std.proofs.Common.{◌≡◌, ℕ, ◌-◌, List, length, take, drop, ◌∙◌, arith}
use Rattle.std.proofs.lemmas.List.{take_all, length-drop}
use Rattle.std.specs.declared.cmp.Ordering.TheVariants.{Less, Equal, Greater}
use Rattle.column_values.specs.Order.{bytes_cmp}
use Rattle.column_values.proofs.WordOrder.{front_decides}
use Rattle.column_values.proofs.order.compare_long.Goals as goal

pub returns-in-Less : goal.returns-in-Less
returns-in-Less c =
    let seen = c.compare_words-from.ensures in
    front_decides _ c.args.a.now c.args.b.now _ Less seen.first seen.second seen.order c.in-Less.is

pub returns-in-Greater : goal.returns-in-Greater
returns-in-Greater c =
    let seen = c.compare_words-from.ensures in
    front_decides _ c.args.a.now c.args.b.now _ Greater seen.first seen.second seen.order c.in-Greater.is

-- what a slice from a place on has
rest_is : (i : ℕ) (xs : List ℕ) → take (length xs - i) (drop i xs) ≡ drop i xs
rest_is i xs = take_all (length xs - i) (drop i xs) (omega (arith, length-drop i xs))

pub returns-in-Equal : goal.returns-in-Equal
returns-in-Equal c =
    let seen = c.compare_words-from.ensures in
    let from = c.compare_words-from.result.0 in
    c.cmp.ensures ∙ (λ k. bytes_cmp (rest_is from c.args.a.now k) (rest_is from c.args.b.now k))
    ∙ front_decides _ c.args.a.now c.args.b.now _ Equal seen.first seen.second seen.order c.in-Equal.is
