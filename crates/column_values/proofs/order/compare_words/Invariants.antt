use Rattle.std.proofs.Common.{◌≡◌, ◌*◌, take}
use Rattle.std.specs.declared.cmp.Ordering.TheVariants.{Equal}
use Rattle.column_values.specs.Order.{bytes_cmp}
use Rattle.column_values.proofs.order.compare_words.Given as goal

abbrev pub invariant-loop-word : goal.invariant-loop-word
invariant-loop-word l = bytes_cmp (take (8 * l.word) l.a) (take (8 * l.word) l.b) ≡ Equal
