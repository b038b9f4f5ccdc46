use Rattle.std.proofs.Common.{sym, ◌∙◌}
use Rattle.std.proofs.lemmas.Bool.{false≢true}
use Rattle.index_page.proofs.HeapNumbers.{free_list_exact, walk_of_free}
use Rattle.index_page.proofs.heap_numbers.has_free_list.Goals as goal

pub returns-then-has_free_walk : goal.returns-then-has_free_walk
returns-then-has_free_walk c =
    free_list_exact c.args.page.now _ _ _ _ c.requires.header c.requires.had
    (c.has_free_walk.ensures.0 c.if-has_free_walk.true) c.first_free.ensures.value c.free_count.ensures.value
    c.requires.marks
    c.mark_numbers.ensures.exact

pub returns-else-has_free_walk : goal.returns-else-has_free_walk
returns-else-has_free_walk c = (
  λ sound. absurd (false≢true (sym c.if-has_free_walk.false ∙ sound)),
  λ has. c.has_free_walk.ensures.1 (walk_of_free c.args.page.now has.list),
)
