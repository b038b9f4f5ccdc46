use Rattle.index_page.proofs.ChainWalk.{walk_of_chain}
use Rattle.index_page.proofs.HeapNumbers.{heap_numbers_exact}
use Rattle.index_page.proofs.heap_numbers.has_heap_numbers.Goals as goal

pub mark_numbers-requires-clause-origins : goal.mark_numbers-requires-clause-origins
mark_numbers-requires-clause-origins c =
    rw (c.next_origin.ensures.value, c.record_count.ensures.value)
    ((walk_of_chain c.args.page.now c.requires.chain).origins)

pub returns-clause-exact : goal.returns-clause-exact
returns-clause-exact c =
    heap_numbers_exact c.args.page.now _ _ _ _ c.next_origin.ensures.value c.record_count.ensures.value
    c.clear.ensures c.mark_numbers.ensures.exact
