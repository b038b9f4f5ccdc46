use Rattle.std.proofs.Common.{sym, ◌∙◌}
use Rattle.std.proofs.lemmas.Bool.{false≢true}
use Rattle.compact_record.specs.Reading.{IsSpelled}
use Rattle.index_page.proofs.ChainWalk.{walk_of_chain}
use Rattle.index_page.proofs.HeapNumbers.{walk_of_free, both_lists, front_list}
use Rattle.index_page.proofs.spelling.heap_is_spelled.Goals as goal

pub are_spelled-requires-clause-origins : goal.are_spelled-requires-clause-origins
are_spelled-requires-clause-origins c =
    rw (c.next_origin.ensures.value, c.record_count.ensures.value)
    ((walk_of_chain c.args.page.now c.requires.chain).origins)

pub are_spelled-requires-then-are_spelled-clause-origins : goal.are_spelled-requires-then-are_spelled-clause-origins
are_spelled-requires-then-are_spelled-clause-origins c =
    rw (c.first_free.ensures.value, c.free_count.ensures.value)
    ((walk_of_free c.args.page.now c.requires.free.list).origins)

pub returns-then-are_spelled-clause-exact : goal.returns-then-are_spelled-clause-exact
returns-then-are_spelled-clause-exact c =
    let page = c.args.page.now in
    both_lists page (λ o. IsSpelled page o c.args.fields.now) _ _ _ _ _ c.next_origin.ensures.value
    c.record_count.ensures.value c.first_free.ensures.value c.free_count.ensures.value
    (c.are_spelled.ensures.exact.0 c.if-are_spelled.true) c.are_spelled-then-are_spelled.ensures.exact

pub returns-else-are_spelled-clause-exact : goal.returns-else-are_spelled-clause-exact
returns-else-are_spelled-clause-exact c =
    let page = c.args.page.now in (
      λ sound. absurd (false≢true (sym c.if-are_spelled.false ∙ sound)),
      front_list page (λ o. IsSpelled page o c.args.fields.now) _ _ _ c.next_origin.ensures.value
          c.record_count.ensures.value c.are_spelled.ensures.exact,
    )
