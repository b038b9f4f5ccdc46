use Rattle.std.proofs.Common.{ℕ}
use Rattle.std.proofs.lemmas.List.Elements.{All-append}
use Rattle.compact_record.specs.Reading.{IsSpelled}
use Rattle.index_page.specs.Header.{records_of, free_of, heap_of}
use Rattle.index_page.specs.Marks.{none_seen, LiesFree, with_record}
use Rattle.index_page.proofs.HeapNumbers.{walk_of_free}
use Rattle.index_page.proofs.RoomMarks.{apart_of_turns}
use Rattle.index_page.proofs.Turns.{PassInTurn-append}
use Rattle.index_page.proofs.pass.pass.Goals as goal

pub are_spelled-requires-clause-origins : goal.are_spelled-requires-clause-origins
are_spelled-requires-clause-origins c =
    rw (c.first_free-first.ensures.value, c.free_count-count.ensures.value)
    ((walk_of_free c.args.page.now c.requires.free.list).origins)

pub mark_records-requires-clause-origins : goal.mark_records-requires-clause-origins
mark_records-requires-clause-origins c =
    rw (c.first_free-first.ensures.value, c.free_count-count.ensures.value)
    ((walk_of_free c.args.page.now c.requires.free.list).origins)

pub returns-then-are_spelled-clause-spelled : goal.returns-then-are_spelled-clause-spelled
returns-then-are_spelled-clause-spelled c = λ _.
    let page = c.args.page.now in
    let P : ℕ → Type 0 = λ o. IsSpelled page o c.args.fields.now in
    let free = rw (c.first_free-first.ensures.value, c.free_count-count.ensures.value) at
    (c.are_spelled.ensures.exact.0 c.if-are_spelled.true) in
    All-append P (records_of page) (free_of page) (c.chain_passes.ensures.spelled c.if-not-chain_passes.false) free

pub returns-then-are_spelled-clause-apart : goal.returns-then-are_spelled-clause-apart
returns-then-are_spelled-clause-apart c = λ t.
    let page = c.args.page.now in
    let fields = c.args.fields.now in
    let passed = c.if-not-chain_passes.false in
    let free = rw (
      c.chain_passes.ensures.marks passed,
      c.first_free-first.ensures.value,
      c.free_count-count.ensures.value,
    ) at
    (c.mark_records.ensures.exact.0 t) in
    let both = PassInTurn-append (LiesFree page fields) (with_record page fields) none_seen (records_of page)
    (free_of page) in
    (apart_of_turns page fields (heap_of page) (returns-then-are_spelled-clause-spelled c t)).0
    (both.1 (c.chain_passes.ensures.free passed, free))
