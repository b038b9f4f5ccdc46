use Rattle.std.proofs.Common.{sym, ◌∙◌}
use Rattle.std.proofs.lemmas.Bool.{false≢true}
use Rattle.compact_record.specs.Reading.{IsSpelled}
use Rattle.index_page.specs.Header.{records_of, free_of}
use Rattle.index_page.proofs.RecordWalk.{All-front, All-back}
use Rattle.index_page.proofs.ChainWalk.{walk_of_chain}
use Rattle.index_page.proofs.HeapNumbers.{walk_of_free}
use Rattle.index_page.proofs.RoomMarks.{room_exact, room_broken}
use Rattle.index_page.proofs.room.have_room.Goals as goal

pub mark_records-requires-clause-origins : goal.mark_records-requires-clause-origins
mark_records-requires-clause-origins c =
    rw (c.next_origin.ensures.value, c.record_count.ensures.value)
    ((walk_of_chain c.args.page.now c.requires.chain).origins)

pub mark_records-requires-clause-spelled : goal.mark_records-requires-clause-spelled
mark_records-requires-clause-spelled c =
    let page = c.args.page.now in
    rw (c.next_origin.ensures.value, c.record_count.ensures.value)
    (All-front (λ o. IsSpelled page o c.args.fields.now) (records_of page) (free_of page) c.requires.spelled)

pub mark_records-requires-then-mark_records-clause-origins :
    goal.mark_records-requires-then-mark_records-clause-origins
mark_records-requires-then-mark_records-clause-origins c =
    rw (c.first_free.ensures.value, c.free_count.ensures.value)
    ((walk_of_free c.args.page.now c.requires.free.list).origins)

pub mark_records-requires-then-mark_records-clause-spelled :
    goal.mark_records-requires-then-mark_records-clause-spelled
mark_records-requires-then-mark_records-clause-spelled c =
    let page = c.args.page.now in
    rw (c.first_free.ensures.value, c.free_count.ensures.value)
    (All-back (λ o. IsSpelled page o c.args.fields.now) (records_of page) (free_of page) c.requires.spelled)

pub returns-then-mark_records-clause-exact : goal.returns-then-mark_records-clause-exact
returns-then-mark_records-clause-exact c =
    room_exact c.args.page.now c.args.fields.now _ _ _ _ _ _ _ c.requires.spelled c.next_origin.ensures.value
    c.record_count.ensures.value c.first_free.ensures.value c.free_count.ensures.value
    c.clear.ensures (c.mark_records.ensures.marks c.if-mark_records.true)
    (c.mark_records.ensures.exact.0 c.if-mark_records.true) c.mark_records-then-mark_records.ensures.exact

pub returns-else-mark_records-clause-exact : goal.returns-else-mark_records-clause-exact
returns-else-mark_records-clause-exact c = (
  λ sound. absurd (false≢true (sym c.if-mark_records.false ∙ sound)),
  room_broken c.args.page.now c.args.fields.now _ _ _ _ c.requires.spelled c.next_origin.ensures.value
      c.record_count.ensures.value c.clear.ensures c.mark_records.ensures.exact,
)
