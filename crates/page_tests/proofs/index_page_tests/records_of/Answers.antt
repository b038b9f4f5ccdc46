use Rattle.std.proofs.Common.{[], refl}
use Rattle.compact_record.specs.Reading.{IsSpelled}
use Rattle.index_page.specs.Header.{records_of}
use Rattle.index_page.proofs.RecordWalk.{All-front}
use Rattle.page_tests.proofs.index_page_tests.records_of.Goals as goal

pub of-requires-clause-spelled : goal.of-requires-clause-spelled
of-requires-clause-spelled c =
    let page = c.args.page.now in
    let is = c.in_default.ensures refl in
    All-front (λ o. IsSpelled page o c.args.fields.now) (records_of page) is.free is.spelled
