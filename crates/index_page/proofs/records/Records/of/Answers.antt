use Rattle.std.proofs.Common.{◌∙◌, sym, arith}
use Rattle.compact_record.specs.Reading.{IsSpelled}
use Rattle.index_page.specs.Header.{first_record}
use Rattle.index_page.proofs.RecordWalk.{record_at_none, All_at_place}
use Rattle.index_page.proofs.ChainWalk.{chain_on_page, place_next}
use Rattle.index_page.proofs.ReadRecords.{read_none, read_more}
use Rattle.index_page.proofs.records.Records.of.Goals as goal

pub loop-init : goal.loop-init
loop-init c =
    let page = c.args.page.now in
    let place = c.next_origin-origin.ensures.value ∙ sym (record_at_none page (first_record page)) in
    record {
      place = place;
      inside = chain_on_page page _ _ _ c.record_count-end.ensures.value c.requires.header c.requires.chain place;
      read = read_none page c.args.fields.now (first_record page) _ c.new-items.ensures.items;
    }

pub loop-preserved : goal.loop-preserved
loop-preserved c =
    let page = c.args.page.now in
    let fields = c.args.fields.now in
    let first = first_record page in
    let place = place_next page first c.loop.counter _ _ c.loop.invariant.place
    c.next_origin-origin-in-loop.ensures.value in
    let spelled = All_at_place page (λ o. IsSpelled page o fields) first _ c.loop.counter _ c.requires.spelled
    c.loop.invariant.place (omega (arith, c.record_count-end.ensures)) in
    let reading = c.again.ensures.read (c.again.ensures.exact.1 spelled) in
    record {
      place = place;
      inside = chain_on_page page _ _ _ c.record_count-end.ensures.value c.requires.header c.requires.chain place;
      read = read_more page fields first c.loop.counter _ _ _ _ c.loop.invariant.place c.loop.invariant.read reading
          c.in_ok-push.ensures.items;
    }
