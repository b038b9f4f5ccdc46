use Rattle.std.proofs.Common.{◌≡◌, length, sym, ap, ◌∙◌, arith}
use Rattle.page_packer.proofs.FinishSteps.{links_none, links_more, links_all, stands_there}
use Rattle.page_packer.proofs.packer.Packer.put_records.Goals as goal

pub put_bytes-requires : goal.put_bytes-requires
put_bytes-requires c =
    let top = c.top.ensures.value in
    let fits = c.top.ensures.fits in
    omega (arith, c.heap.ensures.size, top, fits)

pub loop-k-init : goal.loop-k-init
loop-k-init c =
    links_none c.args.self.now.records c.args.page.now c.put_bytes.new.self c.heap.result.now c.heap.ensures.value
    c.heap.ensures.size c.put_bytes.ensures

pub link_record-requires-clause-within : goal.link_record-requires-clause-within
link_record-requires-clause-within c =
    let count = c.count-k-end.ensures.value in
    omega (arith, count, c.loop-k-test.true)

pub link_record-requires-clause-stands : goal.link_record-requires-clause-stands
link_record-requires-clause-stands c =
    let records = c.args.self.now.records in
    let long : length c.args.page.now ≡ 16384 = ap length (sym c.bytes.ensures.same) ∙ c.bytes.ensures.size in
    let count = c.count-k-end.ensures.value in
    let top = c.top.ensures.value in
    let fits = c.top.ensures.fits in
    stands_there records c.args.page.now c.loop-k.page c.loop-k.k c.count-k-end.ensures.whole
    (omega (arith, count, c.loop-k-test.true)) (omega (arith, top, fits, long)) c.loop-k.invariant

pub loop-k-preserved : goal.loop-k-preserved
loop-k-preserved c =
    let records = c.args.self.now.records in
    let long : length c.args.page.now ≡ 16384 = ap length (sym c.bytes.ensures.same) ∙ c.bytes.ensures.size in
    let count = c.count-k-end.ensures.value in
    let top = c.top.ensures.value in
    let fits = c.top.ensures.fits in
    links_more records c.args.page.now c.loop-k.page c.link_record.new.page c.loop-k.k c.count-k-end.ensures.whole
    (omega (arith, count, c.loop-k-test.true)) (omega (arith, top, fits, long)) c.loop-k.invariant c.link_record.ensures

pub returns : goal.returns
returns c =
    let count = c.count-k-end.ensures.value in
    links_all c.args.self.now.records c.args.page.now c.loop-k.page c.loop-k.k
    (omega (arith, count, c.loop-k-test.false)) c.loop-k.invariant
