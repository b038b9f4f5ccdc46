use Rattle.std.proofs.Common.{◌≡◌, ◌+◌, ◌-◌, ◌*◌, true, refl, ◌∙◌, arith}
use Rattle.index_page.specs.Header.{first_record}
use Rattle.index_page.specs.Marks.{bits_of}
use Rattle.index_page.proofs.ChainWalk.{chain_on_page, place_next}
use Rattle.index_page.proofs.PassSteps.{AllPass, pass_start, pass_next, pass_end}
use Rattle.index_page.proofs.pass.chain_passes.Goals as goal

pub loop-pair-init : goal.loop-pair-init
loop-pair-init c =
    record {
      so = pass_start c.args.page.now c.args.fields.now c.args.leaf c.args.lowest_first _ c.args.low.now _ _ 0 refl
          c.clear.ensures c.next_origin-origin.ensures.value;
      low = refl;
      high = refl;
    }

pub record_passes-requires-clause-origin : goal.record_passes-requires-clause-origin
record_passes-requires-clause-origin c =
    let n = c.record_count-count.ensures.value in
    chain_on_page c.args.page.now c.record_count-count.result (2 * c.loop-pair.pair) _ n c.requires.header
    c.requires.chain c.loop-pair.invariant.so.place (omega arith)

pub next_origin-origin-requires-in-loop-pair : goal.next_origin-origin-requires-in-loop-pair
next_origin-origin-requires-in-loop-pair c =
    let n = c.record_count-count.ensures.value in
    let here = chain_on_page c.args.page.now c.record_count-count.result (2 * c.loop-pair.pair) _ n c.requires.header
    c.requires.chain c.loop-pair.invariant.so.place (omega arith) in
    (omega (arith, here.0), here.1)

pub record_passes-requires-in-loop-pair-clause-origin : goal.record_passes-requires-in-loop-pair-clause-origin
record_passes-requires-in-loop-pair-clause-origin c =
    let n = c.record_count-count.ensures.value in
    let place = place_next c.args.page.now (first_record c.args.page.now) (2 * c.loop-pair.pair) _ _
    c.loop-pair.invariant.so.place c.next_origin-origin-in-loop-pair.ensures.value in
    chain_on_page c.args.page.now c.record_count-count.result (2 * c.loop-pair.pair + 1) _ n c.requires.header
    c.requires.chain place (omega arith)

pub loop-pair-preserved : goal.loop-pair-preserved
loop-pair-preserved c =
    let page = c.args.page.now in
    let fields = c.args.fields.now in
    let leaf = c.args.leaf in
    let lowest = c.args.lowest_first in
    let i = 2 * c.loop-pair.pair in
    let first = c.record_passes.ensures in
    let passed = c.if-not-record_passes.false in
    let second = c.record_passes-in-loop-pair.ensures in
    let passed' = c.if-not-record_passes-2.false in
    let one = pass_next page fields leaf lowest _ _ _ _ _ _ c.record_count-count.result i (i + 1) refl (omega arith)
    c.next_origin-origin-in-loop-pair.ensures.value (record {
      kind = first.kind passed;
      spelled = first.spelled passed;
      read = first.read passed;
      stands = first.stands passed;
      free = first.free passed;
      marks = first.marks passed;
      rise = first.rise passed;
    }) c.loop-pair.invariant.so in
    let two = pass_next page fields leaf lowest _ _ _ _ _ _ c.record_count-count.result (i + 1)
    (2 * (c.loop-pair.pair + 1)) (omega arith) (omega arith) c.next_origin-origin-in-loop-pair-2.ensures.value (record {
      kind = second.kind passed';
      spelled = second.spelled passed';
      read = second.read passed';
      stands = second.stands passed';
      free = second.free passed';
      marks = second.marks passed';
      rise = second.rise passed';
    }) one in
    record {
      so = two;
      low = second.members ∙ c.loop-pair.invariant.low;
      high = first.members ∙ c.loop-pair.invariant.high;
    }

pub record_passes-requires-2-clause-origin : goal.record_passes-requires-2-clause-origin
record_passes-requires-2-clause-origin c =
    let n = c.record_count-count.ensures.value in
    chain_on_page c.args.page.now c.record_count-count.result (2 * c.loop-pair.pair) _ n c.requires.header
    c.requires.chain c.loop-pair.invariant.so.place (omega arith)

pub returns-then-count-eq0-clause-kinds : goal.returns-then-count-eq0-clause-kinds
returns-then-count-eq0-clause-kinds c = λ _. (pass_end c.args.page.now _ _ _ _ _ _ _ _
    c.record_count-count.ensures.value (omega arith) c.loop-pair.invariant.so).kinds

pub returns-then-count-eq0-clause-spelled : goal.returns-then-count-eq0-clause-spelled
returns-then-count-eq0-clause-spelled c = λ _. (pass_end c.args.page.now _ _ _ _ _ _ _ _
    c.record_count-count.ensures.value (omega arith) c.loop-pair.invariant.so).spelled

pub returns-then-count-eq0-clause-free : goal.returns-then-count-eq0-clause-free
returns-then-count-eq0-clause-free c = λ _. (pass_end c.args.page.now _ _ _ _ _ _ _ _
    c.record_count-count.ensures.value (omega arith) c.loop-pair.invariant.so).free

pub returns-then-count-eq0-clause-marks : goal.returns-then-count-eq0-clause-marks
returns-then-count-eq0-clause-marks c = λ _. (pass_end c.args.page.now _ _ _ _ _ _ _ _
    c.record_count-count.ensures.value (omega arith) c.loop-pair.invariant.so).marks

pub returns-then-count-eq0-clause-rise : goal.returns-then-count-eq0-clause-rise
returns-then-count-eq0-clause-rise c = λ _. (pass_end c.args.page.now _ _ _ _ _ _ _ _
    c.record_count-count.ensures.value (omega arith) c.loop-pair.invariant.so).rise

all_pass : (c : goal.After-record_passes-2) → c.record_passes-2.result ≡ true
    → AllPass c.args.page.now c.args.fields.now c.args.leaf c.args.lowest_first (bits_of c.record_passes-2.new.bytes)
all_pass c passed =
    let page = c.args.page.now in
    let fields = c.args.fields.now in
    let i = 2 * c.loop-pair.pair in
    let last = c.record_passes-2.ensures in
    let e : c.record_count-count.result - 1 ≡ i = omega arith in
    let more = pass_next page fields c.args.leaf c.args.lowest_first _ _ _ _ _ _ c.record_count-count.result i (i + 1)
    refl (omega arith) refl (record {
      kind = last.kind passed;
      spelled = last.spelled passed;
      read = last.read passed;
      stands = last.stands passed;
      free = last.free passed;
      marks = last.marks passed;
      rise = rw e at (last.rise passed);
    }) c.loop-pair.invariant.so in
    pass_end page fields c.args.leaf c.args.lowest_first _ _ _ c.record_count-count.result (i + 1)
    c.record_count-count.ensures.value (omega arith) more

pub returns-clause-kinds : goal.returns-clause-kinds
returns-clause-kinds c = λ t. (all_pass c t).kinds

pub returns-clause-spelled : goal.returns-clause-spelled
returns-clause-spelled c = λ t. (all_pass c t).spelled

pub returns-clause-free : goal.returns-clause-free
returns-clause-free c = λ t. (all_pass c t).free

pub returns-clause-marks : goal.returns-clause-marks
returns-clause-marks c = λ t. (all_pass c t).marks

pub returns-clause-rise : goal.returns-clause-rise
returns-clause-rise c = λ t. (all_pass c t).rise
