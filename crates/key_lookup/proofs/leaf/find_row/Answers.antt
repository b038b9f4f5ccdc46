use Rattle.std.proofs.Common.{◌<◌, ℕ, List, get_or, sym, ap, ◌∙◌, subst, arith}
use Rattle.index_page.specs.Header.{records_of, record_count}
use Rattle.tree_walk.specs.Records.{IsRecord}
use Rattle.tree_walk.proofs.Records.{record_at, passed_more, passed_behind}
use Rattle.key_lookup.proofs.Down.{held_by}
use Rattle.key_lookup.proofs.Found.{found_here, found_none, none_more}
use Rattle.key_lookup.proofs.leaf.find_row.Goals as goal

pub again-requires-clause-origin : goal.again-requires-clause-origin
again-requires-clause-origin c =
    let within : c.loop-i.i < record_count c.args.page.now =
    omega (arith, c.loop-i-test.true, c.record_count-i-end.ensures.value) in
    let at = c.next_origin-at.ensures.value ∙ passed_more c.args.page.now c.loop-i.i c.loop-i.at within
    c.loop-i.invariant.passed in
    let is = record_at c.args.page.now c.args.fields.now c.loop-i.i c.requires.facts within in
    rw at (is.least, is.most)

pub is_sought-requires-clause-held : goal.is_sought-requires-clause-held
is_sought-requires-clause-held c =
    let within : c.loop-i.i < record_count c.args.page.now =
    omega (arith, c.loop-i-test.true, c.record_count-i-end.ensures.value) in
    let at = c.next_origin-at.ensures.value ∙ passed_more c.args.page.now c.loop-i.i c.loop-i.at within
    c.loop-i.invariant.passed in
    let is = subst (λ (o : ℕ). IsRecord c.args.page.now c.args.fields.now o) (sym at)
    (record_at c.args.page.now c.args.fields.now c.loop-i.i c.requires.facts within) in
    held_by c.args.page.now c.args.fields.now c.next_origin-at.result c.again.new.self c.again.result is
    c.again.ensures.exact.1 c.again.ensures.read

pub returns-then-is_sought-clause-exact : goal.returns-then-is_sought-clause-exact
returns-then-is_sought-clause-exact c = λ index n p f.
    let within : c.loop-i.i < record_count c.args.page.now =
    omega (arith, c.loop-i-test.true, c.record_count-i-end.ensures.value) in
    let at = c.next_origin-at.ensures.value ∙ passed_more c.args.page.now c.loop-i.i c.loop-i.at within
    c.loop-i.invariant.passed ∙ ap (λ (q : List ℕ). get_or (records_of q) c.loop-i.i 0) p in
    found_here index c.args.key.now n c.loop-i.i c.next_origin-at.result (c.loop-i.invariant.none index n p f)
    (omega (arith, within, ap (λ (q : List ℕ). record_count q) p)) at
    (sym (c.is_sought.ensures index n p f) ∙ c.if-is_sought.true)

pub loop-i-preserved : goal.loop-i-preserved
loop-i-preserved c =
    let within : c.loop-i.i < record_count c.args.page.now =
    omega (arith, c.loop-i-test.true, c.record_count-i-end.ensures.value) in
    let at = c.next_origin-at.ensures.value ∙ passed_more c.args.page.now c.loop-i.i c.loop-i.at within
    c.loop-i.invariant.passed in
    record {
      passed = passed_behind c.args.page.now c.loop-i.i c.next_origin-at.result at;
      none = λ index n p f. none_more index c.args.key.now n c.loop-i.i c.next_origin-at.result
          (c.loop-i.invariant.none index n p f) (at ∙ ap (λ (q : List ℕ). get_or (records_of q) c.loop-i.i 0) p)
          (sym (c.is_sought.ensures index n p f) ∙ c.if-is_sought.false);
      members = c.again.ensures.members ∙ c.loop-i.invariant.members;
    }

pub returns-clause-exact : goal.returns-clause-exact
returns-clause-exact c = λ index n p f.
    found_none index c.args.key.now n c.loop-i.i
    (omega (arith, c.loop-i-test.false, c.record_count-i-end.ensures.value, ap (λ (q : List ℕ). record_count q) p))
    (c.loop-i.invariant.none index n p f)

pub returns-then-is_sought-clause-record : goal.returns-then-is_sought-clause-record
returns-then-is_sought-clause-record c =
    let within : c.loop-i.i < record_count c.args.page.now =
    omega (arith, c.loop-i-test.true, c.record_count-i-end.ensures.value) in
    let at = c.next_origin-at.ensures.value ∙ passed_more c.args.page.now c.loop-i.i c.loop-i.at within
    c.loop-i.invariant.passed in
    subst (λ (o : ℕ). IsRecord c.args.page.now c.args.fields.now o) (sym at)
    (record_at c.args.page.now c.args.fields.now c.loop-i.i c.requires.facts within)
