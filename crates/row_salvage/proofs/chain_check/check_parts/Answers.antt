use Rattle.std.proofs.Common.{◌≤◌, ◌++◌, ◌+◌, ◌-◌, ℕ, List, refl, sym, ◌∙◌, subst, arith}
use Rattle.std.proofs.lemmas.Bool.{iff_false}
use Rattle.std.proofs.lemmas.Result.{err_from_is_err_and}
use Rattle.page_source.proofs.Told.{if_told, map_told, map_told2, map_told3}
use Rattle.column_values.specs.Utf8Reader.{CountsUpTo, IsFed, TakesText}
use Rattle.space_audit.specs.Marks.{is_set}
use Rattle.offpage_chain.proofs.Feeds.{fed_none, fed_more, counts_more}
use Rattle.offpage_chain.proofs.Stages.{text_says}
use Rattle.salvage_model.specs.declared.loss.Loss.TheVariants.{Broken}
use Rattle.row_salvage.proofs.AlongChain.{walk_of, IsReached, reached_start, reached_more, reached_end}
use Rattle.row_salvage.proofs.ChainVerdict.{parts_empty, parts_elsewhere}
use Rattle.row_salvage.proofs.ChainAnswers.{answer_early, answer_break, answer_untold, answer_whole}
use Rattle.row_salvage.proofs.chain_check.check_parts.Goals as goal
use Rattle.row_salvage.proofs.chain_check.check_parts.Goals.{then-reference-chain-via-then-reference-chain}
use Rattle.row_salvage.proofs.chain_check.check_parts.Goals.{then-reference-chain-via-else-reference-chain+then-reference-ne-PART_HEADER}
use Rattle.row_salvage.proofs.chain_check.check_parts.Goals.{}

pub returns-then-reference-eq0-clause-answers : goal.returns-then-reference-eq0-clause-answers
returns-then-reference-eq0-clause-answers g c =
    let chain = c.args.chain in
    let marks = c.args.marks.now in
    if_told (g.S.PageSource.content c.args.source.now)
    (λ file fed was. answer_early (walk_of file chain marks) (λ bytes. TakesText c.args.text.now (fed ++ bytes))
    (g.S.PageSource.faults c.args.source.now) (Broken c.at.result)
    (λ missed. parts_empty file missed chain.space chain.leaf chain.reference (is_set marks)
    (λ bytes. TakesText c.args.text.now (fed ++ bytes)) c.at.result c.if-reference-eq0.true c.at.ensures))

pub returns-then-reference-chain-clause-answers : goal.returns-then-reference-chain-clause-answers
returns-then-reference-chain-clause-answers g c =
    let chain = c.args.chain in
    let marks = c.args.marks.now in
    let some : 1 ≤ chain.reference.length = omega (arith, c.if-reference-eq0.false) in
    elim c.then-reference-chain.branch [
      | then-reference-chain-via-then-reference-chain w ↦
          if_told (g.S.PageSource.content c.args.source.now)
          (λ file fed was. answer_early (walk_of file chain marks) (λ bytes. TakesText c.args.text.now (fed ++ bytes))
          (g.S.PageSource.faults c.args.source.now) (Broken c.at-then-reference-chain.result)
          (λ missed. parts_elsewhere file missed chain.space chain.leaf chain.reference (is_set marks)
          (λ bytes. TakesText c.args.text.now (fed ++ bytes)) some c.at-then-reference-chain.result
          (λ refers. w.if-reference-chain.true refers.has_space) c.at-then-reference-chain.ensures))
      | then-reference-chain-via-else-reference-chain+then-reference-ne-PART_HEADER w ↦
          if_told (g.S.PageSource.content c.args.source.now)
          (λ file fed was. answer_early (walk_of file chain marks) (λ bytes. TakesText c.args.text.now (fed ++ bytes))
          (g.S.PageSource.faults c.args.source.now) (Broken c.at-then-reference-chain.result)
          (λ missed. parts_elsewhere file missed chain.space chain.leaf chain.reference (is_set marks)
          (λ bytes. TakesText c.args.text.now (fed ++ bytes)) some c.at-then-reference-chain.result
          (λ refers. w.if-reference-ne-PART_HEADER.true refers.has_offset) c.at-then-reference-chain.ensures))
    ]

pub loop-due-init : goal.loop-due-init
loop-due-init g c =
    record {
      same = refl;
      later = omega arith;
      asked = omega arith;
      members = refl;
      spent = omega arith;
      few = omega arith;
      marked = omega arith;
      counts = subst (λ (most : ℕ). CountsUpTo most c.args.text.now) (omega arith) c.requires.count;
      told = if_told (g.S.PageSource.content c.args.source.now)
          (λ file. reached_start (walk_of file c.args.chain c.args.marks.now) c.args.text.now
          (g.S.PageSource.faults c.args.source.now) (fed_none c.args.text.now));
    }

pub returns-in_err-length-clause-answers : goal.returns-in_err-length-clause-answers
returns-in_err-length-clause-answers g c =
    let i = c.loop-due.invariant in
    let chain = c.args.chain in
    let marks = c.args.marks.now in
    let r = err_from_is_err_and c.from_residual.result c.from_residual.ensures.1 in
    let check = rw i.same at c.in_err-length.ensures.answers in
    rw (r.1, r.2) (map_told2 (g.S.PageSource.content c.args.source.now)
    (λ file reached check fed was. answer_break (walk_of file chain marks)
    (λ bytes. TakesText c.args.text.now (fed ++ bytes)) (omega (arith, c.if-reference-eq0.false))
    (record { has_space = c.if-reference-chain.false; has_offset = c.if-reference-ne-PART_HEADER.false })
    c.loop-due.marks c.check_part.new.marks c.args.text.now c.loop-due.text c.loop-due.due c.loop-due.count
    (g.S.PageSource.faults c.args.source.now) (g.S.PageSource.faults c.loop-due.source)
    (g.S.PageSource.faults c.check_part.new.source) c.in_err-length.field-0.0 reached c.loop-due-test.true check
    c.check_part.ensures.marked)
    i.told check)

pub loop-due-preserved : goal.loop-due-preserved
loop-due-preserved g c =
    let i = c.loop-due.invariant in
    let answers = rw i.same at c.in_ok-length.ensures.answers in
    let bytes = rw i.same at c.in_ok-length.ensures.page in
    let part = c.in_ok-length.ensures.part in
    let few : c.in_ok-length.length ≤ c.loop-due.due.left = omega (arith, part.0, part.1.within) in
    record {
      same = c.check_part.ensures.over.same ∙ i.same;
      later = omega (arith, i.later, c.check_part.ensures.over.later);
      asked = omega (arith, i.asked, c.check_part.ensures.over.asked);
      members = c.check_part.ensures.over.members ∙ i.members;
      spent = omega (arith, i.spent, c.check_part.ensures.over.cost);
      few = omega (arith, i.few, few, part.1.part.0, part.0);
      marked = omega (arith, i.marked, c.in_ok-length.ensures.fewer);
      counts =
          let whole = c.args.chain.reference.length in
          counts_more c.feed.new.self whole c.loop-due.due.left c.in_ok-length.length (omega (arith, i.few)) few
          (subst (λ (n : ℕ). CountsUpTo (16384 + (whole - c.loop-due.due.left) + n) c.feed.new.self)
          (c.part_bytes.ensures.length ∙ sym part.0)
          (c.feed.ensures.counts (16384 + (whole - c.loop-due.due.left)) i.counts));
      told = map_told3 (g.S.PageSource.content c.args.source.now)
          (λ file reached check here.
          subst (λ (n : ℕ). IsReached (walk_of file c.args.chain c.args.marks.now)
          c.check_part.new.marks c.args.text.now c.feed.new.self
          (record { page = n; holder = c.loop-due.due.page; left = c.loop-due.due.left - c.in_ok-length.length })
          (c.loop-due.count + 1) (g.S.PageSource.faults c.args.source.now)
          (g.S.PageSource.faults c.check_part.new.source)) (sym c.next_part.ensures)
          (reached_more (walk_of file c.args.chain c.args.marks.now)
          c.loop-due.marks c.check_part.new.marks c.args.text.now c.loop-due.text c.feed.new.self c.loop-due.due
          c.loop-due.count c.in_ok-length.length (g.S.PageSource.faults c.args.source.now)
          (g.S.PageSource.faults c.loop-due.source) (g.S.PageSource.faults c.check_part.new.source)
          c.check_part.new.page reached c.loop-due-test.true check here part.0 part.1
          c.in_ok-length.ensures.newly c.check_part.ensures.marked
          (λ before fed. subst (λ (b : List ℕ). IsFed c.args.text.now c.feed.new.self
          (before ++ b)) c.part_bytes.ensures.bytes
          (fed_more c.args.text.now c.loop-due.text c.feed.new.self before c.part_bytes.result.now fed
          c.feed.ensures.feeds))))
          i.told answers bytes;
    }

pub returns-then-not-is_text-clause-answers : goal.returns-then-not-is_text-clause-answers
returns-then-not-is_text-clause-answers g c =
    let f = g.S.PageSource.faults c.args.source.now in
    let h = g.S.PageSource.faults c.loop-due.source in
    map_told (g.S.PageSource.content c.args.source.now)
    (λ file reached fed was.
    let w = walk_of file c.args.chain c.args.marks.now in
    let passed = reached_end w c.loop-due.marks c.args.text.now c.loop-due.text c.loop-due.due c.loop-due.count f h
    (omega (arith, c.loop-due-test.false)) reached in
    answer_untold w (λ bytes. TakesText c.args.text.now (fed ++ bytes)) (omega (arith, c.if-reference-eq0.false))
    (record { has_space = c.if-reference-chain.false; has_offset = c.if-reference-ne-PART_HEADER.false })
    c.loop-due.marks c.args.text.now c.loop-due.text c.loop-due.count f h c.at-then-not-is_text.result passed
    (iff_false (text_says c.args.text.now c.loop-due.text fed _ c.is_text.result passed.fed was c.is_text.ensures.text)
    c.if-not-is_text.true) c.at-then-not-is_text.ensures)
    c.loop-due.invariant.told

pub returns-clause-answers : goal.returns-clause-answers
returns-clause-answers g c =
    let f = g.S.PageSource.faults c.args.source.now in
    let h = g.S.PageSource.faults c.loop-due.source in
    map_told (g.S.PageSource.content c.args.source.now)
    (λ file reached fed was.
    let w = walk_of file c.args.chain c.args.marks.now in
    let passed = reached_end w c.loop-due.marks c.args.text.now c.loop-due.text c.loop-due.due c.loop-due.count f h
    (omega (arith, c.loop-due-test.false)) reached in
    answer_whole w (λ bytes. TakesText c.args.text.now (fed ++ bytes)) (omega (arith, c.if-reference-eq0.false))
    (record { has_space = c.if-reference-chain.false; has_offset = c.if-reference-ne-PART_HEADER.false })
    c.loop-due.marks c.args.text.now c.loop-due.text c.loop-due.count f h passed
    ((text_says c.args.text.now c.loop-due.text fed _ c.is_text.result passed.fed was c.is_text.ensures.text).0
    c.if-not-is_text.false))
    c.loop-due.invariant.told

pub returns-clause-count : goal.returns-clause-count
returns-clause-count g c =
    map_told (g.S.PageSource.content c.args.source.now)
    (λ file reached. (reached_end (walk_of file c.args.chain c.args.marks.now) c.loop-due.marks c.args.text.now
    c.loop-due.text c.loop-due.due c.loop-due.count (g.S.PageSource.faults c.args.source.now)
    (g.S.PageSource.faults c.loop-due.source) (omega (arith, c.loop-due-test.false)) reached).counted)
    c.loop-due.invariant.told
