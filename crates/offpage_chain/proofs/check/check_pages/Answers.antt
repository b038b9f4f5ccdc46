use Rattle.std.proofs.Common.{refl, ℕ, List, ◌≤◌, ◌+◌, ◌-◌, ◌++◌, sym, ◌∙◌, subst, arith}
use Rattle.std.proofs.lemmas.Result.{err_from_is_err_and}
use Rattle.page_source.proofs.Told.{if_told, map_told, map_told2, map_told3}
use Rattle.column_values.specs.Utf8Reader.{CountsUpTo, IsFed}
use Rattle.space_audit.specs.Marks.{is_set}
use Rattle.space_audit.proofs.Marking.{marked_none}
use Rattle.offpage_chain.proofs.Feeds.{fed_none, fed_more, counts_more}
use Rattle.offpage_chain.proofs.Alongs.{IsAlong, walk_of, along_start, along_halts, along_more}
use Rattle.offpage_chain.proofs.Alongs.{along_holds, along_count, along_within, along_marked, along_fed}
use Rattle.offpage_chain.proofs.check.check_pages.Goals as goal

pub loop-due-init : goal.loop-due-init
loop-due-init g c =
    rw c.first-due.ensures
    record {
      same = refl;
      later = omega arith;
      asked = omega arith;
      members = refl;
      stays = λ n was. was;
      taken = omega arith;
      few = omega arith;
      marked = omega arith;
      counts = subst (λ (most : ℕ). CountsUpTo most c.args.text.now) (omega arith) c.requires.count;
      told = if_told (g.S.PageSource.content c.args.source.now)
          (λ file. along_start (walk_of file c.args.chain.now c.args.marks.now)
          c.args.marks.now c.args.text.now (fed_none c.args.text.now) (marked_none c.args.marks.now));
    }

pub returns-in_err-length-clause-exact : goal.returns-in_err-length-clause-exact
returns-in_err-length-clause-exact g c =
    let r = err_from_is_err_and c.from_residual.result c.from_residual.ensures.1 in
    let check = rw c.loop-due.invariant.same at c.in_err-length.ensures.exact in
    rw (r.1, r.2) (map_told2 (g.S.PageSource.content c.args.source.now)
    (λ file along check. along_halts (walk_of file c.args.chain.now c.args.marks.now)
    c.loop-due.marks c.args.text.now c.loop-due.text c.loop-due.due c.loop-due.count c.in_err-length.field-0.0 along
    c.loop-due-test.true check)
    c.loop-due.invariant.told check)

pub returns-in_err-length-clause-steps_if_told : goal.returns-in_err-length-clause-steps_if_told
returns-in_err-length-clause-steps_if_told g c =
    map_told (g.S.PageSource.content c.args.source.now)
    (λ file along.
    let within = along_within (walk_of file c.args.chain.now c.args.marks.now)
    c.loop-due.marks c.args.text.now c.loop-due.text c.loop-due.due c.loop-due.count along c.loop-due-test.true in
    omega (arith, within, c.loop-due.invariant.taken, c.check_page.ensures.cost))
    c.loop-due.invariant.told

pub loop-due-preserved : goal.loop-due-preserved
loop-due-preserved g c =
    let inv = c.loop-due.invariant in
    let exact = rw inv.same at c.in_ok-length.ensures.exact in
    let bytes = rw inv.same at c.in_ok-length.ensures.page in
    let part = c.in_ok-length.ensures.part in
    let few : c.in_ok-length.length ≤ c.loop-due.due.left = omega (arith, part.0, part.1.within) in
    record {
      same = c.check_page.ensures.over.same ∙ inv.same;
      later = omega (arith, inv.later, c.check_page.ensures.over.cause.later);
      asked = omega (arith, inv.asked, c.check_page.ensures.over.asked);
      members = c.mark.ensures.members ∙ inv.members;
      stays = λ n was. c.mark.ensures.stays n (inv.stays n was);
      taken = omega (arith, inv.taken, c.in_ok-length.ensures.step);
      few = omega (arith, inv.few, few, part.1.part.0, part.0);
      marked = omega (arith, inv.marked, c.mark.ensures.fewer c.in_ok-length.ensures.new);
      counts =
          let whole = c.args.chain.now.reference.now.length in
          counts_more c.feed.new.self whole c.loop-due.due.left c.in_ok-length.length (omega (arith, inv.few)) few
          (subst (λ (n : ℕ). CountsUpTo (16384 + (whole - c.loop-due.due.left) + n) c.feed.new.self)
          (c.part_bytes.ensures.length ∙ sym part.0)
          (c.feed.ensures.counts (16384 + (whole - c.loop-due.due.left)) inv.counts));
      told = map_told3 (g.S.PageSource.content c.args.source.now)
          (λ file along check here.
          subst (λ (n : ℕ). IsAlong (walk_of file c.args.chain.now c.args.marks.now)
          c.mark.new.self c.args.text.now c.feed.new.self
          (record { page = n; holder = c.loop-due.due.page; left = c.loop-due.due.left - c.in_ok-length.length })
          (c.loop-due.count + 1)) (sym c.next_part.ensures)
          (along_more (walk_of file c.args.chain.now c.args.marks.now)
          c.loop-due.marks c.mark.new.self c.args.text.now c.loop-due.text c.feed.new.self c.loop-due.due
          c.loop-due.count c.in_ok-length.length c.check_page.new.page along c.loop-due-test.true check
          here part.0 part.1
          (c.mark.ensures.more (is_set c.args.marks.now))
          (λ before fed. subst (λ (b : List ℕ). IsFed c.args.text.now c.feed.new.self
          (before ++ b)) c.part_bytes.ensures.bytes
          (fed_more c.args.text.now c.loop-due.text c.feed.new.self before c.part_bytes.result.now fed
          c.feed.ensures.feeds))))
          inv.told exact bytes;
    }

pub returns-clause-exact : goal.returns-clause-exact
returns-clause-exact g c =
    map_told (g.S.PageSource.content c.args.source.now)
    (λ file along. along_holds (walk_of file c.args.chain.now c.args.marks.now)
    c.loop-due.marks c.args.text.now c.loop-due.text c.loop-due.due c.loop-due.count
    (omega (arith, c.loop-due-test.false)) along)
    c.loop-due.invariant.told

pub returns-clause-count : goal.returns-clause-count
returns-clause-count g c =
    map_told (g.S.PageSource.content c.args.source.now)
    (λ file along. along_count (walk_of file c.args.chain.now c.args.marks.now)
    c.loop-due.marks c.args.text.now c.loop-due.text c.loop-due.due c.loop-due.count
    (omega (arith, c.loop-due-test.false)) along)
    c.loop-due.invariant.told

pub returns-clause-steps_if_told : goal.returns-clause-steps_if_told
returns-clause-steps_if_told g c =
    map_told (g.S.PageSource.content c.args.source.now)
    (λ file along.
    let count = along_count (walk_of file c.args.chain.now c.args.marks.now)
    c.loop-due.marks c.args.text.now c.loop-due.text c.loop-due.due c.loop-due.count
    (omega (arith, c.loop-due-test.false)) along in
    omega (arith, count, c.loop-due.invariant.taken))
    c.loop-due.invariant.told

pub returns-clause-grew : goal.returns-clause-grew
returns-clause-grew g c =
    map_told (g.S.PageSource.content c.args.source.now)
    (λ file along. along_marked (walk_of file c.args.chain.now c.args.marks.now)
    c.loop-due.marks c.args.text.now c.loop-due.text c.loop-due.due c.loop-due.count
    (omega (arith, c.loop-due-test.false)) along)
    c.loop-due.invariant.told

pub returns-clause-fed : goal.returns-clause-fed
returns-clause-fed g c =
    map_told (g.S.PageSource.content c.args.source.now)
    (λ file along. along_fed (walk_of file c.args.chain.now c.args.marks.now)
    c.loop-due.marks c.args.text.now c.loop-due.text c.loop-due.due c.loop-due.count
    (omega (arith, c.loop-due-test.false)) along)
    c.loop-due.invariant.told
