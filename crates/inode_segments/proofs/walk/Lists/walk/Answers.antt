use Rattle.std.proofs.Common.{◌++◌, true, not, length, length-set, append-nil, refl, sym, subst, ◌∙◌, ap, arith}
use Rattle.std.proofs.lemmas.List.Sums.{count_by-le-length}
use Rattle.std.proofs.lemmas.Result.{err_from_is_err_and}
use Rattle.std.proofs.lemmas.Bool.{false≢true}
use Rattle.page_source.specs.Lists.{AreMarked, flag_in, unmarked}
use Rattle.page_source.proofs.Marks.{unmarked_fewer}
use Rattle.page_source.proofs.Told.{if_told, map_told, map_told2, map_told3, map_told4}
use Rattle.inode_segments.specs.Inodes.{stepped_pages}
use Rattle.inode_segments.specs.InodeChecks.{inode_list, EndsAfter}
use Rattle.inode_segments.proofs.Alongs.{stepped_none, at_first, at_next, held_more, marked_next, grew_none, grew_more}
use Rattle.inode_segments.proofs.Alongs.{step_stops, end_breaks, end_holds}
use Rattle.inode_segments.specs.Walk.{Grew}
use Rattle.inode_segments.proofs.walk.Lists.walk.Goals as goal
use Rattle.inode_segments.proofs.walk.Lists.walk.Given.{Over}
use Rattle.inode_segments.proofs.walk.Lists.walk.Goals.{then-base-count-via-then-base-count}
use Rattle.inode_segments.proofs.walk.Lists.walk.Goals.{then-base-count-via-else-base-count+then-not-is_address}

pub loop-source-init : goal.loop-source-init
loop-source-init g c =
    let o = g.S.PageSource.content c.args.source.now in
    let base = inode_list c.args.self.now.header.now c.args.full in
    record {
      same = refl;
      later = omega arith;
      asked = omega arith;
      size = refl;
      spent = refl;
      room = omega (arith, count_by-le-length not c.args.inodes.now.pages);
      at = rw c.base-base.ensures (if_told o (λ file. at_first file base));
      held = if_told o (λ file earlier marked j below. absurd (omega arith));
      marked = if_told o (λ file earlier marked. rw (stepped_none file base) (rw (append-nil earlier) marked));
      grew = if_told o (λ file. grew_none file base c.args.inodes.now);
    }

pub returns-in_err-next-clause-exact : goal.returns-in_err-next-clause-exact
returns-in_err-next-clause-exact g c =
    let o = g.S.PageSource.content c.args.source.now in
    let i = c.loop-source.invariant in
    let step = c.loop-source.step in
    let base = inode_list c.args.self.now.header.now c.args.full in
    let r = err_from_is_err_and c.from_residual.result c.from_residual.ensures.1 in
    let checks = rw i.same at c.in_err-next.ensures.exact in
    rw (r.1, r.2) (map_told4 o (λ file is held marked checks earlier m.
    step_stops file (flag_in c.args.self.now.fragments.now) c.args.full earlier base step.address step.holder
    step.before
    c.loop-source.count is (λ z. false≢true (c.loop-source-test.ensures.1 z)) (held earlier m) c.in_err-next.field-0.0
    (checks (earlier ++ stepped_pages file base c.loop-source.count) (marked earlier m)))
    i.at i.held i.marked checks)

pub overflow_add-count : goal.overflow_add-count
overflow_add-count g c =
    let i = c.loop-source.invariant in
    let pages = c.loop-source.inodes.pages in
    let fewer = unmarked_fewer pages c.loop-source.step.address.page c.in_ok-next.ensures.below
    c.in_ok-next.ensures.new in
    record { fits = omega (arith, i.room, i.size, c.requires.room, c.requires.small, fewer) }

pub loop-source-preserved : goal.loop-source-preserved
loop-source-preserved g c =
    let o = g.S.PageSource.content c.args.source.now in
    let i = c.loop-source.invariant in
    let step = c.loop-source.step in
    let k = c.loop-source.count in
    let n = step.address.page in
    let pages = c.loop-source.inodes.pages in
    let base = inode_list c.args.self.now.header.now c.args.full in
    let fragment = flag_in c.args.self.now.fragments.now in
    let fewer = unmarked_fewer pages n c.in_ok-next.ensures.below c.in_ok-next.ensures.new in
    let now = c.in_ok-add_page.ensures.pages in
    let checks = rw i.same at c.in_ok-next.ensures.exact in
    let next = rw i.same at c.in_ok-next.ensures.next in
    let here = rw i.same at c.in_ok-next.ensures.page in
    record {
      same = c.in_ok-next.ensures.over.same ∙ i.same;
      later = omega (arith, i.later, c.in_ok-next.ensures.over.cause.later);
      asked = omega (arith, i.asked, c.in_ok-next.ensures.over.asked);
      size = ap length now ∙ length-set pages n true ∙ i.size;
      spent = omega (arith, i.spent, c.in_ok-next.ensures.cost, ap unmarked now, fewer);
      room = omega (arith, i.room, ap unmarked now, fewer, ap length now, length-set pages n true);
      at = map_told2 o (λ file is next. at_next file base step.address step.holder step.before k c.in_ok-next.next
          is next) i.at next;
      held = map_told4 o (λ file is held marked checks earlier m. held_more file fragment c.args.full earlier base
          step.address
          step.holder step.before k is (λ z. false≢true (c.loop-source-test.ensures.1 z)) (held earlier m)
          (checks (earlier ++ stepped_pages file base k) (marked earlier m))) i.at i.held i.marked checks;
      marked = map_told2 o (λ file is marked earlier m. marked_next file earlier base step.address step.holder
          step.before k
          pages c.add_page.new.self.pages is c.in_ok-next.ensures.below now (marked earlier m)) i.at i.marked;
      grew = map_told3 o (λ file is here grew. grew_more file base step.address step.holder step.before k
          c.check_step.new.page
          c.args.inodes.now c.loop-source.inodes c.add_page.new.self is here c.in_ok-add_page.ensures.places
          c.in_ok-add_page.ensures.inodes grew) i.at here i.grew;
    }

-- the walk is at its end, where the base doesn't fit
fits_not : (g : Over) (c : goal.After-into g) → ¬
    (EndsAfter c.base-base.result.now c.loop-source.count c.loop-source.step.before)
fits_not g c ends = elim c.then-base-count.branch [
  | then-base-count-via-then-base-count w ↦ w.if-base-count.true ends.counted
  | then-base-count-via-else-base-count+then-not-is_address w ↦ false≢true (sym w.if-not-is_address.true
      ∙ w.is_address.ensures.1 ends.last)
]

pub returns-then-base-count-clause-exact : goal.returns-then-base-count-clause-exact
returns-then-base-count-clause-exact g c =
    let o = g.S.PageSource.content c.args.source.now in
    let i = c.loop-source.invariant in
    let step = c.loop-source.step in
    let k = c.loop-source.count in
    let base = inode_list c.args.self.now.header.now c.args.full in
    let wrong : ¬ (EndsAfter base k step.before) =
    subst (λ b. ¬ (EndsAfter b k step.before)) c.base-base.ensures (fits_not g c) in
    rw c.into.ensures (map_told2 o (λ file is held earlier m.
    end_breaks file (flag_in c.args.self.now.fragments.now) c.args.full earlier base step.address step.holder
    step.before k
    is (c.is_null.ensures.0 c.loop-source-test.false) (held earlier m) wrong c.at.result c.at.ensures)
    i.at i.held)

-- or does
fits : (g : Over) (c : goal.Else-not-is_address g)
    → EndsAfter (inode_list c.args.self.now.header.now c.args.full) c.loop-source.count c.loop-source.step.before
fits g c =
    subst (λ b. EndsAfter b c.loop-source.count c.loop-source.step.before) c.base-base.ensures
    (record { counted = c.if-base-count.false; last = c.is_address.ensures.0 c.if-not-is_address.false })

pub returns-clause-exact : goal.returns-clause-exact
returns-clause-exact g c =
    let o = g.S.PageSource.content c.args.source.now in
    let i = c.loop-source.invariant in
    let step = c.loop-source.step in
    map_told2 o (λ file is held earlier m.
    end_holds file (flag_in c.args.self.now.fragments.now) c.args.full earlier
    (inode_list c.args.self.now.header.now c.args.full) step.address step.holder step.before c.loop-source.count
    is (c.is_null.ensures.0 c.loop-source-test.false) (held earlier m) (fits g c))
    i.at i.held

pub returns-clause-marked : goal.returns-clause-marked
returns-clause-marked g c =
    let base = inode_list c.args.self.now.header.now c.args.full in
    map_told (g.S.PageSource.content c.args.source.now) (λ file marked earlier m.
    subst (λ k. AreMarked c.loop-source.inodes.pages (earlier ++ stepped_pages file base k)) (sym (fits g c).counted)
    (marked earlier m)) c.loop-source.invariant.marked

pub returns-clause-grew : goal.returns-clause-grew
returns-clause-grew g c =
    let base = inode_list c.args.self.now.header.now c.args.full in
    map_told (g.S.PageSource.content c.args.source.now) (λ file grew.
    subst (λ k. Grew file (stepped_pages file base k) c.args.inodes.now c.loop-source.inodes) (sym (fits g c).counted)
    grew) c.loop-source.invariant.grew
