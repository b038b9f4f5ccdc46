use Rattle.std.proofs.Common.{◌≡◌, ◌∙◌, ◌+◌, IfSome, arith, ap, refl, sym, subst}
use Rattle.std.proofs.lemmas.Result.{err_from_is_err_and}
use Rattle.compact_record.specs.Header.{is_deleted}
use Rattle.page_source.proofs.Told.{if_told, map_told, map_told2}
use Rattle.tree_walk.specs.Index.{index_of}
use Rattle.table_check.specs.Live.{LiveView, CanGiveLive}
use Rattle.table_check.proofs.Progress.{over_both, halt_as}
use Rattle.table_check.proofs.LiveSteps.{passes_over, gives, none_behind, none_due, never_breaks}
use Rattle.table_check.proofs.rows.LiveRows.next.Goals as goal
use Rattle.table_check.proofs.rows.LiveRows.next.Goals.{then-is_deleted, else-is_deleted}
use Rattle.table_check.proofs.rows.LiveRows.next.Goals.{then-self-gt0-via-then-self-gt0}
use Rattle.table_check.proofs.rows.LiveRows.next.Goals.{then-self-gt0-via-else-self-gt0+then-self-gt0-2}

pub loop-origin-init : goal.loop-origin-init
loop-origin-init g c =
    let live : c.self.inside.live ≡ c.args.self.now.live = ap (λ (v : LiveView). v.live) c.self.view_is in
    let leaf = ap (λ (v : LiveView). v.leaf.may_fetch) c.self.view_is in
    let ended = ap (λ (v : LiveView). v.ended) c.self.view_is in
    record {
      same = refl;
      later = omega arith;
      asked = omega arith;
      goes_on = ended ∙ c.requires.goes_on;
      live = live;
      spent = ap (λ n. c.args.steps.now + n) leaf;
      reads = subst (λ (v : LiveView). IfSome (g.S.PageSource.content c.args.source.now) (λ file. CanGiveLive file v))
          (sym c.self.view_is) c.requires.reads;
      told = if_told (g.S.PageSource.content c.args.source.now) (λ file root fields node j w h. rw c.self.view_is h);
    }

pub next-requires-clause-goes_on : goal.next-requires-clause-goes_on
next-requires-clause-goes_on g c = c.loop-origin.invariant.goes_on

pub next-requires-clause-reads : goal.next-requires-clause-reads
next-requires-clause-reads g c =
    rw c.loop-origin.invariant.same
    (map_told (g.S.PageSource.content c.args.source.now)
    (λ file r. record {
      root = r.root;
      fields = r.fields;
      node = r.node;
      given = r.has.passed;
      walked = r.walked;
      has = r.has.has;
    })
    c.loop-origin.invariant.reads)

pub returns-in_err-origin-clause-exact : goal.returns-in_err-origin-clause-exact
returns-in_err-origin-clause-exact g c =
    let i = c.loop-origin.invariant in
    let found = rw i.same at c.in_err-origin.ensures.exact in
    let r = err_from_is_err_and c.from_residual.result c.from_residual.ensures.1 in
    rw (r.1, r.2)
    (map_told2 (g.S.PageSource.content c.args.source.now)
    (λ file t f root fields node j w h.
    let has = t root fields node j w h in
    never_breaks (index_of file root fields node) j has.passed _ _ c.in_err-origin.field-0.0
    (f root fields node has.passed w has.has))
    i.told found)

pub returns-in_err-origin-clause-over : goal.returns-in_err-origin-clause-over
returns-in_err-origin-clause-over g c =
    let i = c.loop-origin.invariant in
    let r = err_from_is_err_and c.from_residual.result c.from_residual.ensures.1 in
    rw (r.1, r.2) (over_both _ i.same i.later i.asked (halt_as c.in_err-origin.field-0.0) c.in_err-origin.ensures.keeps)

pub returns-in_err-origin-clause-steps : goal.returns-in_err-origin-clause-steps
returns-in_err-origin-clause-steps g c = c.next.ensures.steps ∙ c.loop-origin.invariant.spent

pub returns-then-left-eq0-clause-exact : goal.returns-then-left-eq0-clause-exact
returns-then-left-eq0-clause-exact g c =
    let i = c.loop-origin.invariant in
    let found = rw (c.in-Some.is, i.same) at c.in_ok-origin.ensures.exact in
    let last = rw c.in-Some.is at c.in_ok-origin.ensures.last in
    map_told2 (g.S.PageSource.content c.args.source.now)
    (λ file t f root fields node j w h.
    let has = t root fields node j w h in
    elim c.if-is_deleted.branch [
      | then-is_deleted b ↦
          let over = passes_over (index_of file root fields node) _ j _ c.in-Some.origin _ c.next.new.self.ended has
          (f root fields node has.passed w has.has) last (sym b.if-is_deleted.true ∙ c.deleted-is_deleted.ensures ∙
          ap (λ page. is_deleted page c.in-Some.origin) c.page.ensures) in
          absurd (omega (arith, over.some, b.left-is, c.if-left-eq0.true))
      | else-is_deleted b ↦
          let given = gives (index_of file root fields node) _ j _ c.in-Some.origin _ c.next.new.self.ended has
          (f root fields node has.passed w has.has) last (sym b.if-is_deleted.false ∙ c.deleted-is_deleted.ensures ∙
          ap (λ page. is_deleted page c.in-Some.origin) c.page.ensures) in
          absurd (omega (arith, given.some, b.left-is, c.if-left-eq0.true))
    ])
    i.told found

pub returns-then-left-eq0-clause-over : goal.returns-then-left-eq0-clause-over
returns-then-left-eq0-clause-over g c =
    let i = c.loop-origin.invariant in
    over_both _ i.same i.later i.asked (λ e. absurd (cc)) c.next.ensures.keeps

pub returns-then-left-eq0-clause-steps : goal.returns-then-left-eq0-clause-steps
returns-then-left-eq0-clause-steps g c = c.next.ensures.steps ∙ c.loop-origin.invariant.spent

pub returns-then-not-is_deleted-clause-exact : goal.returns-then-not-is_deleted-clause-exact
returns-then-not-is_deleted-clause-exact g c =
    let i = c.loop-origin.invariant in
    let found = rw (c.in-Some.is, i.same) at c.in_ok-origin.ensures.exact in
    let last = rw c.in-Some.is at c.in_ok-origin.ensures.last in
    map_told2 (g.S.PageSource.content c.args.source.now)
    (λ file t f root fields node j w h.
    let has = t root fields node j w h in
    elim c.if-is_deleted.branch [
      | then-is_deleted b ↦ absurd (cc (b.if-is_deleted.true, c.if-not-is_deleted.true))
      | else-is_deleted b ↦
          let given = gives (index_of file root fields node) _ j _ c.in-Some.origin _ c.next.new.self.ended has
          (f root fields node has.passed w has.has) last (sym b.if-is_deleted.false ∙ c.deleted-is_deleted.ensures
          ∙ ap (λ page. is_deleted page c.in-Some.origin) c.page.ensures) in
          rw b.left-is (given.row, given.has)
    ])
    i.told found

pub returns-then-not-is_deleted-clause-fewer : goal.returns-then-not-is_deleted-clause-fewer
returns-then-not-is_deleted-clause-fewer g c =
    elim c.if-is_deleted.branch [
      | then-is_deleted b ↦ absurd (cc (b.if-is_deleted.true, c.if-not-is_deleted.true))
      | else-is_deleted b ↦ omega (arith, b.left-is, c.if-left-eq0.false, c.loop-origin.invariant.live)
    ]

pub returns-then-not-is_deleted-clause-over : goal.returns-then-not-is_deleted-clause-over
returns-then-not-is_deleted-clause-over g c =
    let i = c.loop-origin.invariant in
    over_both _ i.same i.later i.asked (λ e. absurd (cc)) c.next.ensures.keeps

pub returns-then-not-is_deleted-clause-steps : goal.returns-then-not-is_deleted-clause-steps
returns-then-not-is_deleted-clause-steps g c = c.next.ensures.steps ∙ c.loop-origin.invariant.spent

pub loop-origin-smaller : goal.loop-origin-smaller
loop-origin-smaller g c =
    elim c.if-is_deleted.branch [
      | then-is_deleted b ↦ omega (arith, b.left-is, c.if-left-eq0.false)
      | else-is_deleted b ↦ absurd (cc (b.if-is_deleted.false, c.if-not-is_deleted.false))
    ]

pub loop-origin-preserved : goal.loop-origin-preserved
loop-origin-preserved g c =
    let i = c.loop-origin.invariant in
    let o = g.S.PageSource.content c.args.source.now in
    let found = rw (c.in-Some.is, i.same) at c.in_ok-origin.ensures.exact in
    let last = rw c.in-Some.is at c.in_ok-origin.ensures.last in
    let ended = rw c.in-Some.is at c.in_ok-origin.ensures.ended in
    elim c.if-is_deleted.branch [
      | then-is_deleted b ↦
          let mark = sym b.if-is_deleted.true ∙ c.deleted-is_deleted.ensures ∙ ap (λ page. is_deleted page
          c.in-Some.origin) c.page.ensures in
          record {
            same = c.next.ensures.keeps.same ∙ i.same;
            later = omega (arith, i.later, c.next.ensures.keeps.cause.later);
            asked = omega (arith, i.asked, c.next.ensures.keeps.asked);
            goes_on = ended;
            live = i.live;
            spent = c.next.ensures.steps ∙ i.spent;
            reads = map_told2 o
                (λ file r f.
                let over = passes_over (index_of file r.root r.fields r.node) _ r.given _ c.in-Some.origin _
                c.next.new.self.ended r.has (f r.root r.fields r.node r.has.passed r.walked r.has.has) last mark in
                record {
                  root = r.root;
                  fields = r.fields;
                  node = r.node;
                  given = r.given;
                  walked = r.walked;
                  has = rw b.left-is over.has;
                })
                i.reads found;
            told = map_told2 o
                (λ file t f root fields node j w h.
                let has = t root fields node j w h in
                let over = passes_over (index_of file root fields node) _ j _ c.in-Some.origin _
                c.next.new.self.ended has
                (f root fields node has.passed w has.has) last mark in
                rw b.left-is over.has)
                i.told found;
          }
      | else-is_deleted b ↦ absurd (cc (b.if-is_deleted.false, c.if-not-is_deleted.false))
    ]

pub returns-then-self-gt0-clause-exact : goal.returns-then-self-gt0-clause-exact
returns-then-self-gt0-clause-exact g c =
    let i = c.loop-origin.invariant in
    let found = rw (c.in_default.is, i.same) at c.in_ok-origin.ensures.exact in
    map_told2 (g.S.PageSource.content c.args.source.now)
    (λ file t f root fields node j w h.
    let has = t root fields node j w h in
    let done = none_due (index_of file root fields node) _ j c.next.new.self.leaf has (f root fields node has.passed w
    has.has) in
    elim c.then-self-gt0.branch [
      | then-self-gt0-via-then-self-gt0 b ↦ absurd (omega (arith, done.live, b.if-self-gt0.true))
      | then-self-gt0-via-else-self-gt0+then-self-gt0-2 b ↦ absurd (omega (arith, done.deleted, b.if-self-gt0-2.true))
    ])
    i.told found

pub returns-clause-exact : goal.returns-clause-exact
returns-clause-exact g c =
    let i = c.loop-origin.invariant in
    let found = rw (c.in_default.is, i.same) at c.in_ok-origin.ensures.exact in
    map_told2 (g.S.PageSource.content c.args.source.now)
    (λ file t f root fields node j w h.
    let has = t root fields node j w h in
    none_behind (index_of file root fields node) _ j c.next.new.self.leaf has (f root fields node has.passed w
    has.has))
    i.told found

pub returns-clause-over : goal.returns-clause-over
returns-clause-over g c =
    let i = c.loop-origin.invariant in
    over_both _ i.same i.later i.asked (λ e. absurd (cc)) c.next.ensures.keeps

pub returns-clause-steps : goal.returns-clause-steps
returns-clause-steps g c = c.next.ensures.steps ∙ c.loop-origin.invariant.spent

pub returns-clause-ended : goal.returns-clause-ended
returns-clause-ended g c = λ none. rw c.in_default.is at c.in_ok-origin.ensures.ended
