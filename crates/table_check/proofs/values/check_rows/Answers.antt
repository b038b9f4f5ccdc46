use Rattle.std.proofs.Common.{ℕ, ◌+◌, ◌-◌, Ok, Err, Option, Some, None, refl, ap, ◌∙◌, arith}
use Rattle.std.proofs.lemmas.Result.{err_from_is_err_and}
use Rattle.page_source.proofs.Told.{map_told2, map_told3}
use Rattle.space_audit.specs.Marks.{is_set}
use Rattle.table_check.specs.Trees.{clustered_tree}
use Rattle.table_check.specs.Values.{RowChecks, all_chain_pages}
use Rattle.table_check.proofs.Progress.{between_breaks, unmarked_most}
use Rattle.table_check.proofs.RowSteps.{can_give, finds, never_breaks, none_found}
use Rattle.table_check.proofs.RowMarks.{none_held, searched, found_readable, row_breaks, row_holds, all_held}
use Rattle.table_check.proofs.values.check_rows.Goals as goal

pub loop-origin-init : goal.loop-origin-init
loop-origin-init g c = record {
  have = none_held c.args.leaves.now.segment c.args.marks.now (c.args.steps.now + c.args.rows.now.leaf.may_fetch)
      (c.args.rows.now.live - c.args.rows.now.live) (omega arith) c.requires.told;
  asked = omega arith;
  few = omega arith;
  goes_on = c.requires.goes_on;
  room = refl;
}

pub next-requires-clause-goes_on : goal.next-requires-clause-goes_on
next-requires-clause-goes_on g c = c.loop-origin.invariant.goes_on

pub next-requires-clause-reads : goal.next-requires-clause-reads
next-requires-clause-reads g c =
    let have = c.loop-origin.invariant.have in
    rw have.has.same
    (map_told2 (g.S.PageSource.content c.args.source.now)
    (λ file t gives. can_give file c.args.schema.now c.loop-origin.rows (c.args.rows.now.live - c.loop-origin.rows.live)
    t.walked gives)
    c.requires.told have.gives)

pub returns-in_err-origin-clause-checks : goal.returns-in_err-origin-clause-checks
returns-in_err-origin-clause-checks g c =
    let have = c.loop-origin.invariant.have in
    let table = c.args.schema.now in
    let given = c.args.rows.now.live - c.loop-origin.rows.live in
    let r = err_from_is_err_and c.from_residual.result c.from_residual.ensures.1 in
    let halt = c.in_err-origin.field-0.0 in
    rw (r.1, r.2)
    (between_breaks c.next.new.steps halt
    (λ file. RowChecks (clustered_tree file table) (is_set c.args.marks.now))
    (λ file. all_chain_pages (clustered_tree file table))
    have.has c.in_err-origin.ensures.over (omega (arith, c.in_err-origin.ensures.steps))
    (map_told3 (g.S.PageSource.content c.args.source.now)
    (λ file t gives x. never_breaks (clustered_tree file table) given halt c.next.new.self
    (RowChecks (clustered_tree file table) (is_set c.args.marks.now))
    (finds file table c.loop-origin.rows c.next.new.self given (Err halt) x t.walked gives))
    c.requires.told have.gives (rw have.has.same at c.in_err-origin.ensures.exact)))

pub check_row-requires-clause-room : goal.check_row-requires-clause-room
check_row-requires-clause-room g c = rw c.loop-origin.invariant.room c.requires.room

pub check_row-requires-clause-record : goal.check_row-requires-clause-record
check_row-requires-clause-record g c =
    let have = c.loop-origin.invariant.have in
    let over = c.in_ok-origin.ensures.over in
    let left = c.next.new.self.leaf.may_fetch in
    let rows = c.args.rows.now in
    let leaves = c.args.leaves.now in
    rw (over.same ∙ have.has.same)
    (found_readable rows leaves.segment c.next.new.steps left c.number.result c.page.result.now leaves.fields.now
    c.requires.told
    (searched rows leaves.segment (c.next.new.steps + left) (Some c.in-Some.origin) c.requires.told have c.in-Some.is
    (omega (arith, c.in_ok-origin.ensures.steps)) over c.in_ok-origin.ensures.exact)
    c.number.ensures c.page.ensures c.requires.list c.rows_can_be_read.ensures)

pub check_row-requires-clause-ready : goal.check_row-requires-clause-ready
check_row-requires-clause-ready g c =
    let has = c.loop-origin.invariant.have.has in
    record {
      told = rw (c.in_ok-origin.ensures.over.same ∙ has.same) c.requires.ready.audit;
      members = has.members ∙ c.requires.ready.members;
    }

pub returns-in_err-count-clause-checks : goal.returns-in_err-count-clause-checks
returns-in_err-count-clause-checks g c =
    let left = c.next.new.self.leaf.may_fetch in
    let rows = c.args.rows.now in
    let leaves = c.args.leaves.now in
    let r = err_from_is_err_and c.from_residual-in_err-count.result c.from_residual-in_err-count.ensures.1 in
    rw (r.1, r.2)
    (row_breaks rows leaves.segment c.next.new.steps left c.number.result c.page.result.now leaves.fields.now
    c.requires.told
    (searched rows leaves.segment (c.next.new.steps + left) (Some c.in-Some.origin) c.requires.told
    c.loop-origin.invariant.have c.in-Some.is (omega (arith, c.in_ok-origin.ensures.steps)) c.in_ok-origin.ensures.over
    c.in_ok-origin.ensures.exact)
    c.number.ensures c.page.ensures c.requires.list c.in_err-count.field-0.0 c.in_err-count.ensures.checks)

pub overflow_add-count : goal.overflow_add-count
overflow_add-count g c =
    let fewer = c.in_ok-count.ensures.checks.fewer in
    omega (
      arith,
      c.loop-origin.invariant.have.has.fewer,
      fewer,
      unmarked_most c.args.marks.now,
      c.requires.ready.members,
      c.size-size.ensures.is,
      c.size-size.ensures.most,
    )

pub loop-origin-smaller : goal.loop-origin-smaller
loop-origin-smaller g c =
    let fewer = rw c.in-Some.is at c.in_ok-origin.ensures.fewer in
    omega (arith, fewer)

pub loop-origin-preserved : goal.loop-origin-preserved
loop-origin-preserved g c =
    let inv = c.loop-origin.invariant in
    let left = c.next.new.self.leaf.may_fetch in
    let rows = c.args.rows.now in
    let leaves = c.args.leaves.now in
    let fewer = rw c.in-Some.is at c.in_ok-origin.ensures.fewer in
    record {
      have =
          row_holds rows leaves.segment c.next.new.steps left c.number.result c.page.result.now leaves.fields.now
          c.requires.told
          (searched rows leaves.segment (c.next.new.steps + left) (Some c.in-Some.origin) c.requires.told inv.have
          c.in-Some.is (omega (arith, c.in_ok-origin.ensures.steps)) c.in_ok-origin.ensures.over
          c.in_ok-origin.ensures.exact)
          c.number.ensures c.page.ensures c.requires.list c.in_ok-count.field-0
          (rows.live - c.next.new.self.live) (omega (arith, fewer, inv.few)) c.in_ok-count.ensures.checks;
      asked = omega (arith, inv.asked, c.in_ok-origin.ensures.over.asked, c.in_ok-count.ensures.asked);
      few = omega (arith, fewer, inv.few);
      goes_on = rw c.in-Some.is at c.in_ok-origin.ensures.goes_on;
      room = c.check_row.ensures.room ∙ inv.room;
    }

pub returns-clause-checks : goal.returns-clause-checks
returns-clause-checks g c =
    let none = none_found c.in_ok-origin.field-0 c.in_default.not-Some in
    let come = c.in_ok-origin.ensures.all (ap (λ (found : Option ℕ). Ok found) none) in
    all_held
    (searched c.args.rows.now c.args.leaves.now.segment c.next.new.steps None c.requires.told
    c.loop-origin.invariant.have none (omega (arith, c.in_ok-origin.ensures.steps, come.leaves))
    c.in_ok-origin.ensures.over c.in_ok-origin.ensures.exact)
