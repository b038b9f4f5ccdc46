use Rattle.std.proofs.Common.{◌∙◌, length, ap, sym, subst}
use Rattle.std.proofs.lemmas.Result.{err_from_is_err_and}
use Rattle.space_builder.specs.calls.Plan.{AreOrders}
use Rattle.space_builder.proofs.Builds.{fresh_lacks, read_failed, read_short, read_cause, are_stored, is_space, no_plan}
use Rattle.space_builder.proofs.Builds.{not_put, all_put, put_cause, put_short, no_cause}
use Rattle.space_builder.proofs.Outcomes.{put_calls}
use Rattle.row_store.proofs.NextRows.{length-stored}
use Rattle.space_builder.proofs.builder.build.Goals as goal

pub returns-in_err-stored-clause-built : goal.returns-in_err-stored-clause-built
returns-in_err-stored-clause-built g c =
    let r = err_from_is_err_and c.from_residual.result c.from_residual.ensures.1 in
    rw (r.1, r.2)
    (read_failed g.R.ByteSource c.args.schema.now c.args.rows.now c.read_rows.new.text
    c.in_err-stored.field-0.0 (g.T.PageStore.told c.args.store.now) c.in_default.ensures.roots c.requires
    c.in_err-stored.ensures.finds)

pub returns-in_err-stored-clause-read : goal.returns-in_err-stored-clause-read
returns-in_err-stored-clause-read g c =
    let r = err_from_is_err_and c.from_residual.result c.from_residual.ensures.1 in
    rw (r.1, r.2)
    (read_short g.R.ByteSource c.args.schema.now c.args.rows.now c.read_rows.new.text c.in_err-stored.field-0.0
    c.in_err-stored.ensures.finds)

pub returns-in_err-stored-clause-cause : goal.returns-in_err-stored-clause-cause
returns-in_err-stored-clause-cause g c =
    let r = err_from_is_err_and c.from_residual.result c.from_residual.ensures.1 in
    rw (r.1, r.2)
    (read_cause g.R.ByteSource c.args.schema.now c.args.rows.now c.read_rows.new.text
    (g.T.PageStore.faults c.args.store.now) c.in_err-stored.field-0.0 c.in_err-stored.ensures)

pub returns-in_err-orders-clause-built : goal.returns-in_err-orders-clause-built
returns-in_err-orders-clause-built g c =
    let r = err_from_is_err_and c.from_residual-in_err-orders.result c.from_residual-in_err-orders.ensures.1 in
    rw (r.1, r.2) (fresh_lacks (g.T.PageStore.told c.args.store.now) c.requires)

pub plan_space-requires-clause-rows : goal.plan_space-requires-clause-rows
plan_space-requires-clause-rows g c = (
  c.in_ok-stored.ensures.finds.rows,
  are_stored g.R.ByteSource c.args.schema.now c.args.rows.now c.read_rows.new.text c.in_ok-stored.stored
      c.in_default.ensures.table c.in_default.ensures.roots
      c.in_ok-stored.ensures.finds,
)

pub returns-in_err-plan-clause-built : goal.returns-in_err-plan-clause-built
returns-in_err-plan-clause-built g c =
    let r = err_from_is_err_and c.from_residual-in_err-plan.result c.from_residual-in_err-plan.ensures.1 in
    rw (r.1, r.2)
    (no_plan g.R.ByteSource c.args.schema.now c.args.rows.now c.read_rows.new.text c.in_ok-stored.stored
    c.in_default.ensures.table c.in_default.ensures.roots
    c.in_ok-stored.ensures.finds
    c.in_err-plan.field-0.0 (g.T.PageStore.told c.args.store.now) c.requires c.in_err-plan.ensures)

pub put-requires-clause-space : goal.put-requires-clause-space
put-requires-clause-space g c = (
  c.in_ok-stored.ensures.finds.rows,
  (is_space g.R.ByteSource _ c.args.rows.now c.read_rows.new.text c.in_default.ensures.table
      c.in_default.ensures.roots c.in_ok-stored.ensures.finds
      (subst (AreOrders c.args.schema.now c.in_ok-stored.stored) (sym c.deref-2.ensures.value) c.in_ok-orders.ensures)
      c.in_ok-plan.ensures),
)

pub returns-in_err-put-clause-built : goal.returns-in_err-put-clause-built
returns-in_err-put-clause-built g c =
    let r = err_from_is_err_and c.from_residual-in_err-put.result c.from_residual-in_err-put.ensures.1 in
    rw (r.1, r.2)
    (not_put g.R.ByteSource c.args.schema.now c.args.rows.now c.read_rows.new.text c.in_ok-stored.stored
    c.in_default.ensures.table c.in_default.ensures.roots
    c.in_ok-stored.ensures.finds
    c.in_err-put.field-0.0 (g.T.PageStore.told c.args.store.now) (g.T.PageStore.told c.put.new.store)
    (c.in_ok-plan.ensures c.in_ok-stored.ensures.finds.rows
    (are_stored g.R.ByteSource c.args.schema.now c.args.rows.now c.read_rows.new.text c.in_ok-stored.stored
    c.in_default.ensures.table c.in_default.ensures.roots
    c.in_ok-stored.ensures.finds)).fits
    (c.in_err-put.ensures c.in_ok-stored.ensures.finds.rows
    (is_space g.R.ByteSource _ c.args.rows.now c.read_rows.new.text c.in_default.ensures.table
    c.in_default.ensures.roots c.in_ok-stored.ensures.finds
    (subst (AreOrders c.args.schema.now c.in_ok-stored.stored) (sym c.deref-2.ensures.value) c.in_ok-orders.ensures)
    c.in_ok-plan.ensures)).leaves)

pub returns-in_err-put-clause-cause : goal.returns-in_err-put-clause-cause
returns-in_err-put-clause-cause g c =
    let r = err_from_is_err_and c.from_residual-in_err-put.result c.from_residual-in_err-put.ensures.1 in
    rw (r.1, r.2)
    (put_cause g.T.PageStore c.args.schema.now c.in_ok-stored.ensures.finds.rows c.args.store.now c.put.new.store
    (g.R.ByteSource.faults c.args.rows.now) (g.R.ByteSource.faults c.read_rows.new.text) c.in_err-put.field-0.0
    c.in_ok-stored.ensures.later
    (c.in_err-put.ensures c.in_ok-stored.ensures.finds.rows
    (is_space g.R.ByteSource _ c.args.rows.now c.read_rows.new.text c.in_default.ensures.table
    c.in_default.ensures.roots c.in_ok-stored.ensures.finds
    (subst (AreOrders c.args.schema.now c.in_ok-stored.stored) (sym c.deref-2.ensures.value) c.in_ok-orders.ensures)
    c.in_ok-plan.ensures)))

pub pages-requires : goal.pages-requires
pages-requires g c = (
  c.in_ok-stored.ensures.finds.rows,
  (is_space g.R.ByteSource _ c.args.rows.now c.read_rows.new.text c.in_default.ensures.table
      c.in_default.ensures.roots c.in_ok-stored.ensures.finds
      (subst (AreOrders c.args.schema.now c.in_ok-stored.stored) (sym c.deref-2.ensures.value) c.in_ok-orders.ensures)
      c.in_ok-plan.ensures),
)

pub returns-clause-built : goal.returns-clause-built
returns-clause-built g c =
    all_put g.R.ByteSource c.args.schema.now c.args.rows.now c.read_rows.new.text c.in_ok-stored.stored
    c.in_default.ensures.table c.in_default.ensures.roots
    c.in_ok-stored.ensures.finds
    (record { pages = c.pages.result; rows = c.count.result }) (g.T.PageStore.told c.args.store.now)
    (g.T.PageStore.told c.put.new.store)
    (c.in_ok-plan.ensures c.in_ok-stored.ensures.finds.rows
    (are_stored g.R.ByteSource c.args.schema.now c.args.rows.now c.read_rows.new.text c.in_ok-stored.stored
    c.in_default.ensures.table c.in_default.ensures.roots
    c.in_ok-stored.ensures.finds)).fits
    (c.in_ok-put.ensures c.in_ok-stored.ensures.finds.rows
    (is_space g.R.ByteSource _ c.args.rows.now c.read_rows.new.text c.in_default.ensures.table
    c.in_default.ensures.roots c.in_ok-stored.ensures.finds
    (subst (AreOrders c.args.schema.now c.in_ok-stored.stored) (sym c.deref-2.ensures.value) c.in_ok-orders.ensures)
    c.in_ok-plan.ensures)).leaves
    (c.pages.ensures c.in_ok-stored.ensures.finds.rows
    (is_space g.R.ByteSource _ c.args.rows.now c.read_rows.new.text c.in_default.ensures.table
    c.in_default.ensures.roots c.in_ok-stored.ensures.finds
    (subst (AreOrders c.args.schema.now c.in_ok-stored.stored) (sym c.deref-2.ensures.value) c.in_ok-orders.ensures)
    c.in_ok-plan.ensures))
    (c.count.ensures ∙ ap length c.in_ok-stored.ensures.finds.same
    ∙ length-stored c.args.schema.now c.in_ok-stored.ensures.finds.rows)

pub returns-clause-cause : goal.returns-clause-cause
returns-clause-cause g c =
    no_cause g.T.PageStore c.args.schema.now c.in_ok-stored.ensures.finds.rows c.args.store.now c.put.new.store
    (g.R.ByteSource.faults c.args.rows.now) (g.R.ByteSource.faults c.read_rows.new.text) c.in_ok-put.field-0
    (record { pages = c.pages.result; rows = c.count.result }) c.in_ok-stored.ensures.later
    (c.in_ok-put.ensures c.in_ok-stored.ensures.finds.rows
    (is_space g.R.ByteSource _ c.args.rows.now c.read_rows.new.text c.in_default.ensures.table
    c.in_default.ensures.roots c.in_ok-stored.ensures.finds
    (subst (AreOrders c.args.schema.now c.in_ok-stored.stored) (sym c.deref-2.ensures.value) c.in_ok-orders.ensures)
    c.in_ok-plan.ensures))

pub returns-in_err-put-clause-untouched : goal.returns-in_err-put-clause-untouched
returns-in_err-put-clause-untouched g c =
    let r = err_from_is_err_and c.from_residual-in_err-put.result c.from_residual-in_err-put.ensures.1 in
    rw (r.1, r.2) (λ leaves. absurd (put_calls c.in_err-put.field-0.0 leaves))

pub returns-in_err-put-clause-memory : goal.returns-in_err-put-clause-memory
returns-in_err-put-clause-memory g c =
    let r = err_from_is_err_and c.from_residual-in_err-put.result c.from_residual-in_err-put.ensures.1 in
    let is = c.in_default.ensures.table in
    let roots = c.in_default.ensures.roots in
    let read = c.in_ok-stored.ensures.finds in
    rw (r.1, r.2)
    (put_short g.R.ByteSource c.args.schema.now c.args.rows.now c.read_rows.new.text c.in_ok-stored.stored is roots read
    g.T.PageStore c.args.store.now c.put.new.store c.in_err-put.field-0.0
    (c.in_ok-plan.ensures read.rows
    (are_stored g.R.ByteSource c.args.schema.now c.args.rows.now c.read_rows.new.text c.in_ok-stored.stored is roots
    read)).fits
    (c.in_err-put.ensures read.rows
    (is_space g.R.ByteSource _ c.args.rows.now c.read_rows.new.text is roots read
    (subst (AreOrders c.args.schema.now c.in_ok-stored.stored) (sym c.deref-2.ensures.value) c.in_ok-orders.ensures)
    c.in_ok-plan.ensures)))

pub returns-clause-untouched : goal.returns-clause-untouched
returns-clause-untouched g c = λ leaves. absurd leaves
