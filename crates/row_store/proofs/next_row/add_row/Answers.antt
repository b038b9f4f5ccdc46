use Rattle.std.proofs.Common.{sym, ◌∙◌, subst}
use Rattle.std.proofs.lemmas.Bool.{false≢true}
use Rattle.row_store.specs.calls.NextRow.{AreWide}
use Rattle.row_store.proofs.NextRows.{order_refused, rises_behind, big_refused, next_row, stored_grown}
use Rattle.row_store.proofs.NextRows.{wide_more, filled_as}
use Rattle.row_store.proofs.next_row.add_row.Goals as goal

pub returns-then-not-is_in_order-clause-added : goal.returns-then-not-is_in_order-clause-added
returns-then-not-is_in_order-clause-added c = λ rows holds.
    let table = c.args.schema.now in
    let stored = c.args.rows.now in
    let value = c.in_ok-values.values in
    let now = c.fill_row.new.row in
    let filled = filled_as table stored c.count.result c.values-2.result.now value now
    c.in_ok-fill_row.ensures.filled c.count.ensures c.values-2.ensures in (
      value,
      c.in_ok-values.ensures,
      order_refused c.fitted_rows_are_rows.ensures table c.requires.shape.is_table rows stored holds value now filled
          c.args.line.now c.in_ok-values.ensures
          (λ after. false≢true (sym c.if-not-is_in_order.true ∙ c.is_in_order.ensures.1 after)),
    )

pub returns-then-not-fit_row-clause-added : goal.returns-then-not-fit_row-clause-added
returns-then-not-fit_row-clause-added c = λ rows holds.
    let table = c.args.schema.now in
    let stored = c.args.rows.now in
    let value = c.in_ok-values.values in
    let now = c.fill_row.new.row in
    let fit = c.fitted_rows_are_rows.ensures in
    let is = c.requires.shape.is_table in
    let filled = filled_as table stored c.count.result c.values-2.result.now value now
    c.in_ok-fill_row.ensures.filled c.count.ensures c.values-2.ensures in (
      value,
      c.in_ok-values.ensures,
      rises_behind fit table is rows stored holds value now filled
          (c.is_in_order.ensures.0 c.if-not-is_in_order.false),
      big_refused fit table is rows stored holds value now filled c.if-not-fit_row.ensures.fits,
    )

pub returns-clause-added : goal.returns-clause-added
returns-clause-added c = λ rows holds.
    let table = c.args.schema.now in
    let stored = c.args.rows.now in
    let value = c.in_ok-values.values in
    let now = c.fill_row.new.row in
    let fit = c.fitted_rows_are_rows.ensures in
    let is = c.requires.shape.is_table in
    let filled = filled_as table stored c.count.result c.values-2.result.now value now
    c.in_ok-fill_row.ensures.filled c.count.ensures c.values-2.ensures in (
      value,
      next_row fit table is rows stored holds value now filled c.args.line.now c.fit_row.new.row
          c.in_ok-values.ensures (c.is_in_order.ensures.0 c.if-not-is_in_order.false) c.if-not-fit_row.ensures.fits,
      c.in_ok-store.ensures
          ∙ stored_grown fit table is rows stored holds value now filled c.fit_row.new.row
          c.if-not-fit_row.ensures.fits,
    )

pub returns-clause-wide : goal.returns-clause-wide
returns-clause-wide c =
    subst (AreWide c.args.shape.now.fields) (sym c.in_ok-store.ensures)
    (wide_more c.args.shape.now.fields c.args.rows.now c.fit_row.new.row c.requires.wide
    (c.if-not-fit_row.ensures.same ∙ c.in_ok-fill_row.ensures.each))
