use Rattle.std.proofs.Common.{◌≡◌, ◌∙◌, sym, subst, length, get_or, None, arith}
use Rattle.cross_index.specs.calls.Order.{Asking, table_of}
use Rattle.cross_index.proofs.CellSteps.{kept_at, no_value, some_slots, whole_key}
use Rattle.cross_index.proofs.order.WholeKeysRowKeys.first.Goals as goal

pub returns-then-is_empty-clause-value : goal.returns-then-is_empty-clause-value
returns-then-is_empty-clause-value c =
    let keys = c.self.inside.keys.now in
    subst (λ (asking : Asking). None ≡ get_or ((table_of asking).key c.args.row) 0 None) c.self.view_is
    (no_value keys.cells.now keys.width keys.slots.now c.args.row (sym c.is_empty.ensures ∙ c.if-is_empty.true))

pub returns-then-is_empty-clause-whole : goal.returns-then-is_empty-clause-whole
returns-then-is_empty-clause-whole c =
    subst (λ (asking : Asking). length ((table_of asking).key c.args.row) ≡ length (table_of asking).kinds)
    c.self.view_is (whole_key _ c.args.row c.self.invariant)

pub returns-clause-value : goal.returns-clause-value
returns-clause-value c =
    let keys = c.self.inside.keys.now in
    let number = c.cell_number-number.result in
    c.value.ensures
    ∙ subst (λ (asking : Asking). get_or keys.cells.now number None ≡ get_or ((table_of asking).key c.args.row) 0 None)
    c.self.view_is
    (kept_at keys.cells.now keys.width keys.slots.now c.args.row 0 0 number
    (omega (arith, c.len-count.ensures, c.len-count.type_inv))
    (some_slots keys.slots.now (sym c.is_empty.ensures ∙ c.if-is_empty.false))
    c.cell_number-number.ensures)

pub returns-clause-whole : goal.returns-clause-whole
returns-clause-whole c =
    subst (λ (asking : Asking). length ((table_of asking).key c.args.row) ≡ length (table_of asking).kinds)
    c.self.view_is (whole_key _ c.args.row c.self.invariant)
