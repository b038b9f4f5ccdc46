use Rattle.std.proofs.Common.{◌≡◌, ◌∙◌, sym, ap}
use Rattle.std.proofs.lemmas.Result.{err_from_is_err_and}
use Rattle.column_values.specs.declared.value.Value.TheVariants.{Null}
use Rattle.sql_dump.specs.Cells.{CellView}
use Rattle.sql_dump.proofs.SomeValues.{part_grows}
use Rattle.sql_dump.proofs.cell.put_value.Goals as goal

pub returns-in_err-null-clause-some : goal.returns-in_err-null-clause-some
returns-in_err-null-clause-some g c =
    let r = err_from_is_err_and c.from_residual.result c.from_residual.ensures.1 in
    rw r.1 (part_grows _ _ _ c.in_err-null.ensures.puts.failed)

pub returns-then-cell-clause-some : goal.returns-then-cell-clause-some
returns-then-cell-clause-some g c = (Null, c.in_ok-null.ensures.puts.ok)

pub returns-in_err-value-clause-some : goal.returns-in_err-value-clause-some
returns-in_err-value-clause-some g c =
    let null = ap (λ (v : CellView). v.place.null) (sym c.cell.view_is) ∙ c.if-cell.false in
    let near = ap (λ (v : CellView). v.place.external) (sym c.cell.view_is) ∙ c.if-cell-2.false in
    let spelled = c.requires.sound.local null near in
    let kind : c.cell.inside.kind.now ≡ c.args.cell.now.kind = ap (λ (v : CellView). v.kind) c.cell.view_is in
    let puts = rw (kind, c.local-local.ensures.bytes) at c.in_err-value.ensures.puts in
    let r = err_from_is_err_and c.from_residual-in_err-value.result c.from_residual-in_err-value.ensures.1 in
    rw r.1 (part_grows _ _ _ (puts spelled.0 spelled.1).failed)
