use Rattle.std.proofs.Common.{refl, subst, List}
use Rattle.schema_text.specs.declared.table.Column.{Column}
use Rattle.row_text.specs.Line.{values_of}
use Rattle.row_text.specs.calls.Rows.{FindsValues}
use Rattle.row_text.proofs.WholeLine.{line_is, row_found}
use Rattle.row_text.proofs.read.read_row.Goals as goal

pub returns-in_default : goal.returns-in_default
returns-in_default c = λ row is.
    c.in_default.ensures.none refl (values_of c.args.schema.now row) (line_is c.args.schema.now row c.args.line.now is)

pub returns : goal.returns
returns c =
    row_found c.args.schema.now c.args.line.now c.in-Some.text.now c.read_columns.result c.in-Some.ensures.found
    (subst (λ (columns : List Column). FindsValues columns c.in-Some.text.now c.read_columns.result)
    c.columns.ensures.same
    c.read_columns.ensures)
