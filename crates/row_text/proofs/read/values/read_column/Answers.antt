use Rattle.std.proofs.lemmas.Bool.{iff_false}
use Rattle.row_text.proofs.ColumnTexts.{null_refused, column_found}
use Rattle.row_text.proofs.read.values.read_column.Goals as goal

pub returns-then-not-is_null-clause-found : goal.returns-then-not-is_null-clause-found
returns-then-not-is_null-clause-found c =
    column_found c.args.column.now c.args.text.now c.read_value.result
    (λ rest e ends. iff_false c.is_null.ensures c.if-not-is_null.true (rest, e, ends)) c.read_value.ensures.found

pub returns-then-not-column-clause-found : goal.returns-then-not-column-clause-found
returns-then-not-column-clause-found c =
    let null = c.is_null.ensures.0 c.if-not-is_null.false in
    null_refused c.args.column.now c.args.text.now null.0 c.requires.known c.if-not-column.true null.1
