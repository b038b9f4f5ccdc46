use Rattle.std.proofs.Common.{◌∙◌, ap}
use Rattle.schema_text.specs.TableDef.{with_column}
use Rattle.schema_text.proofs.IndexLemmas.{column_added}
use Rattle.schema_text.proofs.ReadLemmas.{found_where}
use Rattle.schema_text.proofs.read.column_line.Goals as goal

pub returns-clause-ok : goal.returns-clause-ok
returns-clause-ok c =
    let t = c.args.part.now in
    let read = c.in_ok-name in
    let h = found_where _ _ _ c.check_column.result c.map_err.result _ c.map_err.ensures.cases read.was
    c.check_column.ensures in
    column_added t _ c.args.line.now (record {
      name = read.name.now;
      kind = read.kind;
      nullable = read.nullable;
    }) h.part h.next h.spelled
    (c.in_ok-add_column.ensures.ok
    ∙ ap (λ n. with_column t (record { name = n; kind = read.kind; nullable = read.nullable })) c.in_ok-owned.ensures)
