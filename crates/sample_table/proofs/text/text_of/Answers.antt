use Rattle.std.proofs.Common.{◌∙◌, ◌+◌, sym, ap, ap₂, subst, arith, List, ℕ, ◌++◌}
use Rattle.schema_text.specs.TableDef.{TableDef}
use Rattle.row_text.specs.Line.{line_of, IsTableRow}
use Rattle.sample_table.specs.Sample.{sample_table}
use Rattle.sample_table.proofs.MadeRows.{table_row}
use Rattle.sample_table.proofs.MakingSteps.{text_none, text_more}
use Rattle.sample_table.proofs.text.text_of.Goals as goal

pub loop-i-init : goal.loop-i-init
loop-i-init c = c.new-lines.ensures ∙ sym text_none

pub add_line-requires : goal.add_line-requires
add_line-requires c =
    let few = c.requires.count in
    subst (λ (table : TableDef). IsTableRow table c.in_ok-row.row) (sym c.requires.table)
    (subst (IsTableRow sample_table) (sym c.in_ok-row.ensures) (table_row (c.loop-i.i + 1) (omega arith)))

pub loop-i-preserved : goal.loop-i-preserved
loop-i-preserved c =
    c.in_ok-add_line.ensures
    ∙ ap₂ (λ (front line : List ℕ). front ++ line) c.loop-i.invariant
    (ap (λ (table : TableDef). line_of table c.in_ok-row.row) c.requires.table
    ∙ ap (line_of sample_table) c.in_ok-row.ensures)
    ∙ text_more c.loop-i.i
