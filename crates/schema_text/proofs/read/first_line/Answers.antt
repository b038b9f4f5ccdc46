use Rattle.std.proofs.Common.{◌∙◌, sym}
use Rattle.schema_text.proofs.ReadLemmas.{table_begun, found_where}
use Rattle.schema_text.proofs.read.first_line.Goals as goal

pub returns-clause-ok : goal.returns-clause-ok
returns-clause-ok c =
    let found = found_where _ _ _ c.check_table.result c.map_err.result _ c.map_err.ensures.cases c.in_ok-name.was
    c.check_table.ensures in
    table_begun _ _ _ _ _ found.0 c.in_ok-owned.ensures (sym c.in_ok-words.ensures ∙ found.2) c.new.ensures
