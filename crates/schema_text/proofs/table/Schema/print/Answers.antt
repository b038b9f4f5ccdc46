use Rattle.std.proofs.Common.{◌∙◌, ◌++◌, List, ap, length, arith}
use Rattle.std.specs.Prelude.{flat_map}
use Rattle.std.proofs.lemmas.List.{take_rest}
use Rattle.schema_text.specs.declared.table.IndexDef.{IndexDef}
use Rattle.schema_text.specs.Grammar.{line_of}
use Rattle.schema_text.specs.Printing.{index_by}
use Rattle.schema_text.proofs.PrintLemmas.{all_printed}
use Rattle.schema_text.proofs.table.Schema.print.Goals as goal

pub returns : goal.returns
returns c =
    let size = ap length c.indexes-indexes.ensures.same in
    all_printed c.args.self.now c.index-indexes-0.result c.columns-columns.result.now c.indexes-indexes.result.now _ _
    _ _ _ c.columns-columns.ensures.same c.indexes-indexes.ensures.same
    (omega (arith, size, c.indexes-indexes.ensures.table.clustered)) c.index-indexes-0.is c.new-text.ensures
    c.in_ok-push_table.ensures c.in_ok-push_columns.ensures c.in_ok-push_clustered.ensures
    (c.in_ok-push_indexes.ensures
    ∙ ap (λ (ix : List IndexDef). c.push_clustered.new.text
    ++ flat_map (λ (x : IndexDef). line_of (index_by c.columns-columns.result.now x)) ix)
    (take_rest c.indexes-indexes.result.now 1))
