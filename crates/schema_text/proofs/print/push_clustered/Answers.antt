use Rattle.std.proofs.Common.{◌∙◌, ◌++◌, codes, decimal, ap}
use Rattle.schema_text.specs.Printing.{spaced, names_at}
use Rattle.schema_text.proofs.PrintLemmas.{four_written}
use Rattle.schema_text.proofs.print.push_clustered.Goals as goal

pub returns : goal.returns
returns c =
    let names = c.in_ok-push_names.ensures
    ∙ ap (λ ps. c.push_number.new.text ++ spaced (names_at c.args.columns.now ps)) c.items.ensures in
    four_written c.args.text.now (codes "clustered") (codes "root")
    (decimal c.args.index.now.root) _ _ _ _ _ _ c.in_ok-extend.ensures.ok c.in_ok-push_word.ensures
    c.in_ok-push_number.ensures names c.in_ok-push.ensures.ok
