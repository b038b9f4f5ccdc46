use Rattle.std.proofs.Common.{◌∙◌, ◌++◌, ◌∷◌, codes, decimal, ap}
use Rattle.schema_text.specs.Grammar.{space}
use Rattle.schema_text.specs.Printing.{spaced, names_at}
use Rattle.schema_text.proofs.PrintLemmas.{five_written}
use Rattle.schema_text.proofs.print.push_index.Goals as goal

pub returns : goal.returns
returns c =
    let name = c.in_ok-push_word.ensures ∙ ap (λ n. c.extend.new.self ++ space ∷ n) c.bytes.ensures in
    let names = c.in_ok-push_names.ensures
    ∙ ap (λ ps. c.push_number.new.text ++ spaced (names_at c.args.columns.now ps)) c.items.ensures in
    five_written c.args.text.now (codes "index") c.args.index.now.name (codes "root")
    (decimal c.args.index.now.root) _ _ _ _ _ _ _ c.in_ok-extend.ensures.ok name c.in_ok-push_word-2.ensures
    c.in_ok-push_number.ensures names c.in_ok-push.ensures.ok
