use Rattle.std.proofs.Common.{◌≡◌, ◌∙◌, codes, sym, subst, arith}
use Rattle.std.proofs.lemmas.List.{length-drop}
use Rattle.std.proofs.lemmas.Slice.Eq.{bytes_eq-Decides}
use Rattle.schema_text.specs.Grammar.{IsName}
use Rattle.schema_text.specs.Refusals.{word}
use Rattle.schema_text.proofs.IndexLemmas.{next_index, index_line_is, index_added}
use Rattle.schema_text.proofs.ReadLemmas.{found_where}
use Rattle.schema_text.proofs.read.index_line.Goals as goal

pub add_index-requires : goal.add_index-requires
add_index-requires c =
    let h = found_where _ _ _ c.check_index.result c.map_err.result _ c.map_err.ensures.cases c.in_ok-root.was
    c.check_index.ensures in
    let keys = length-drop 4 c.args.line.now in
    next_index c.args.part.now _ _ c.in_ok-index.ensures (h.part.indexes.behind h.behind)
    (λ none. absurd (omega (arith, h.behind)))
    (λ _. (subst IsName (sym c.at.ensures) h.name, omega (arith, h.form.0)))

pub returns-clause-ok : goal.returns-clause-ok
returns-clause-ok c =
    let h = found_where _ _ _ c.check_index.result c.map_err.result _ c.map_err.ensures.cases c.in_ok-root.was
    c.check_index.ensures in
    let t = c.args.part.now in
    let line = c.args.line.now in
    let x = c.in_ok-index.index in
    let read = c.in_ok-index.ensures in
    let keys = length-drop 4 line in
    let next = next_index t _ x read (h.part.indexes.behind h.behind) (λ none. absurd (omega (arith, h.behind)))
    (λ _. (subst IsName (sym c.at.ensures) h.name, omega (arith, h.form.0))) in
    let first : word line 0 ≡ codes "index" = (bytes_eq-Decides (word line 0) (codes "index")).0 c.requires in
    let spelled = index_line_is t line x h.form.0 first (sym c.at.ensures ∙ sym read.name) h.form.1 (h.number
    ∙ read.root) read.places in
    index_added t _ line x h.part next h.behind spelled c.in_ok-add_index.ensures.ok
