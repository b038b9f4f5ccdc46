use Rattle.std.proofs.Common.{◌≡◌, ◌∙◌, codes, refl, arith}
use Rattle.std.proofs.lemmas.Slice.Eq.{bytes_eq-Decides}
use Rattle.schema_text.specs.Refusals.{word}
use Rattle.schema_text.proofs.IndexLemmas.{next_index, clustered_line_is, clustered_added}
use Rattle.schema_text.proofs.ReadLemmas.{found_where}
use Rattle.schema_text.proofs.read.clustered_line.Goals as goal

pub add_index-requires : goal.add_index-requires
add_index-requires c =
    let h = found_where _ _ _ c.check_clustered.result c.map_err.result _ c.map_err.ensures.cases c.in_ok-root.was
    c.check_clustered.ensures in
    next_index c.args.part.now _ _ c.in_ok-index.ensures h.columns (λ _. refl)
    (λ some. absurd (omega (arith, h.first)))

pub returns-clause-ok : goal.returns-clause-ok
returns-clause-ok c =
    let h = found_where _ _ _ c.check_clustered.result c.map_err.result _ c.map_err.ensures.cases c.in_ok-root.was
    c.check_clustered.ensures in
    let t = c.args.part.now in
    let line = c.args.line.now in
    let x = c.in_ok-index.index in
    let read = c.in_ok-index.ensures in
    let next = next_index t _ x read h.columns (λ _. refl) (λ some. absurd (omega (arith, h.first))) in
    let first : word line 0 ≡ codes "clustered" = (bytes_eq-Decides (word line 0) (codes "clustered")).0 c.requires in
    let spelled = clustered_line_is t line x h.form.0 first h.form.1 (h.number ∙ read.root) read.places in
    clustered_added t _ line x h.part next h.first spelled c.in_ok-add_index.ensures.ok
