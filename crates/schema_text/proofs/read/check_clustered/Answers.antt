use Rattle.std.proofs.Common.{refl}
use Rattle.std.proofs.lemmas.Bool.{false≢true}
use Rattle.schema_text.proofs.ReadLemmas.{clustered_form, clustered_name, clustered_result}
use Rattle.schema_text.proofs.read.check_clustered.Goals as goal

pub returns-then-not-has_clustered_form : goal.returns-then-not-has_clustered_form
returns-then-not-has_clustered_form c = clustered_form _ _
    (λ f. absurd (false≢true (c.if-not-has_clustered_form.ensures.form.1 f)))

pub returns-then-not-are_names : goal.returns-then-not-are_names
returns-then-not-are_names c =
    clustered_name _ _ (c.if-not-has_clustered_form.ensures.form.0 refl)
    (λ f. absurd (false≢true (c.if-not-are_names.ensures.1 f)))

pub returns : goal.returns
returns c =
    clustered_result c.args.part.now c.args.line.now c.at.result.now c.check_key.result
    c.has_clustered_form.ensures.part (c.if-not-has_clustered_form.ensures.form.0 refl)
    (c.if-not-are_names.ensures.0 refl) c.at.ensures c.check_key.ensures
