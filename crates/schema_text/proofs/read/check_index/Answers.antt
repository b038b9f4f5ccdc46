use Rattle.std.proofs.Common.{refl}
use Rattle.std.proofs.lemmas.Bool.{false≢true}
use Rattle.schema_text.proofs.ReadLemmas.{index_form, index_name, index_result}
use Rattle.schema_text.proofs.read.check_index.Goals as goal

pub returns-then-not-has_index_form : goal.returns-then-not-has_index_form
returns-then-not-has_index_form c = index_form _ _ (λ f. absurd (false≢true (c.if-not-has_index_form.ensures.form.1 f)))

pub returns-then-not-has_names : goal.returns-then-not-has_names
returns-then-not-has_names c =
    index_name _ _ (c.if-not-has_index_form.ensures.form.0 refl)
    (λ f. absurd (false≢true (c.if-not-has_names.ensures.1 f)))

pub returns : goal.returns
returns c =
    let names = c.if-not-has_names.ensures.0 refl in
    index_result c.args.part.now c.args.line.now c.at.result.now c.at-2.result.now c.check_key.result
    c.has_index_form.ensures.part
    (c.if-not-has_index_form.ensures.form.0 refl) names.0 names.1 c.at.ensures c.at-2.ensures c.check_key.ensures
