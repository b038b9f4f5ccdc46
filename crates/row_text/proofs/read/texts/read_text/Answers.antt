use Rattle.std.proofs.Common.{List, ℕ, drop, subst, sym}
use Rattle.std.proofs.lemmas.Bool.{iff_false}
use Rattle.std.proofs.lemmas.List.{take_rest}
use Rattle.column_values.specs.declared.value.Value.TheVariants as values
use Rattle.column_values.specs.Spell.{IsValueOf}
use Rattle.row_text.specs.calls.Values.{EndsValue}
use Rattle.row_text.proofs.QuotedValues.{no_text}
use Rattle.row_text.proofs.read.texts.read_text.Goals as goal

pub returns-then-not-is_text_of-clause-found : goal.returns-then-not-is_text_of-clause-found
returns-then-not-is_text_of-clause-found c =
    let inside = c.in_ok-inside.inside in
    no_text c.args.kind.now c.args.text.now inside (drop c.in_ok-inside.size c.args.text.now) c.requires.quoted
    c.in_ok-inside.ensures.found
    (λ is ends. iff_false c.is_text_of.ensures c.if-not-is_text_of.true
    (subst (λ (t : List ℕ). IsValueOf c.args.kind.now (values.Text t)) (sym c.bytes.ensures) is))

pub returns-then-not-ends_value-clause-found : goal.returns-then-not-ends_value-clause-found
returns-then-not-ends_value-clause-found c =
    let inside = c.in_ok-inside.inside in
    let text = c.args.text.now in
    no_text c.args.kind.now text inside (drop c.in_ok-inside.size text) c.requires.quoted c.in_ok-inside.ensures.found
    (λ is ends. iff_false c.ends_value.ensures c.if-not-ends_value.true
    (subst EndsValue (sym (take_rest text c.in_ok-inside.size)) ends))
