use Rattle.std.proofs.Common.{◌≡◌, [], List, ℕ, reverse, sym, ap, ◌∙◌}
use Rattle.std.proofs.lemmas.Bool.{not-true}
use Rattle.page_source.specs.Pages.{with_bytes}
use Rattle.column_values.specs.declared.field.Storage.{Storage}
use Rattle.column_values.specs.Types.{field_at}
use Rattle.compact_record.specs.declared.parts.Part.{Part}
use Rattle.compact_record.specs.Writing.{length_of_part}
use Rattle.compact_record.proofs.WriteSteps.{with_bytes-none, no_length}
use Rattle.compact_record.proofs.writing.put_length.Goals as goal

pub returns-in_default-clause-page : goal.returns-in_default-clause-page
returns-in_default-clause-page c =
    let none : length_of_part (field_at c.args.fields.now c.args.i, c.args.part.now) ≡ [] =
    ap (λ (p : Part). length_of_part (field_at c.args.fields.now c.args.i, p)) c.in_default.is in
    with_bytes-none c.args.page.now c.args.at
    ∙ ap (λ (xs : List ℕ). with_bytes c.args.page.now c.args.at (reverse xs)) (sym none)

pub returns-then-not-stored-clause-page : goal.returns-then-not-stored-clause-page
returns-then-not-stored-clause-page c =
    let none = no_length (field_at c.args.fields.now c.args.i) c.args.part.now
    (ap (λ (s : Storage). s.variable) (sym c.storage_at-stored.ensures.value) ∙ not-true _ c.if-not-stored.true) in
    with_bytes-none c.args.page.now c.args.at
    ∙ ap (λ (xs : List ℕ). with_bytes c.args.page.now c.args.at (reverse xs)) (sym none)
