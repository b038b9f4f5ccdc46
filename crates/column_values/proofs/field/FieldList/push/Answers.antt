use Rattle.std.proofs.Common.{◌≡◌, ◌++◌, ◌∷◌, [], List, map, All, ap, sym, subst, ◌∙◌}
use Rattle.std.proofs.lemmas.List.{map-append}
use Rattle.std.proofs.lemmas.List.Elements.{All-push}
use Rattle.column_values.specs.declared.field.Field.{Field}
use Rattle.column_values.specs.declared.field.Storage.{Storage}
use Rattle.column_values.specs.Types.{storage_of, IsShort}
use Rattle.column_values.proofs.FieldLists.{listed_more}
use Rattle.column_values.proofs.field.FieldList.push.Goals as goal

pub invariant_of-self-in_default : goal.invariant_of-self-in_default
invariant_of-self-in_default c =
    let follow = rw (← c.self.view_is) at c.requires in
    let fields = c.self.inside.fields.items in
    let field = c.args.field in
    let grown : c.push-2.new.self.items ≡ fields ++ field ∷ [] = c.in_default.ensures.items in
    let stored = c.in_ok-push.ensures.items
    ∙ ap (λ (xs : List Storage). xs ++ c.storage_of.result ∷ []) c.self.invariant.1
    ∙ ap (λ (s : Storage). map storage_of fields ++ s ∷ []) c.storage_of.ensures.value
    ∙ sym (map-append storage_of fields (field ∷ [])) ∙ ap (λ (xs : List Field). map storage_of xs) (sym grown) in
    let short : All IsShort c.push.new.self.items = subst (λ (xs : List Storage). All IsShort xs)
    (sym c.in_ok-push.ensures.items)
    (All-push IsShort c.self.inside.stored.items c.storage_of.result c.self.invariant.2
    c.storage_of.ensures.within) in (
      rw grown (listed_more (record {
        fields = fields;
        nullable = c.self.inside.nullable;
        keys =
            c.self.inside.keys;
      }) field c.self.invariant.0 follow),
      stored,
      short,
    )
