use Rattle.std.proofs.Common.{List, length, map, All, ap, sym, subst, ◌∙◌, arith}
use Rattle.compact_record.specs.declared.places.Place.{Place}
use Rattle.compact_record.specs.Reading.{cell_at}
use Rattle.compact_record.specs.Keys.{IsOnPage}
use Rattle.compact_record.proofs.KeySteps.{on_page, count_of_places}
use Rattle.key_lookup.proofs.Keys.{sought_is}
use Rattle.key_lookup.proofs.key.SearchKey.compare_record.Goals as goal

pub compare_fields-requires-clause-first_long : goal.compare_fields-requires-clause-first_long
compare_fields-requires-clause-first_long c =
    let same = ap (λ (ps : List Place). length ps) (c.places.ensures ∙ c.requires.record.read.holds) in
    omega (arith, same, count_of_places c.args.page.now c.args.located.now.origin c.args.fields.now, c.requires.few)

pub compare_fields-requires-clause-first : goal.compare_fields-requires-clause-first
compare_fields-requires-clause-first c =
    let P : List Place → Type 0 = λ ps. All IsOnPage ps in
    subst P (sym (c.places.ensures ∙ c.requires.record.read.holds))
    (on_page c.args.page.now c.args.located.now.origin c.args.fields.now c.requires.record.ends)

pub returns : goal.returns
returns c =
    let items = ap (map (cell_at c.deref.result.now)) c.deref-2.ensures.value in
    let bytes = ap (λ bytes. map (cell_at bytes) c.self.inside.places.items) c.deref.ensures.value in
    sought_is c.args.page.now c.deref.result.now c.args.fields.now c.args.located.now.origin c.places.result.now
    c.deref-2.result.now c.args.self.now c.compare_fields.result c.requires.few
    (c.places.ensures ∙ c.requires.record.read.holds) (items ∙ bytes ∙ c.self.view_is) c.requires.same
    c.compare_fields.ensures
