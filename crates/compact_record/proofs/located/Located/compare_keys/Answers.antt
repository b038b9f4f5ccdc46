use Rattle.std.proofs.Common.{List, length, All, ap, sym, subst, ◌∙◌, arith}
use Rattle.compact_record.specs.declared.places.Place.{Place}
use Rattle.compact_record.specs.Keys.{IsOnPage}
use Rattle.compact_record.proofs.KeySteps.{on_page, count_of_places, order_of_keys, same_keys}
use Rattle.compact_record.proofs.located.Located.compare_keys.Goals as goal

pub compare_keys-requires-clause-first_long : goal.compare_keys-requires-clause-first_long
compare_keys-requires-clause-first_long c =
    let same = ap (λ (ps : List Place). length ps) (c.places.ensures ∙ c.requires.this.read.holds) in
    omega (arith, same, count_of_places c.args.page.now c.args.self.now.origin c.args.fields.now, c.requires.few)

pub compare_keys-requires-clause-second_long : goal.compare_keys-requires-clause-second_long
compare_keys-requires-clause-second_long c =
    let same = ap (λ (ps : List Place). length ps) (c.places-2.ensures ∙ c.requires.that.read.holds) in
    let keys = same_keys c.args.fields.now c.args.other_fields.now c.requires.few c.requires.other_few
    c.requires.kinds in
    omega (
      arith,
      same,
      keys,
      count_of_places c.args.other_page.now c.args.other.now.origin c.args.other_fields.now,
      c.requires.other_few,
    )

pub compare_keys-requires-clause-first : goal.compare_keys-requires-clause-first
compare_keys-requires-clause-first c =
    let P : List Place → Type 0 = λ ps. All IsOnPage ps in
    subst P (sym (c.places.ensures ∙ c.requires.this.read.holds))
    (on_page c.args.page.now c.args.self.now.origin c.args.fields.now c.requires.this.ends)

pub compare_keys-requires-clause-second : goal.compare_keys-requires-clause-second
compare_keys-requires-clause-second c =
    let P : List Place → Type 0 = λ ps. All IsOnPage ps in
    subst P (sym (c.places-2.ensures ∙ c.requires.that.read.holds))
    (on_page c.args.other_page.now c.args.other.now.origin c.args.other_fields.now c.requires.that.ends)

pub returns : goal.returns
returns c =
    order_of_keys c.args.page.now c.args.other_page.now c.args.fields.now c.args.other_fields.now
    c.args.self.now.origin c.args.other.now.origin _ _ _
    c.requires.few c.requires.other_few c.requires.kinds (c.places.ensures
    ∙ c.requires.this.read.holds) (c.places-2.ensures ∙ c.requires.that.read.holds) c.compare_keys.ensures
