use Rattle.std.proofs.Common.{false, List, length, get_or, ap, ◌∙◌, arith}
use Rattle.page_source.specs.Pages.{num}
use Rattle.compact_record.specs.declared.places.Place.{Place}
use Rattle.compact_record.specs.Keys.{child_at}
use Rattle.compact_record.proofs.KeySteps.{count_of_places, place_read, child_fits}
use Rattle.compact_record.proofs.located.Located.child.Goals as goal

pub bounds-places-keys : goal.bounds-places-keys
bounds-places-keys c =
    let same = ap (λ (ps : List Place). length ps) (c.places.ensures ∙ c.requires.this.read.holds) in
    omega (
      arith,
      same,
      count_of_places c.args.page.now c.args.self.now.origin c.args.fields.now,
      c.requires.pointers.inside,
      c.keys.ensures,
    )

pub read_be-requires-clause-inside : goal.read_be-requires-clause-inside
read_be-requires-clause-inside c =
    let none : Place = record { null = false; external = false; from = 0; until = 0 } in
    let here = ap (λ i. get_or c.places.result.now i none) c.keys.ensures in
    let is = place_read c.args.page.now c.args.self.now.origin c.args.fields.now c.places.result.now
    c.args.fields.now.keys none _ (c.places.ensures ∙ c.requires.this.read.holds) c.requires.pointers.inside here in
    child_fits c.args.page.now c.args.self.now.origin c.args.fields.now _ c.requires.pointers c.requires.this.ends is

pub returns : goal.returns
unfolding child_at
returns c =
    let none : Place = record { null = false; external = false; from = 0; until = 0 } in
    let here = ap (λ i. get_or c.places.result.now i none) c.keys.ensures in
    let is = place_read c.args.page.now c.args.self.now.origin c.args.fields.now c.places.result.now
    c.args.fields.now.keys none _ (c.places.ensures ∙ c.requires.this.read.holds) c.requires.pointers.inside here in
    c.read_be.ensures.number ∙ ap (λ (p : Place). num c.args.page.now p.from 4) is
