use Rattle.std.proofs.Common.{◌∙◌, ap, refl, length, take, List, arith}
use Rattle.compact_record.specs.declared.places.Place.{Place}
use Rattle.compact_record.specs.Reading.{IsSpelled}
use Rattle.compact_record.proofs.FieldSteps.{head_is, end_is, places_are, whole_slice}
use Rattle.compact_record.proofs.KeySteps.{lie_below}
use Rattle.compact_record.proofs.located.Located.again.Goals as goal

pub returns-then-head-origin-clause-exact : goal.returns-then-head-origin-clause-exact
returns-then-head-origin-clause-exact c =
    let head = head_is c.args.page.now c.args.origin c.args.fields.now _ c.in-Some.ensures.lengths in
    (λ sound. (cc), λ spelled. absurd (omega (arith, spelled.room, head, c.nullable.ensures, c.if-head-origin.true)))

pub returns-clause-exact : goal.returns-clause-exact
returns-clause-exact c =
    let head = head_is c.args.page.now c.args.origin c.args.fields.now _ c.in-Some.ensures.lengths in (
      λ _. record {
        room = omega (arith, head, c.nullable.ensures, c.if-head-origin.false);
        each =
            c.in-Some.ensures.spelled.0 refl;
      },
      λ _. (cc),
    )

pub returns-clause-read : goal.returns-clause-read
returns-clause-read c = λ _.
    let page = c.args.page.now in
    let fields = c.args.fields.now in
    let head = head_is page c.args.origin fields _ c.in-Some.ensures.lengths in
    let count = ap (λ xs. length xs) c.fields.ensures.same in
    let spelled : IsSpelled page c.args.origin fields =
    record {
      room = omega (arith, head, c.nullable.ensures, c.if-head-origin.false);
      each =
          c.in-Some.ensures.spelled.0 refl;
    } in
    let whole = c.read_places.auto.places ∙ c.deref_mut.ensures.len in
    record {
      spelled = spelled;
      stands = refl;
      starts = omega (arith, head, c.nullable.ensures);
      ends = end_is page c.args.origin fields _ c.in-Some.ensures.local;
      holds =
          ap (λ (xs : List Place). take (length c.fields.result.now) xs)
          (whole_slice c.read_places.new.places _ _ whole)
          ∙ places_are page c.args.origin fields c.read_places.new.places _ count
          (omega (arith, count, whole, c.requires.room, c.deref_mut.ensures.len, ap (λ r. r.members) c.self.view_is))
          (c.in-Some.ensures.places refl);
    }

pub returns-clause-lies : goal.returns-clause-lies
returns-clause-lies c = λ t. lie_below c.args.page.now c.args.origin c.args.fields.now _ (returns-clause-read c t)
