use Rattle.std.proofs.Common.{◌≡◌, [], ◌∷◌, arith}
use Rattle.schema_text.specs.Refusals.{type_part}
use Rattle.schema_text.proofs.TypeLemmas.{too_long, length_type_part, two_on_line, three_on_line}
use Rattle.schema_text.proofs.types.type_on.Goals as goal

pub returns-in-5 : goal.returns-in-5
returns-in-5 c =
    let e : type_part c.args.line.now ≡ c.at-in-5.result.now ∷ c.at-in-5-2.result.now ∷ [] =
    rw (c.at-in-5.ensures, c.at-in-5-2.ensures) (two_on_line c.args.line.now (omega arith)) in
    rw e c.two_words.ensures

pub returns-in-6 : goal.returns-in-6
returns-in-6 c =
    let e : type_part c.args.line.now ≡ c.at-in-6.result.now ∷ c.at-in-6-2.result.now ∷ c.at-in-6-3.result.now ∷ [] =
    rw (c.at-in-6.ensures, c.at-in-6-2.ensures, c.at-in-6-3.ensures) (three_on_line c.args.line.now (omega arith)) in
    rw e c.three_words.ensures

pub returns-in_default : goal.returns-in_default
returns-in_default c = λ form. let size = length_type_part c.args.line.now c.requires in too_long _ (omega arith) form
