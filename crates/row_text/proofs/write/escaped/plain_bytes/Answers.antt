use Rattle.std.proofs.Common.{List, ℕ, subst, sym, arith}
use Rattle.std.proofs.lemmas.List.{take_all}
use Rattle.row_text.specs.Values.{IsPlain}
use Rattle.row_text.proofs.Escapes.{none_is_plain}
use Rattle.row_text.proofs.Groups.{found_front, found_letter}
use Rattle.row_text.proofs.write.escaped.plain_bytes.Goals as goal

pub returns-in-Some-clause-plain : goal.returns-in-Some-clause-plain
returns-in-Some-clause-plain c = found_front c.args.group.now c.in-Some.at (sym c.in-Some.ensures.place)

pub returns-in-Some-clause-found : goal.returns-in-Some-clause-found
returns-in-Some-clause-found c = λ _. found_letter c.args.group.now c.in-Some.at (sym c.in-Some.ensures.place)

pub returns-in-None-clause-plain : goal.returns-in-None-clause-plain
returns-in-None-clause-plain c =
    subst (λ (t : List ℕ). IsPlain t) (sym (take_all 16 c.args.group.now (omega (arith, c.requires))))
    (none_is_plain c.args.group.now (sym c.in-None.ensures.place))
