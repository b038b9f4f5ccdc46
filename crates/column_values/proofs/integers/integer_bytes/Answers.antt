use Rattle.std.proofs.Common.{arith, rules}
use Rattle.std.proofs.lemmas.Int.{to_z-of_z}
use Rattle.std.proofs.lemmas.Bool.{false≢true}
use mir.Syntax.{w128}
use mir.Val.{SFits}
use Rattle.column_values.proofs.IntegerValues.{integer_in_range}
use Rattle.column_values.proofs.integers.integer_bytes.Goals as goal

pub returns-then-not-holds : goal.returns-then-not-holds
returns-then-not-holds c = λ is.
    let range = integer_in_range c.args.width c.args.signed c.args.value.now c.in-Some.number
    (omega (arith, c.requires)) c.in-Some.ensures is in
    let fits : SFits w128 c.in-Some.number = search rules in
    let none = simp to_z-of_z at c.if-not-holds.ensures.1 in
    absurd (false≢true (none range))
