use Rattle.std.proofs.Common.{arith}
use Rattle.std.proofs.lemmas.Bool.Decides.{nat_tests}
use Rattle.page_source.specs.Pages.{num}
use Rattle.column_values.proofs.moments.year.Goals as goal

pub returns-in-0 : goal.returns-in-0
unfolding num
returns-in-0 c = record { size = omega arith; counted = grind (arith, nat_tests) }

pub returns-in_default : goal.returns-in_default
unfolding num
returns-in_default c = record { size = omega arith; counted = grind (arith, nat_tests) }
