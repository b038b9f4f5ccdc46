use Rattle.std.proofs.Common.{arith}
use Rattle.std.proofs.lemmas.List.Sorted.{IsPermutation-trans}
use Rattle.key_ranks.proofs.ties.sort_runs.Goals.{then-ranks-i, else-ranks-i}
use Rattle.key_ranks.proofs.ties.sort_runs.Goals as goal

pub loop-i-preserved : goal.loop-i-preserved
loop-i-preserved g c =
    let held = c.loop-i.invariant in
    elim c.if-ranks-i.branch [
      | then-ranks-i w ↦ (
        omega (arith, w.from-is),
        omega (arith, w.from-is, c.loop-i-test.true),
        rw w.ranks-is (IsPermutation-trans _ _ _ held.2 w.sort_run.ensures),
      )
      | else-ranks-i w ↦ (
        omega (arith, w.from-is, held.0),
        omega (arith, w.from-is, held.1),
        rw w.ranks-is held.2,
      )
    ]

pub returns : goal.returns
returns g c = IsPermutation-trans _ _ _ c.loop-i.invariant.2 c.sort_run-2.ensures
