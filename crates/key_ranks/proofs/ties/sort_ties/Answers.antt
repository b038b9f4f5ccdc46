use Rattle.std.proofs.Common.{◌-◌, ◌/◌, ◌^◌, ◌∙◌, ℕ, get_or, length, ap, arith, inl, inr, ◌≡◌}
use Rattle.std.proofs.lemmas.Bool.{cases_lt}
use Rattle.std.proofs.lemmas.List.Sorted.{IsPermutation-trans, IsPermutation-put_mid}
use Rattle.key_ranks.proofs.ties.sort_ties.Goals.{then-ranks-i, else-ranks-i}
use Rattle.key_ranks.proofs.ties.sort_ties.Goals as goal

pub loop-i-preserved : goal.loop-i-preserved
loop-i-preserved g c =
    let held = c.loop-i.invariant in
    let ranks = c.loop-i.ranks in
    elim c.if-ranks-i.branch [
      | then-ranks-i w ↦ record {
        begun = omega (arith, w.from-is);
        within = omega (arith, w.from-is, c.loop-i-test.true);
        front = λ j least below.
            let e : j ≡ c.if-ranks-i.from = omega (arith, w.from-is, least, below) in
            ap (λ (n : ℕ). get_or c.if-ranks-i.ranks n 0 / 2 ^ 24) e;
        places = rw w.ranks-is
            (IsPermutation-trans _ _ _ held.places
            (IsPermutation-put_mid c.loop-i.from (c.loop-i.i - c.loop-i.from) ranks _ w.sort_tie.ensures));
      }
      | else-ranks-i w ↦ rw (w.from-is, w.ranks-is) (record {
        begun = omega (arith, held.begun);
        within = held.within;
        front = λ j least below. elim (cases_lt j c.loop-i.i) [
          | inl less ↦ held.front j least less
          | inr more ↦
              let e : j ≡ c.loop-i.i = omega (arith, more, below) in
              ap (λ (n : ℕ). get_or ranks n 0 / 2 ^ 24) e
              ∙ omega (
                arith,
                w.if-ranks-i,
                held.front (c.loop-i.i - 1) (omega (arith, held.begun)) (omega (arith, held.begun)),
              )
        ];
        places = held.places;
      })
    ]

pub returns : goal.returns
returns g c =
    IsPermutation-trans _ _ _ c.loop-i.invariant.places
    (IsPermutation-put_mid c.loop-i.from (length c.loop-i.ranks - c.loop-i.from) c.loop-i.ranks _ c.sort_tie-2.ensures)
