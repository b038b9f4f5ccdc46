use Rattle.std.proofs.Common.{refl}
use Rattle.std.proofs.lemmas.List.Sorted.{IsPermutation-trans}
use Rattle.key_ranks.specs.Ranks.{filler_of}
use Rattle.key_ranks.proofs.RankSteps.{fronts_stay}
use Rattle.key_ranks.proofs.ranks.sort.Goals as goal

pub are_in_order-requires-clause-fronts : goal.are_in_order-requires-clause-fronts
are_in_order-requires-clause-fronts g c =
    fronts_stay (g.K.RowKeys.table c.args.keys.now) (filler_of c.args.kind.now) c.args.digits.now _ _ _
    c.sort_unstable.ensures.permutation refl c.requires.fronts

pub are_in_order-requires-2-clause-fronts : goal.are_in_order-requires-2-clause-fronts
are_in_order-requires-2-clause-fronts g c =
    fronts_stay (g.K.RowKeys.table c.args.keys.now) (filler_of c.args.kind.now) c.args.digits.now _ _ _
    (IsPermutation-trans _ _ _ c.sort_unstable.ensures.permutation c.sort_ties.ensures) refl c.requires.fronts

pub are_in_order-requires-3-clause-fronts : goal.are_in_order-requires-3-clause-fronts
are_in_order-requires-3-clause-fronts g c =
    let tied = IsPermutation-trans _ _ _ c.sort_unstable.ensures.permutation c.sort_ties.ensures in
    fronts_stay (g.K.RowKeys.table c.args.keys.now) (filler_of c.args.kind.now) c.args.digits.now _ _ _
    (IsPermutation-trans _ _ _ tied c.sort_runs.ensures) refl c.requires.fronts

pub returns-then-are_in_order-2-clause-places : goal.returns-then-are_in_order-2-clause-places
returns-then-are_in_order-2-clause-places g c =
    IsPermutation-trans _ _ _ c.sort_unstable.ensures.permutation c.sort_ties.ensures

pub returns-clause-places : goal.returns-clause-places
returns-clause-places g c =
    let tied = IsPermutation-trans _ _ _ c.sort_unstable.ensures.permutation c.sort_ties.ensures in
    IsPermutation-trans _ _ _ tied c.sort_runs.ensures
