use Rattle.std.proofs.Common.{◌/◌, ◌^◌, get_or}
use Rattle.std.proofs.lemmas.List.Sorted.{IsPermutation-trans}
use Rattle.key_ranks.proofs.TieSteps.{front_put}
use Rattle.key_ranks.proofs.ties.sort_tie.Goals as goal

pub returns : goal.returns
returns g c =
    front_put (get_or c.args.ranks.now 0 0 / 2 ^ 24) c.args.ranks.now c.put_next_fronts.new.ranks
    c.sort_runs.new.ranks c.put_front.new.ranks c.requires.front c.put_next_fronts.ensures
    (IsPermutation-trans _ _ _ c.sort_unstable.ensures.permutation c.sort_runs.ensures) c.put_front.ensures
