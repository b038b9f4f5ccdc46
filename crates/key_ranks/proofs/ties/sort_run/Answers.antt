use Rattle.std.proofs.Common.{◌-◌}
use Rattle.std.proofs.lemmas.List.Sorted.{IsPermutation-put_mid}
use Rattle.key_ranks.proofs.ties.sort_run.Goals as goal

pub returns : goal.returns
returns g c =
    IsPermutation-put_mid c.args.from (c.args.until - c.args.from) c.args.ranks.now c.sort_unstable_by.new.self
    c.sort_unstable_by.ensures.permutation
