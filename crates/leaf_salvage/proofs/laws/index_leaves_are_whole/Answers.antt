use Rattle.std.proofs.Common.{true}
use Rattle.index_page.specs.Header.{records_of}
use Rattle.leaf_salvage.proofs.Checks.{checks_none}
use Rattle.leaf_salvage.proofs.laws.index_leaves_are_whole.Goals as goal

pub returns : goal.returns
returns c page fields root leftmost is =
    checks_none page fields root leftmost
    ((c.checks_are_an_index_page.ensures page fields true root leftmost).1 (records_of page, is))
