use Rattle.table_check.proofs.ValuesLaw.{HasChainLaws}
use Rattle.table_check.proofs.ValidLaw.{value_checks_are_values}
use Rattle.table_check.proofs.laws.value_checks_are_values.Goals as goal

pub returns : goal.returns
returns c =
    let laws : HasChainLaws = record { one = c.has_one_chain.ensures; whole = c.checks_are_whole.ensures } in
    λ file table space trees.
    value_checks_are_values laws c.levels_have_the_pages.ensures file table space.extents.head.size.most trees
