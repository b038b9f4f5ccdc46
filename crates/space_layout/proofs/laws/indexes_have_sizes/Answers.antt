use Rattle.space_layout.proofs.Indexes.{has_sizes, has_shape}
use Rattle.space_layout.proofs.laws.indexes_have_sizes.Goals as goal

pub returns-clause-sizes : goal.returns-clause-sizes
returns-clause-sizes c = has_sizes

pub returns-clause-shape : goal.returns-clause-shape
returns-clause-shape c = has_shape
