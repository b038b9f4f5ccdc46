-- The laws on which the putting of a tree stands.
use Rattle.page_packer.specs.Laws.{PushesEntries, PointersPoint}
use Rattle.space_layout.specs.Laws.{NumbersDiffer}
use Rattle.tree_layout.specs.DivisionLaws.{DivisionGivesLevels, CountsNeedNoNumbers}
use Rattle.tree_layout.specs.PlaceLaws.{NumbersAreDifferent}
use Rattle.tree_layout.specs.Steps.{DivisionGoesOn, LevelsStand}
use Rattle.space_builder.specs.layout.TreeSpot.{PagesArePacked}

pub record PutLaws : Type 0 where
  pub pushes : PushesEntries
  pub point : PointersPoint
  pub packed : PagesArePacked
  pub numbers : NumbersDiffer
  pub different : NumbersAreDifferent
  pub goes : DivisionGoesOn
  pub stand : LevelsStand
  pub levels : DivisionGivesLevels
  pub counts : CountsNeedNoNumbers
