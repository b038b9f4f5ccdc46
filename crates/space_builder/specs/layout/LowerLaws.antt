-- The laws of the crates below on which the law of a built tablespace stands.
use Rattle.fil_frame.specs.Laws.{SealedPagesAreWhole}
use Rattle.page_packer.specs.Laws.{PacksIndexPage, PacksWholePage, PacksNumbers, SealingKeepsBody}
use Rattle.offpage_chain.specs.ValuePageLaws.{PartPagesAreRead}
use Rattle.space_layout.specs.Laws.{HoldsSoundSpace, HoldsItsSegments, NumbersDiffer, FileHoldsSpace}
use Rattle.space_layout.specs.Laws.{IndexesHaveSizes, IndexesHaveShape, NumberedPagesAreHeld, NumberedPagesAreFound}
use Rattle.space_layout.specs.Laws.{ValuesHavePlaces}
use Rattle.tree_layout.specs.DivisionLaws.{DivisionGivesLevels, CountsAreOfSizes}
use Rattle.tree_layout.specs.PlaceLaws.{NumbersAreDifferent, PagesFillPlaces}
use Rattle.tree_layout.specs.HeldLaws.{HeadersNameSegments, DividedTreesHaveRows}
use Rattle.row_layout.specs.EntryLaws.{EntriesAreAlike, EntriesCanDivide}
use Rattle.row_layout.specs.Laws.{HeldRowsAreRows, HeldValuesAreSound, NothingIsLeftOver}

-- a page of entries
pub record PageLaws : Type 0 where
  pub packs : PacksIndexPage
  pub whole : PacksWholePage
  pub numbers : PacksNumbers
  pub sealed : SealedPagesAreWhole
  pub seals : SealingKeepsBody
  pub parts : PartPagesAreRead

-- the space of a shape
pub record SpaceLaws : Type 0 where
  pub sizes : IndexesHaveSizes
  pub shape : IndexesHaveShape
  pub numbers : NumbersDiffer
  pub places : ValuesHavePlaces
  pub map : NumberedPagesAreHeld
  pub found : NumberedPagesAreFound
  pub file : FileHoldsSpace
  pub sound : HoldsSoundSpace
  pub segments : HoldsItsSegments

-- the levels of a tree
pub record TreeLaws : Type 0 where
  pub levels : DivisionGivesLevels
  pub counts : CountsAreOfSizes
  pub different : NumbersAreDifferent
  pub places : PagesFillPlaces
  pub names : HeadersNameSegments
  pub rows : DividedTreesHaveRows

-- the values of rows
pub record RowLaws : Type 0 where
  pub divide : EntriesCanDivide
  pub alike : EntriesAreAlike
  pub rows : HeldRowsAreRows
  pub values : HeldValuesAreSound
  pub rest : NothingIsLeftOver

-- all laws of the crates below
pub record LowerLaws : Type 0 where
  pub page : PageLaws
  pub space : SpaceLaws
  pub tree : TreeLaws
  pub row : RowLaws
