-- The laws of the crates below on which the laws of a space stand.
use Rattle.fil_frame.specs.Laws.{SealedPagesAreWhole}
use Rattle.space_header.specs.Laws.{WrittenFieldsAreRead}
use Rattle.extent_map.specs.Laws.{UsedPagesAreOfExtents, BitsAreUsedPages, WrittenExtentsAreRead}
use Rattle.inode_segments.specs.Laws.{WrittenInodesAreRead}
use Rattle.space_audit.specs.Laws.{FragmentClaimsAreEnough}

-- what is read of a page that was written
pub record PageLaws : Type 0 where
  pub sealed : SealedPagesAreWhole
  pub fields : WrittenFieldsAreRead
  pub extents : WrittenExtentsAreRead
  pub inodes : WrittenInodesAreRead

-- which pages of a file are used, and who uses them
pub record UseLaws : Type 0 where
  pub extents : UsedPagesAreOfExtents
  pub bits : BitsAreUsedPages
  pub claims : FragmentClaimsAreEnough

-- all laws of the crates below
pub record LowerLaws : Type 0 where
  pub page : PageLaws
  pub uses : UseLaws
