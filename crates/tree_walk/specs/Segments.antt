-- The two segments that a root names (fsp0fsp).
use Rattle.std.specs.Prelude.{◌≡◌, ◌≢◌, ℕ, ◌+◌, ◌<◌, Bool, ◌==◌, if◌then◌else◌, List, [], ◌∷◌, length, false}
use Rattle.page_source.specs.Pages.{page_of, num}
use Rattle.fil_frame.specs.Frame.{space_of}
use Rattle.space_header.specs.declared.address.Address.{Address}
use Rattle.space_header.specs.Header.{address_at}
use Rattle.inode_segments.specs.Inodes.{segments, segment_count}
use Rattle.space_audit.specs.Space.{SpaceView, segment_with_address}
use Rattle.tree_walk.specs.Index.{Index, page_in}

-- the segment whose inode a header names, by position: a header is a space, a page and a byte
abbrev pub segment_in : List Address → List ℕ → ℕ → ℕ
segment_in segments page at = segment_with_address segments (address_at page (at + 4))

-- the segment that a header of the root names
unfoldable pub segment_named_at : Index → ℕ → ℕ
segment_named_at index at = segment_in (segments index.file) (page_in index index.root) at

-- the segment for the leaves, and the one for the pages above
abbrev pub leaf_segment : Index → ℕ
leaf_segment index = segment_named_at index 74

abbrev pub top_segment : Index → ℕ
top_segment index = segment_named_at index 84

abbrev pub named_segments : Index → List ℕ
named_segments index = leaf_segment index ∷ top_segment index ∷ []

-- the segment of the pages of a level
abbrev pub segment_at : Index → ℕ → ℕ
segment_at index level = if level == 0 then leaf_segment index else top_segment index

-- the root names two different segments of this space
pub record NamesSegments (index : Index) : Type 0 where
  pub leaf_space : num (page_in index index.root) 74 4 ≡ space_of (page_of index.file 0)
  pub top_space : num (page_in index index.root) 84 4 ≡ space_of (page_of index.file 0)
  pub leaf_known : leaf_segment index < segment_count index.file
  pub top_known : top_segment index < segment_count index.file
  pub differ : leaf_segment index ≢ top_segment index

-- a page names two different segments of an audited space, by what is known of that, and none of them was named before
pub record AreNewSegments (space : SpaceView) (named : ℕ → Bool) (page : List ℕ) (leaf top : ℕ) : Type 0 where
  pub leaf_space : num page 74 4 ≡ space.id
  pub top_space : num page 84 4 ≡ space.id
  pub leaf_known : leaf < length space.segments
  pub top_known : top < length space.segments
  pub differ : leaf ≢ top
  pub leaf_new : named leaf ≡ false
  pub top_new : named top ≡ false
