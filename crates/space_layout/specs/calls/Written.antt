-- Pages as they are written, field by field.
use Rattle.std.specs.Prelude.{ℕ, List, take, flat_map}
use Rattle.page_source.specs.Pages.{with_bytes}
use Rattle.extent_map.specs.Writing.{extent_bytes}
use Rattle.inode_segments.specs.Writing.{inode_bytes}
use Rattle.space_layout.specs.HeadPages.{descriptors, inodes}

-- the page with the first n descriptors, and with the first n inodes
unfoldable pub with_descriptors : List ℕ → List ℕ → ℕ → List ℕ
with_descriptors page sizes n = with_bytes page 150 (flat_map extent_bytes (take n (descriptors sizes)))

unfoldable pub with_inodes : List ℕ → List ℕ → ℕ → List ℕ
with_inodes page sizes n = with_bytes page 50 (flat_map inode_bytes (take n (inodes sizes)))
