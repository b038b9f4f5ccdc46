-- A file that holds the tree into which some leaf entries are divided.
use Rattle.std.specs.Prelude.{◌≡◌, ℕ, ◌+◌, ◌*◌, ◌<◌, ◌≤◌, ◌==◌, List}
use Rattle.page_source.specs.Pages.{fil_null, page_of, num}
use Rattle.fil_frame.specs.Frame.{space_of}
use Rattle.space_header.specs.declared.address.Address.{Address}
use Rattle.space_header.specs.Header.{address_at}
use Rattle.inode_segments.specs.Inodes.{segments, segment_count}
use Rattle.fil_frame.specs.Kinds.{index_kind}
use Rattle.index_page.specs.Header.{index_id_of}
use Rattle.space_audit.specs.Space.{IsPageOf, segment_with_address}
use Rattle.tree_walk.specs.Index.{Index, page_in, fields_on}
use Rattle.tree_walk.specs.Segments.{NamesSegments, leaf_segment, top_segment}
use Rattle.tree_walk.specs.Place.{IsBeside}
use Rattle.tree_walk.specs.TreeChecks.{before, after}
use Rattle.tree_layout.specs.Entries.{Entry}
use Rattle.tree_layout.specs.Division.{Level, tree_levels, level_counts, CanDivide}
use Rattle.tree_layout.specs.Levels.{EachPage, page_entries, is_top, numbers_at}
use Rattle.tree_layout.specs.Places.{segment_for, tree_number, top_size, leaf_size}
use Rattle.tree_layout.specs.Built.{IsBuiltPage}

-- how many pages each level has, whatever numbers they get
unfoldable pub counts_for : Index → List Entry → List ℕ
counts_for index entries = level_counts (tree_levels index.leaf index.node (λ l k. 0) entries)

-- the numbers of the pages of a tree, where `page s i` is that of page i of segment s, and the levels with these
-- numbers
unfoldable pub numbers_for : Index → (ℕ → ℕ → ℕ) → ℕ → List Entry → ℕ → ℕ → ℕ
numbers_for index page j entries l k = tree_number page (counts_for index entries) j l k

unfoldable pub levels_for : Index → (ℕ → ℕ → ℕ) → ℕ → List Entry → List Level
levels_for index page j entries = tree_levels index.leaf index.node (numbers_for index page j entries) entries

-- the headers of the root name the inodes of segments 2j + 1 and 2j, which stand at these places
pub record NamesPlaces (index : Index) (count : ℕ) (place : ℕ → Address) (j : ℕ) : Type 0 where
  pub within : 2 * j + 1 < count
  pub known : segment_count index.file ≡ count
  pub found : (s : ℕ) → s < count → segment_with_address (segments index.file) (place s) ≡ s
  pub leaf : address_at (page_in index index.root) 78 ≡ place (2 * j + 1)
  pub top : address_at (page_in index index.root) 88 ≡ place (2 * j)
  pub leaf_space : num (page_in index index.root) 74 4 ≡ space_of (page_of index.file 0)
  pub top_space : num (page_in index index.root) 84 4 ≡ space_of (page_of index.file 0)

-- segments 2j and 2j + 1 are those of the index
pub record NamesTwoSegments (index : Index) (j : ℕ) : Type 0 where
  pub names : NamesSegments index
  pub top : top_segment index ≡ 2 * j
  pub leaf : leaf_segment index ≡ 2 * j + 1

-- the segments of index j, with room for the pages of its tree
pub record OwnsSegments (index : Index) (size : ℕ → ℕ) (j : ℕ) (entries : List Entry) : Type 0 where
  pub named : NamesTwoSegments index j
  pub top_room : top_size (counts_for index entries) ≤ size (2 * j)
  pub leaf_room : leaf_size (counts_for index entries) ≤ size (2 * j + 1)

-- the pages of these levels stand in the file, side by side
pub record HasPages (index : Index) (j : ℕ) (counts : List ℕ) (numbers : ℕ → ℕ → ℕ) (levels : List Level)
    : Type 0 where
  pub pages : EachPage levels (λ l k. IsBuiltPage (fields_on index l) (page_in index (numbers l k)) l (is_top levels l)
      (k == 0) (page_entries levels l k))
  pub id : ℕ
  pub ids : EachPage levels (λ l k. index_id_of (page_in index (numbers l k)) ≡ id)
  pub beside : EachPage levels (λ l k. IsBeside (page_in index (numbers l k)) (before (numbers_at levels numbers l) k)
      (after (numbers_at levels numbers l) k))
  pub used : EachPage levels (λ l k. IsPageOf index.file (segment_for counts j l) index_kind (numbers l k))
  pub small : EachPage levels (λ l k. numbers l k < fil_null)

-- the file holds the divided tree of these entries as its index j
pub record HoldsDivided (index : Index) (page : ℕ → ℕ → ℕ) (size : ℕ → ℕ) (j : ℕ) (entries : List Entry)
    : Type 0 where
  pub can : CanDivide index.leaf index.node entries
  pub root : index.root ≡ page (2 * j) 0
  pub segments : OwnsSegments index size j entries
  pub pages : HasPages index j (counts_for index entries) (numbers_for index page j entries)
      (levels_for index page j entries)
