-- Page k of a level of a built tree.
use Rattle.std.specs.Prelude.{ℕ, ◌+◌, ◌*◌, ◌==◌, if◌then◌else◌, List, length, map, flat_map, Option, Some, None}
use Rattle.std.specs.List.{range_with_len}
use Rattle.fil_frame.specs.Kinds.{index_kind}
use Rattle.fil_frame.specs.Frame.{sealed}
use Rattle.column_values.specs.Types.{Fields}
use Rattle.inode_segments.specs.Inodes.{inode_byte}
use Rattle.tree_walk.specs.TreeChecks.{before, after}
use Rattle.page_packer.specs.declared.packer.Heads.{Heads}
use Rattle.page_packer.specs.Entries.{page_of_entries}
use Rattle.space_layout.specs.NumberedPages.{Numbered}
use Rattle.tree_layout.specs.Division.{Level}
use Rattle.tree_layout.specs.Levels.{page_entries, width_at, is_top, numbers_at}

-- the segment headers of the root of index j, which no other page has
abbrev pub heads_of : ℕ → Heads
heads_of j = record { space = 1; page = 2; leaf = inode_byte (2 * j + 1); top = inode_byte (2 * j) }

abbrev pub heads_on : List Level → ℕ → ℕ → Option Heads
heads_on levels j l = if is_top levels l then Some (heads_of j) else None

-- the fields of the records of a level
abbrev pub fields_of_level : Fields → Fields → ℕ → Fields
fields_of_level leaf node l = if l == 0 then leaf else node

-- page k of level l of the tree of index j, before its frame is made
unfoldable pub tree_body : Fields → Fields → (ℕ → ℕ → ℕ) → List Level → ℕ → ℕ → ℕ → List ℕ
tree_body leaf node numbers levels j l k =
    page_of_entries (fields_of_level leaf node l) l (k == 0) (page_entries levels l k)
    (before (numbers_at levels numbers l) k) (after (numbers_at levels numbers l) k) (j + 1) (heads_on levels j l)

-- the page
unfoldable pub tree_page : Fields → Fields → (ℕ → ℕ → ℕ) → List Level → ℕ → ℕ → ℕ → List ℕ
tree_page leaf node numbers levels j l k =
    sealed (tree_body leaf node numbers levels j l k) (numbers l k) 1 1 index_kind

-- the pages of a level, each with its number, and those of all levels
abbrev pub pages_of_level : Fields → Fields → (ℕ → ℕ → ℕ) → List Level → ℕ → ℕ → List Numbered
pages_of_level leaf node numbers levels j l =
    map (λ k. (numbers l k, tree_page leaf node numbers levels j l k)) (range_with_len 0 (width_at levels l))

abbrev pub pages_of_tree : Fields → Fields → (ℕ → ℕ → ℕ) → List Level → ℕ → List Numbered
pages_of_tree leaf node numbers levels j =
    flat_map (pages_of_level leaf node numbers levels j) (range_with_len 0 (length levels))
