-- The levels of a tree, each with its pages and their entries, the leaves first.
use Rattle.std.specs.Prelude.{◌≡◌, ℕ, ◌+◌, ◌-◌, ◌<◌, ◌==◌, Bool, List, [], length, map, flat_map, All, slice_index_or}
use Rattle.std.specs.List.{range_with_len}
use Rattle.column_values.specs.Types.{Fields}
use Rattle.compact_record.specs.Reading.{field_count}
use Rattle.tree_layout.specs.Entries.{Entry, EntriesAscend}
use Rattle.tree_layout.specs.Division.{Level, pointers_to}

-- level l, and page k of it
abbrev pub level_at : List Level → ℕ → Level
level_at levels l = slice_index_or levels l []

abbrev pub width_at : List Level → ℕ → ℕ
width_at levels l = length (level_at levels l)

abbrev pub page_entries : List Level → ℕ → ℕ → List Entry
page_entries levels l k = slice_index_or (level_at levels l) k []

-- the entries of a level, from left to right
abbrev pub entries_of : Level → List Entry
entries_of level = flat_map (λ page. page) level

abbrev pub entries_at : List Level → ℕ → List Entry
entries_at levels l = entries_of (level_at levels l)

-- the level of the root
abbrev pub top_of : List Level → ℕ
top_of levels = length levels - 1

abbrev pub is_top : List Level → ℕ → Bool
is_top levels l = l == top_of levels

-- the numbers of the pages of a level, from left to right
abbrev pub numbers_at : List Level → (ℕ → ℕ → ℕ) → ℕ → List ℕ
numbers_at levels numbers l = map (numbers l) (range_with_len 0 (width_at levels l))

-- each page of each level, by level and place
abbrev pub EachPage : List Level → (ℕ → ℕ → Type 0) → Type 0
EachPage levels P = (l k : ℕ) → l < length levels → k < width_at levels l → P l k

-- a tree's levels: one page at the top, no page without entries but a root without rows, and above each level the
-- pointers to its pages; the keys of the leaf entries rise
pub record AreLevels (leaf node : Fields) (numbers : ℕ → ℕ → ℕ) (levels : List Level) : Type 0 where
  pub some : 0 < length levels
  pub single : width_at levels (top_of levels) ≡ 1
  pub filled : 1 < length levels → EachPage levels (λ l k. 0 < length (page_entries levels l k))
  pub pointers : (l : ℕ) → l + 1 < length levels
      → entries_at levels (l + 1) ≡ pointers_to node.keys (level_at levels l) (numbers l)
  pub parts : All (λ entry. length entry ≡ field_count leaf) (entries_at levels 0)
  pub rise : EntriesAscend leaf (entries_at levels 0)
