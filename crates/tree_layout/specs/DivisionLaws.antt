-- Entries that are divided into levels are the levels of a tree; the sizes that this rests on.
use Rattle.std.specs.Prelude.{◌≡◌, ℕ, ◌+◌, ◌*◌, ◌≤◌, ◌==◌, if◌then◌else◌, List, length, drop, flat_map, All}
use Rattle.std.specs.List.{AllZip}
use Rattle.column_values.specs.Types.{Fields, AreOfOneIndex}
use Rattle.compact_record.specs.Reading.{null_bytes}
use Rattle.compact_record.specs.Writing.{FitFields, local_bytes, size_of_record}
use Rattle.tree_layout.specs.Entries.{Entry, EntriesAscend, AreAlike}
use Rattle.tree_layout.specs.Division.{Level, tree_levels, level_counts, pointer_with, FitsPage, CanDivide}
use Rattle.tree_layout.specs.Levels.{AreLevels, EachPage, page_entries, entries_at}

-- the levels of a tree of these entries: at most 51, and what stands on a page fits it, has keys that rise, and is
-- nothing on a root without rows alone
pub record AreTheLevels (leaf node : Fields) (numbers : ℕ → ℕ → ℕ) (entries : List Entry) (levels : List Level)
    : Type 0 where
  pub are_levels : AreLevels leaf node numbers levels
  pub leaves : entries_at levels 0 ≡ entries
  pub few : length levels ≤ 51
  pub sizes : EachPage levels (λ l k. FitsPage (if l == 0 then leaf else node) (page_entries levels l k))
  pub fit : EachPage levels (λ l k. All (FitFields (if l == 0 then leaf else node)) (page_entries levels l k))
  pub rise : EachPage levels (λ l k. EntriesAscend (if l == 0 then leaf else node) (page_entries levels l k))
  pub empty : EachPage levels (λ l k. length (page_entries levels l k) ≡ 0 → (l ≡ 0) × (length levels ≡ 1))

-- the levels into which entries are divided are those of a tree
abbrev pub DivisionGivesLevels : Type 0
DivisionGivesLevels =
    (leaf node : Fields) (numbers : ℕ → ℕ → ℕ) (entries : List Entry) → CanDivide leaf node entries
    → AreTheLevels leaf node numbers entries (tree_levels leaf node numbers entries)

-- how many pages each level has depends on the sizes of the parts alone, and not on numbers
abbrev pub CountsAreOfSizes : Type 0
CountsAreOfSizes =
    (leaf node : Fields) (numbers others : ℕ → ℕ → ℕ) (entries like : List Entry) → AllZip AreAlike entries like
    → level_counts (tree_levels leaf node numbers entries) ≡ level_counts (tree_levels leaf node others like)

-- how many pages each level of one list of entries has doesn't depend on the numbers of pages
abbrev pub CountsNeedNoNumbers : Type 0
CountsNeedNoNumbers =
    (leaf node : Fields) (numbers others : ℕ → ℕ → ℕ) (entries : List Entry)
    → level_counts (tree_levels leaf node numbers entries) ≡ level_counts (tree_levels leaf node others entries)

-- a record is as large as one whose parts have the same lengths
abbrev pub AlikeRecordsHaveOneSize : Type 0
AlikeRecordsHaveOneSize =
    (fields : Fields) (parts like : Entry) → AreAlike parts like
    → size_of_record fields parts ≡ size_of_record fields like

-- a pointer is no larger than the entry whose key it has, less the values behind the key, and four bytes more
abbrev pub PointersAreSmall : Type 0
PointersAreSmall =
    (leaf node : Fields) (entry : Entry) (n : ℕ) → AreOfOneIndex leaf node → FitFields leaf entry
    → size_of_record node (pointer_with node.keys entry n) + length (flat_map local_bytes (drop leaf.keys entry))
    ≤ size_of_record leaf entry + 4

-- a record is no larger than its values, null bits, two bytes of length for each and five more
abbrev pub RecordsAreSmall : Type 0
RecordsAreSmall =
    (fields : Fields) (parts : Entry) → size_of_record fields parts
    ≤ null_bytes fields + 5 + 2 * length parts + length (flat_map local_bytes parts)
