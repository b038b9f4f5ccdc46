-- How many pages the levels of a tree have, by the sizes of its records and pointers alone.
use Rattle.std.specs.Prelude.{◌≡◌, ℕ, zero, suc, ◌+◌, ◌≤◌, ◌==◌, nat_le, if◌then◌else◌, List, [], ◌∷◌, ◌++◌, length}
use Rattle.std.specs.Prelude.{map, Bool, not, ◌||◌}
use Rattle.column_values.specs.Types.{Fields}
use Rattle.compact_record.specs.Writing.{size_of_record}
use Rattle.page_packer.specs.Packing.{sizes_fit}
use Rattle.tree_layout.specs.declared.cuts.Weight.{Weight}
use Rattle.tree_layout.specs.Entries.{Entry}
use Rattle.tree_layout.specs.Division.{tree_levels, level_counts, pointer_with, CanDivide}

-- the sizes of an entry, whatever number the pointer has
abbrev pub weight_of : Fields → Fields → Entry → Weight
weight_of leaf node entry =
    record { size = size_of_record leaf entry; pointer = size_of_record node (pointer_with node.keys entry 0) }

-- a level whose records come one by one: its closed pages, each by the size of the pointer to it, and the open page, by
-- the number of its records, their bytes, and the size of the pointer to it
pub record Cutting : Type 0 where
  pub closed : List ℕ
  pub count : ℕ
  pub total : ℕ
  pub first : ℕ

-- the open page is not much more than full
pub record IsSmallCut (count total : ℕ) : Type 0 where
  pub few : count ≤ 65536
  pub small : total ≤ 65536

abbrev pub nothing_cut : Cutting
nothing_cut = record { closed = []; count = 0; total = 0; first = 0 }

-- a record of this size would be the first of a page
abbrev pub begins_page : Cutting → ℕ → Bool
begins_page cutting size = (cutting.count == 0) || not (sizes_fit (cutting.count + 1) (cutting.total + size))

-- one more record: on the open page where there is room, and else on a new one
unfoldable pub one_more : Cutting → Weight → Cutting
one_more cutting weight =
    if sizes_fit (cutting.count + 1) (cutting.total + weight.size)
    then record {
      closed = cutting.closed;
      count = cutting.count + 1;
      total = cutting.total + weight.size;
      first = if cutting.count == 0 then weight.pointer else cutting.first;
    }
    else record {
      closed = cutting.closed ++ cutting.first ∷ [];
      count = 1;
      total = weight.size;
      first = weight.pointer;
    }

-- many more records, one after another
abbrev pub cut_more : Cutting → List Weight → Cutting
cut_more cutting [] = cutting
cut_more cutting (weight ∷ weights) = cut_more (one_more cutting weight) weights

-- the pages, each by the size of the pointer to it
abbrev pub pages_of : Cutting → List ℕ
pages_of cutting = cutting.closed ++ cutting.first ∷ []

-- the pages of the level above some pages; a pointer by a pointer's key is as large as that pointer
unfoldable pub level_above : List ℕ → List ℕ
level_above pages = pages_of (cut_more nothing_cut (map (λ size. record { size = size; pointer = size }) pages))

-- how many pages each level has, from one with these pages up
abbrev pub counts_from : ℕ → List ℕ → List ℕ
counts_from zero pages = length pages ∷ []
counts_from (suc most) pages =
    if nat_le (length pages) 1 then length pages ∷ [] else length pages ∷ counts_from most (level_above pages)

-- the leaves of these entries, each by the size of the pointer to it
unfoldable pub cut_leaves : Fields → Fields → List Entry → List ℕ
cut_leaves leaf node entries = pages_of (cut_more nothing_cut (map (weight_of leaf node) entries))

abbrev pub CountsAreCut : Type 0
CountsAreCut =
    (leaf node : Fields) (numbers : ℕ → ℕ → ℕ) (entries : List Entry) → CanDivide leaf node entries
    → level_counts (tree_levels leaf node numbers entries)
    ≡ counts_from (length (cut_leaves leaf node entries)) (cut_leaves leaf node entries)
