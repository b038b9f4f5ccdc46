-- The levels of a tree: each is cut into pages, and a page is closed only where the next record doesn't fit.
use Rattle.std.specs.Prelude.{ℕ, zero, suc, ◌+◌, Bool, false, nat_le, if◌then◌else◌, List, [], ◌∷◌}
use Rattle.std.specs.Prelude.{◌≡◌, ◌^◌, ◌≤◌, true, All, ◌++◌, length, map, take, sum_by, slice_index_or}
use Rattle.std.specs.List.{range_with_len}
use Rattle.page_source.specs.Pages.{be_bytes}
use Rattle.column_values.specs.Types.{Fields, AreOfOneIndex}
use Rattle.compact_record.specs.declared.parts.Part.TheVariants as parts
use Rattle.compact_record.specs.Writing.{FitFields, size_of_record}
use Rattle.page_packer.specs.Packing.{sizes_fit}
use Rattle.tree_layout.specs.Entries.{Entry, EntriesAscend}

-- a page by its entries, and the pages of a level from left to right
abbrev pub Level : Type 0
Level = List (List Entry)

abbrev pub total_of : Fields → List Entry → ℕ
total_of fields entries = sum_by (size_of_record fields) entries

-- whether one more entry fits a page
abbrev pub has_room_for : Fields → List Entry → Entry → Bool
has_room_for fields page entry = sizes_fit (length page + 1) (total_of fields page + size_of_record fields entry)

-- the entries of a page fit it, and an entry fits a page alone
abbrev pub FitsPage : Fields → List Entry → Type 0
FitsPage fields page = sizes_fit (length page) (total_of fields page) ≡ true

abbrev pub FitsAlone : Fields → Entry → Type 0
FitsAlone fields entry = sizes_fit 1 (size_of_record fields entry) ≡ true

-- the pages, the first of which already has some entries
abbrev pub divided_from : Fields → List Entry → List Entry → Level
divided_from fields page [] = page ∷ []
divided_from fields page (entry ∷ entries) =
    if has_room_for fields page entry then divided_from fields (page ++ entry ∷ []) entries
    else page ∷ divided_from fields (entry ∷ []) entries

unfoldable pub divided : Fields → List Entry → Level
divided fields entries = divided_from fields [] entries

-- the pointer to a page with this number: the key of its first record, and the number
abbrev pub pointer_with : ℕ → Entry → ℕ → Entry
pointer_with keys entry n = take keys entry ++ parts.Bytes (be_bytes 4 n) false ∷ []

abbrev pub pointer_to_page : ℕ → List Entry → ℕ → Entry
pointer_to_page keys page n = pointer_with keys (slice_index_or page 0 []) n

-- the pointers to the pages of a level, whose page k has the number `number k`
unfoldable pub pointers_to : ℕ → Level → (ℕ → ℕ) → List Entry
pointers_to keys pages number =
    map (λ k. pointer_to_page keys (slice_index_or pages k []) (number k)) (range_with_len 0 (length pages))

-- pointers by the key of this entry are so small that any two of them fit one page
abbrev pub HasSmallPointers : Fields → Entry → Type 0
HasSmallPointers node entry = (n : ℕ) → size_of_record node (pointer_with node.keys entry n) ≤ 8126

-- the levels from one up, until one has a single page; page k of level l has the number `numbers l k`
abbrev pub levels_from : Fields → (ℕ → ℕ → ℕ) → ℕ → ℕ → Level → List Level
levels_from node numbers zero level pages = pages ∷ []
levels_from node numbers (suc most) level pages =
    if nat_le (length pages) 1 then pages ∷ []
    else pages
    ∷ levels_from node numbers most (level + 1) (divided node (pointers_to node.keys pages (numbers level)))

-- the levels of a tree of these leaf records, from the leaves up
unfoldable pub tree_levels : Fields → Fields → (ℕ → ℕ → ℕ) → List Entry → List Level
tree_levels leaf node numbers entries =
    levels_from node numbers (length (divided leaf entries)) 0 (divided leaf entries)

-- how many pages each level has, from the leaves up
abbrev pub level_counts : List Level → List ℕ
level_counts levels = map (λ (level : Level). length level) levels

-- leaf entries whose parts fit their fields and whose keys rise; each fits a page alone, and any two pointers by their
-- keys fit one page
pub record CanDivide (leaf node : Fields) (entries : List Entry) : Type 0 where
  pub one_index : AreOfOneIndex leaf node
  pub fit : All (FitFields leaf) entries
  pub rise : EntriesAscend leaf entries
  pub alone : All (FitsAlone leaf) entries
  pub pointers : All (HasSmallPointers node) entries
  pub few : length (divided leaf entries) ≤ 2 ^ 50
