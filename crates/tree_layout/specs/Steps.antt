-- How a builder comes to the levels of a tree: entry by entry on each level, and level by level.
use Rattle.std.specs.Prelude.{◌≡◌, ℕ, ◌+◌, ◌<◌, ◌≤◌, if◌then◌else◌, List, [], ◌∷◌, ◌++◌, length}
use Rattle.column_values.specs.Types.{Fields}
use Rattle.tree_layout.specs.Entries.{Entry}
use Rattle.tree_layout.specs.Division.{Level, has_room_for, divided, pointer_to_page, pointers_to, tree_levels}
use Rattle.tree_layout.specs.Division.{CanDivide}
use Rattle.tree_layout.specs.Levels.{level_at}

-- these entries are divided into pages that are closed and one that is open
abbrev pub StandsOpen : Fields → List Entry → Level → List Entry → Type 0
StandsOpen fields entries closed last_page = divided fields entries ≡ closed ++ last_page ∷ []

-- one more entry goes on the last page where there is room, and else on a new one
abbrev pub IsPushed : Fields → List Entry → Level → List Entry → Entry → Type 0
IsPushed fields entries closed last_page entry =
    divided fields (entries ++ entry ∷ [])
    ≡ (if has_room_for fields last_page entry then closed ++ (last_page ++ entry ∷ []) ∷ []
    else (closed ++ last_page ∷ []) ++ (entry ∷ []) ∷ [])

-- division goes on entry by entry, and pointers page by page
pub record GoesOn (fields : Fields) : Type 0 where
  pub start : StandsOpen fields [] [] []
  pub more : (entries : List Entry) (closed : Level) (last_page : List Entry) (entry : Entry)
      → StandsOpen fields entries closed last_page → IsPushed fields entries closed last_page entry
  pub pointers : (pages : Level) (page : List Entry) (number : ℕ → ℕ)
      → pointers_to fields.keys (pages ++ page ∷ []) number
      ≡ pointers_to fields.keys pages number ++ pointer_to_page fields.keys page (number (length pages)) ∷ []

abbrev pub DivisionGoesOn : Type 0
DivisionGoesOn = (fields : Fields) → GoesOn fields

-- each level has the pointers to the one below it, up to one of a single page
abbrev pub StandOnEachOther : Fields → (ℕ → ℕ → ℕ) → ℕ → List Level → Type 0
StandOnEachOther node numbers level [] = ⊥
StandOnEachOther node numbers level (pages ∷ []) = length pages ≤ 1
StandOnEachOther node numbers level (pages ∷ next ∷ rest) =
    (1 < length pages) × (next ≡ divided node (pointers_to node.keys pages (numbers level)))
    × StandOnEachOther node numbers (level + 1) (next ∷ rest)

-- the levels of a tree stand on each other above its leaves, and no other levels do
pub record AreOnly (leaf node : Fields) (numbers : ℕ → ℕ → ℕ) (entries : List Entry) : Type 0 where
  pub leaves : level_at (tree_levels leaf node numbers entries) 0 ≡ divided leaf entries
  pub stand : StandOnEachOther node numbers 0 (tree_levels leaf node numbers entries)
  pub only : (levels : List Level) → level_at levels 0 ≡ divided leaf entries
      → StandOnEachOther node numbers 0 levels → levels ≡ tree_levels leaf node numbers entries

abbrev pub LevelsStand : Type 0
LevelsStand =
    (leaf node : Fields) (numbers : ℕ → ℕ → ℕ) (entries : List Entry) → CanDivide leaf node entries
    → AreOnly leaf node numbers entries
