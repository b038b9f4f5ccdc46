-- Laws of the definitions, each the contract of a function in the module of laws.
use Rattle.std.specs.Prelude.{◌≡◌, ◌≢◌, ◌↔◌, ◌-◌, ℕ, suc, ◌<◌, ◌≤◌, ⊤, List, [], ◌∷◌, length, slice_index_or, Bool}
use Rattle.std.specs.Prelude.{false, All, None}
use Rattle.page_source.specs.Pages.{fil_null}
use Rattle.page_source.specs.Lists.{times_in}
use Rattle.fil_frame.specs.Kinds.{index_kind}
use Rattle.fil_frame.specs.Frame.{next_page}
use Rattle.space_audit.specs.Space.{IsPageOf}
use Rattle.column_values.specs.Order.{Key, IsBelow}
use Rattle.compact_record.specs.Reading.{key_of, key_kinds}
use Rattle.index_page.specs.Header.{index_id_of}
use Rattle.tree_walk.specs.Index.{Index, Row, page_in, root_level, index_id, pages_at, tree_pages}
use Rattle.tree_walk.specs.Index.{leaf_rows}
use Rattle.column_values.specs.Types.{AreOfOneIndex}
use Rattle.tree_walk.specs.Records.{IsRecord}
use Rattle.tree_walk.specs.Facts.{LevelFacts}
use Rattle.tree_walk.specs.Segments.{segment_at}
use Rattle.tree_walk.specs.Place.{IsBeside}
use Rattle.tree_walk.specs.TreeChecks.{TreeChecks, IsRootPlace, HasNewSegments, before, after}
use Rattle.tree_walk.specs.Leaf.{IsWalked}
use Rattle.tree_walk.specs.Descent.{below, pages_by_descent, tree_rows, IsTreeByDescent}

-- no number comes twice
abbrev pub ComeOnce : List ℕ → Type 0
ComeOnce list = (n : ℕ) → times_in list n ≤ 1

-- the pages met from n on by next fields, up to FIL_NULL
abbrev pub IsLinkedByNext : Index → ℕ → List ℕ → Type 0
IsLinkedByNext index n [] = n ≡ fil_null
IsLinkedByNext index n (page ∷ pages) = (n ≡ page) × (n ≢ fil_null)
    × IsLinkedByNext index (next_page (page_in index page)) pages

-- the levels by next fields are those of the descent, the rows by leaves are its rows, and no page comes twice
pub record LinksEqualDescent (index : Index) : Type 0 where
  pub levels : (depth : ℕ) → depth ≤ root_level index
      → IsLinkedByNext index (slice_index_or (pages_at index depth) 0 0) (below index depth index.root)
  pub rows : leaf_rows index ≡ tree_rows index
  pub once : ComeOnce (pages_by_descent index)

-- if the checks of a tree hold, its levels by next fields and its rows by leaves are those of the descent, and no page
-- comes twice
abbrev pub LinksAreDescent : Type 0
LinksAreDescent = (index : Index) → IsWalked index → LinksEqualDescent index

-- the pages of each level are those of the descent, in its order, whatever the file
abbrev pub LevelsAreOfDescent : Type 0
LevelsAreOfDescent = (index : Index) (depth : ℕ) → pages_at index depth ≡ below index depth index.root

-- the rows by leaves are those of the descent, whatever the file
abbrev pub RowsByLeaves : Type 0
RowsByLeaves = (index : Index) → leaf_rows index ≡ tree_rows index

-- each page comes as often on the levels of a tree as in the descent
abbrev pub LevelsHaveThePages : Type 0
LevelsHaveThePages =
    (index : Index) (n : ℕ) → times_in (tree_pages index) n ≡ times_in (pages_by_descent index) n

-- the key of a row
unfoldable pub row_key : Index → Row → Key
row_key index row = key_of (page_in index row.page) row.origin index.leaf

-- each row has a greater key than the one before it
abbrev pub Rises : Index → List Row → Type 0
Rises index [] = ⊤
Rises index (x ∷ []) = ⊤
Rises index (x ∷ y ∷ rest) = IsBelow (key_kinds index.leaf) (row_key index x) (row_key index y) × Rises index (y ∷ rest)

-- where the checks of a tree hold, the keys of its rows rise over all leaves
abbrev pub KeysRiseOverLeaves : Type 0
KeysRiseOverLeaves = (index : Index) → IsWalked index → Rises index (tree_rows index)

-- if the checks of a tree hold, it is a tree by descent
abbrev pub ChecksGiveTree : Type 0
ChecksGiveTree = (index : Index) → AreOfOneIndex index.leaf index.node → IsWalked index → IsTreeByDescent index

-- if the checks of a tree hold, each of its rows can be read
abbrev pub RowsCanBeRead : Type 0
RowsCanBeRead = (index : Index) → IsWalked index
    → All (λ row. IsRecord (page_in index row.page) index.leaf row.origin) (leaf_rows index)

-- if the checks of a tree hold, each of its leaves is sound, and linked to the next
abbrev pub LeavesAreSound : Type 0
LeavesAreSound = (index : Index) → IsWalked index → LevelFacts index index.leaf (root_level index)

-- a page of this index, used by the segment of its level
pub record IsOwnPage (index : Index) (level n : ℕ) : Type 0 where
  pub page : IsPageOf index.file (segment_at index level) index_kind n
  pub id : index_id_of (page_in index n) ≡ index_id index

-- a whole tree by descent, none of whose pages was taken and none of whose segments was named
pub record IsWhole (index : Index) (taken named : ℕ → Bool) : Type 0 where
  pub root : IsRootPlace index.file (taken index.root) index.root
  pub segments : HasNewSegments index named
  pub tree : IsTreeByDescent index
  pub own : (d : ℕ) → d < root_level index → All (IsOwnPage index (root_level index - suc d)) (pages_at index (suc d))
  pub siblings : (d i : ℕ) → d ≤ root_level index → i < length (pages_at index d)
      → IsBeside (page_in index (slice_index_or (pages_at index d) i 0)) (before (pages_at index d) i)
      (after (pages_at index d) i)
  pub once : ComeOnce (pages_by_descent index)
  pub fresh : (n : ℕ) → 1 ≤ times_in (pages_by_descent index) n → taken n ≡ false

-- no check of a tree is broken exactly where it is a whole tree
abbrev pub ChecksAreWholeness : Type 0
ChecksAreWholeness =
    (index : Index) (taken named : ℕ → Bool) → AreOfOneIndex index.leaf index.node
    → TreeChecks index taken named None ↔ IsWhole index taken named
