-- A cursor over the rows of a tree, leaf by leaf (btr0cur).
use Rattle.std.specs.Prelude.{◌≡◌, ◌≢◌, ℕ, zero, suc, ◌+◌, ◌<◌, ◌≤◌, ◌⊎◌, ⊤, Bool, true, false, not, List, ◌∷◌}
use Rattle.std.specs.Prelude.{length, take, slice_index_or}
use Rattle.std.specs.Prelude.{Option, Some, None, Result, Ok, Err}
use Rattle.page_source.specs.declared.rule.Rule.TheVariants.{RecordChain, Sibling}
use Rattle.page_source.specs.declared.rule.Fault.{Fault}
use Rattle.page_source.specs.declared.checks.Halt.{Halt}
use Rattle.page_source.specs.declared.checks.Halt.TheVariants.{Broken, Source}
use Rattle.page_source.specs.Pages.{fil_null}
use Rattle.fil_frame.specs.Frame.{next_page}
use Rattle.column_values.specs.Types.{Fields}
use Rattle.index_page.specs.Header.{infimum, records_of}
use Rattle.index_page.specs.Page.{IsChain}
use Rattle.space_audit.specs.Marks.{is_in}
use Rattle.space_audit.specs.Space.{SpaceView, IsAuditOf}
use Rattle.tree_walk.specs.declared.leaves.leaf.Leaf.{Leaf}
use Rattle.tree_walk.specs.Index.{Index, index_of, page_in, rows_of, row_at, leaf_pages, leaf_rows}
use Rattle.tree_walk.specs.TreeChecks.{TreeChecks}

-- a tree of an audited space whose checks hold, whatever was taken before
pub record IsWalked (index : Index) : Type 0 where
  pub space : SpaceView
  pub audit : IsAuditOf index.file space
  pub taken : ℕ → Bool
  pub named : ℕ → Bool
  pub holds : TreeChecks index taken named None

-- a cursor: its leaf, the origin last given, 0 before the first, and whether it has ended
pub record CursorView : Type 0 where
  pub leaf : Leaf
  pub last : ℕ
  pub ended : Bool

-- if the leaf's chain is whole, the origin is the infimum or one of its records
abbrev pub IsAlong : List ℕ → ℕ → Type 0
IsAlong page at = IsChain page (records_of page) → is_in (infimum ∷ records_of page) at ≡ true

-- the leftmost leaf is to be fetched
pub record IsAtStart (index : Index) (leaf : Leaf) : Type 0 where
  pub first : leaf.number ≡ slice_index_or (leaf_pages index) 0 0
  pub fetches : leaf.may_fetch ≡ length (leaf_pages index)

-- leaf i is in hand
pub record IsOnLeaf (index : Index) (leaf : Leaf) (i : ℕ) : Type 0 where
  pub within : i < length (leaf_pages index)
  pub number : leaf.number ≡ slice_index_or (leaf_pages index) i 0
  pub held : leaf.page ≡ page_in index leaf.number
  pub fetches : leaf.may_fetch + (i + 1) ≡ length (leaf_pages index)

-- row j is the next one: record k of the leaf in hand, whose record before it, or infimum, is this one
pub record IsBefore (index : Index) (leaf : Leaf) (at j : ℕ) : Type 0 where
  pub i : ℕ
  pub k : ℕ
  pub on : IsOnLeaf index leaf i
  pub few : k ≤ length (records_of leaf.page)
  pub passed : at ≡ slice_index_or (infimum ∷ records_of leaf.page) k 0
  pub place : j ≡ length (rows_of index (take i (leaf_pages index))) + k

-- j rows were passed, up to this origin of the leaf in hand: that of the last of them, or of the leaf's infimum
abbrev pub HasGiven : Index → Leaf → ℕ → ℕ → Type 0
HasGiven index leaf last j =
    ((j ≡ 0) × (last ≡ 0) × IsAtStart index leaf) ⊎ ((infimum ≤ last) × IsBefore index leaf last j)

-- so many leaves came, the last of which is in hand
abbrev pub HasTaken : Index → Leaf → ℕ → ℕ → Type 0
HasTaken index leaf last zero = (last ≡ 0) × IsAtStart index leaf
HasTaken index leaf last (suc i) = (infimum ≤ last) × IsOnLeaf index leaf i

-- the rows are those of a walked tree of this file
pub record CanGive (file : List ℕ) (leaf : Leaf) (last : ℕ) : Type 0 where
  pub root : ℕ
  pub fields : Fields
  pub node : Fields
  pub given : ℕ
  pub walked : IsWalked (index_of file root fields node)
  pub has : HasGiven (index_of file root fields node) leaf last given

-- the rows are those of a walked tree of this file, and the record before the next row is known
pub record CanSearch (file : List ℕ) (leaf : Leaf) (at : ℕ) : Type 0 where
  pub root : ℕ
  pub fields : Fields
  pub node : Fields
  pub given : ℕ
  pub walked : IsWalked (index_of file root fields node)
  pub before : IsBefore (index_of file root fields node) leaf at given

-- the leaves are those of a walked tree of this file
pub record CanTake (file : List ℕ) (leaf : Leaf) (last : ℕ) : Type 0 where
  pub root : ℕ
  pub fields : Fields
  pub node : Fields
  pub taken : ℕ
  pub walked : IsWalked (index_of file root fields node)
  pub has : HasTaken (index_of file root fields node) leaf last taken

-- a leaf of a walked tree of this file is in hand
pub record CanHop (file : List ℕ) (leaf : Leaf) : Type 0 where
  pub root : ℕ
  pub fields : Fields
  pub node : Fields
  pub i : ℕ
  pub walked : IsWalked (index_of file root fields node)
  pub on : IsOnLeaf (index_of file root fields node) leaf i

-- leaf i is found, or none after the last; the search never breaks off
abbrev pub FindsLeaf : Index → ℕ → Result Bool Halt → Leaf → Type 0
FindsLeaf index i (Ok true) leaf = IsOnLeaf index leaf i
FindsLeaf index i (Ok false) leaf = length (leaf_pages index) ≤ i
FindsLeaf index i (Err (Broken fault)) leaf = ⊥
FindsLeaf index i (Err Source) leaf = ⊤

-- row j is found, or none behind the last; the search never breaks off
abbrev pub FindsRow : Index → ℕ → Result (Option ℕ) Halt → Leaf → Type 0
FindsRow index j (Ok None) leaf = length (leaf_rows index) ≤ j
FindsRow index j (Ok (Some origin)) leaf =
    (j < length (leaf_rows index)) × (row_at (leaf_rows index) j ≡ record { page = leaf.number; origin = origin })
    × HasGiven index leaf origin (j + 1)
FindsRow index j (Err (Broken fault)) leaf = ⊥
FindsRow index j (Err Source) leaf = ⊤

-- the next field of a leaf is FIL_NULL while further leaves are due, or isn't if none are
abbrev pub Misleads : Leaf → Type 0
Misleads leaf =
    ((next_page leaf.page ≡ fil_null) × (0 < leaf.may_fetch))
    ⊎ ((next_page leaf.page ≢ fil_null) × (leaf.may_fetch ≡ 0))

-- a cursor breaks off at a leaf whose next field misleads
pub record LeadsAstray (leaf : Leaf) (fault : Fault) : Type 0 where
  pub fault_is : fault ≡ record { rule = Sibling; page = leaf.number }
  pub cause : Misleads leaf

-- a search breaks off at a leaf whose next field misleads, and at one whose record chain isn't whole
pub record BreaksOff (leaf : Leaf) (fault : Fault) : Type 0 where
  pub page : fault.page ≡ leaf.number
  pub cause : ((fault.rule ≡ RecordChain) × ¬ (IsChain leaf.page (records_of leaf.page)))
      ⊎ ((fault.rule ≡ Sibling) × Misleads leaf)

-- a cursor stays on its leaf, or went to the next one by the leaf's next field
pub record HasMoved (old new : Leaf) : Type 0 where
  pub fewer : new.may_fetch ≤ old.may_fetch
  pub stays : new.may_fetch ≡ old.may_fetch → (new.number ≡ old.number) × (new.page ≡ old.page)
  pub goes : new.may_fetch + 1 ≡ old.may_fetch → new.number ≡ next_page old.page

-- the leaf is the one that it was before, or the one that the next field of that one leads to
abbrev pub IsSameOrNext : Leaf → Leaf → Type 0
IsSameOrNext old new = (new.number ≡ old.number) ⊎ (new.number ≡ next_page old.page)

-- a cursor went on from a record, not from the infimum, and at most to the next leaf
abbrev pub HasHopped : Leaf → Leaf → ℕ → Type 0
HasHopped old new from = (new.number ≡ old.number) ⊎ ((from ≢ infimum) × (new.number ≡ next_page old.page))

-- a cursor goes on if it came to a leaf, and has ended otherwise
abbrev pub EndsLeaves : Result Bool Halt → Bool → Type 0
EndsLeaves (Ok found) ended = ended ≡ not found
EndsLeaves (Err halt) ended = ended ≡ true

-- a cursor goes on where it gave a row, and has ended otherwise
abbrev pub Ends : Result (Option ℕ) Halt → Bool → Type 0
Ends (Ok (Some origin)) ended = ended ≡ false
Ends (Ok None) ended = ended ≡ true
Ends (Err halt) ended = ended ≡ true
