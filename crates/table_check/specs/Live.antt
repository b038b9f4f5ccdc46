-- A cursor over the rows without the delete mark (btr0cur).
use Rattle.std.specs.Prelude.{◌≡◌, ℕ, ◌+◌, ◌<◌, ◌≤◌, ◌⊎◌, ⊤, Bool, true, false, List, length, take, count_by, Option}
use Rattle.std.specs.Prelude.{Some, None}
use Rattle.std.specs.Prelude.{Result, Ok, Err}
use Rattle.page_source.specs.declared.rule.Rule.TheVariants.{RecordChain}
use Rattle.page_source.specs.declared.rule.Fault.{Fault}
use Rattle.page_source.specs.declared.checks.Halt.{Halt}
use Rattle.page_source.specs.declared.checks.Halt.TheVariants.{Broken, Source}
use Rattle.column_values.specs.Types.{Fields}
use Rattle.tree_walk.specs.declared.leaves.leaf.Leaf.{Leaf}
use Rattle.tree_walk.specs.Index.{Index, index_of, page_in, row_at, leaf_rows, is_live_row, is_deleted_row}
use Rattle.tree_walk.specs.Leaf.{IsWalked, HasGiven, BreaksOff}
use Rattle.tree_walk.specs.Segments.{leaf_segment}
use Rattle.table_check.specs.Values.{live_rows}

-- the leaf in hand, the origin last passed, whether the rows have ended, and how many of either kind are left
pub record LiveView : Type 0 where
  pub leaf : Leaf
  pub last : ℕ
  pub ended : Bool
  pub live : ℕ
  pub deleted : ℕ

-- j rows were given, behind all rows up to the last of them
pub record HasGivenLive (index : Index) (rows : LiveView) (j : ℕ) : Type 0 where
  pub passed : ℕ
  pub has : HasGiven index rows.leaf rows.last passed
  pub given : j ≡ count_by (is_live_row index) (take passed (leaf_rows index))
  pub live : rows.live + j ≡ count_by (is_live_row index) (leaf_rows index)
  pub deleted : rows.deleted + count_by (is_deleted_row index) (take passed (leaf_rows index))
      ≡ count_by (is_deleted_row index) (leaf_rows index)

-- the rows are those of a walked tree of this file
pub record CanGiveLive (file : List ℕ) (rows : LiveView) : Type 0 where
  pub root : ℕ
  pub fields : Fields
  pub node : Fields
  pub given : ℕ
  pub walked : IsWalked (index_of file root fields node)
  pub has : HasGivenLive (index_of file root fields node) rows given

-- row j stands at this origin of the leaf in hand
pub record IsRowInHand (index : Index) (leaf : Leaf) (j origin : ℕ) : Type 0 where
  pub within : j < length (live_rows index)
  pub row : row_at (live_rows index) j ≡ record { page = leaf.number; origin = origin }
  pub held : leaf.page ≡ page_in index leaf.number

-- row j is found, or none behind the last; the search never breaks off
abbrev pub FindsLive : Index → ℕ → Result (Option ℕ) Halt → LiveView → Type 0
FindsLive index j (Ok None) rows = length (live_rows index) ≤ j
FindsLive index j (Ok (Some origin)) rows = IsRowInHand index rows.leaf j origin × HasGivenLive index rows (j + 1)
FindsLive index j (Err (Broken fault)) rows = ⊥
FindsLive index j (Err Source) rows = ⊤

-- as many leaves and rows of either kind came as were counted, in the calls up to this last one
pub record HaveAllCome (old new : LiveView) : Type 0 where
  pub leaves : new.leaf.may_fetch ≡ 0
  pub live : old.live ≡ 0
  pub deleted : new.deleted ≡ 0

-- there is a row too many of its kind, or the leaves ended and rows are missing
abbrev pub AreMiscounted : LiveView → Type 0
AreMiscounted rows =
    ((rows.ended ≡ false) × ((rows.live ≡ 0) ⊎ (rows.deleted ≡ 0)))
    ⊎ ((rows.ended ≡ true) × ((0 < rows.live) ⊎ (0 < rows.deleted)))

-- the giving of rows breaks off where the walk along the leaves does, or where the rows aren't as many as were counted
abbrev pub CutsOff : LiveView → Fault → Type 0
CutsOff rows fault =
    BreaksOff rows.leaf fault
    ⊎ ((fault ≡ record { rule = RecordChain; page = rows.leaf.number }) × AreMiscounted rows)

-- a cursor before the first row of a walked tree, whose leaves this segment uses
pub record GivesAll (index : Index) (rows : LiveView) (segment : ℕ) : Type 0 where
  pub walked : IsWalked index
  pub start : HasGivenLive index rows 0
  pub leaves : segment ≡ leaf_segment index
