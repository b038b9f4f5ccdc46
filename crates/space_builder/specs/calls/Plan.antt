-- How many pages the trees and the segments of the layout have.
use Rattle.std.specs.Prelude.{◌≡◌, ℕ, ◌-◌, ◌^◌, ◌<◌, ◌≤◌, ◌==◌, if◌then◌else◌, ⊤, min, List, length, sum_by}
use Rattle.std.specs.Prelude.{slice_index, slice_index_or, Result, Ok, Err}
use Rattle.schema_text.specs.declared.table.Format.{Format}
use Rattle.schema_text.specs.TableDef.{TableDef}
use Rattle.row_layout.specs.StoredRow.{Stored}
use Rattle.row_layout.specs.HoldsValues.{pages_of_stored}
use Rattle.space_builder.specs.declared.plan.RowOrder.{RowOrder}
use Rattle.space_builder.specs.declared.plan.IndexPages.{IndexPages}
use Rattle.space_builder.specs.declared.plan.SpacePlan.{SpacePlan}
use Rattle.space_builder.specs.declared.plan.PlanStop.{PlanStop}
use Rattle.space_builder.specs.declared.plan.PlanStop.TheVariants as stops
use Rattle.row_store.specs.StoredRows.{Rows}
use Rattle.space_builder.specs.layout.Layout.{tree_counts, index_sizes, segment_sizes, layout_extents, FitsSpace}
use Rattle.space_builder.specs.calls.Order.{IsIndexOrder}
use Rattle.space_builder.specs.calls.StoredRows.{AreStoredRows}

-- some rows of the table are stored so
abbrev pub HaveRows : TableDef → List (List Stored) → Type 0
HaveRows table stored = (rows : Rows) × AreStoredRows table rows stored

-- a fact of all rows that are stored so
abbrev pub OfStored : TableDef → List (List Stored) → (Rows → Type 0) → Type 0
OfStored table stored Fact = (rows : Rows) → AreStoredRows table rows stored → Fact rows

-- an order of the rows for each index, the clustered one left out
pub record AreOrders (table : TableDef) (stored : List (List Stored)) (orders : List RowOrder) : Type 0 where
  pub count : length orders ≡ length table.indexes
  pub each : (j : ℕ) (d : RowOrder) → 0 < j → j < length table.indexes
      → IsIndexOrder table stored j (slice_index_or orders j d).rows.items

-- how many pages all values go on in
abbrev pub stored_total : Format → List (List Stored) → ℕ
stored_total format stored = sum_by (λ (row : List Stored). sum_by (pages_of_stored format) row) stored

-- the pages that the leaves of index j share their segment with, as far as numbers go
abbrev pub HasValuePages : TableDef → List (List Stored) → ℕ → ℕ → Type 0
HasValuePages table stored j values =
    values ≡ (if j == 0 then min (stored_total table.format stored) (2 ^ 64 - 1) else 0)

-- the levels of the tree of index j have so many pages; there are few levels, and one page at the top
pub record HasTreeCounts (table : TableDef) (stored : List (List Stored)) (j : ℕ) (counts : List ℕ) : Type 0 where
  pub same : OfStored table stored (λ rows. counts ≡ tree_counts table rows j)
  pub some : 0 < length counts
  pub few : length counts ≤ 51
  pub single : slice_index counts (length counts - 1) ≡ 1

-- a level has more pages than the greatest segment
pub record HasWideLevel (counts : List ℕ) : Type 0 where
  pub level : ℕ
  pub within : level < length counts
  pub wide : 16416 < slice_index counts level

-- index j has so many pages
pub record ArePagesOf (table : TableDef) (rows : Rows) (j : ℕ) (pages : IndexPages) : Type 0 where
  pub levels : pages.levels.items ≡ tree_counts table rows j
  pub top : pages.top ≡ (index_sizes table rows j).0
  pub leaf : pages.leaf ≡ (index_sizes table rows j).1

-- the rows need more than 256 extents
abbrev pub IsFull : TableDef → Rows → Type 0
IsFull table rows = 256 < layout_extents table rows

-- how many pages index j has, or the rows need too many
abbrev pub FindsPages : TableDef → List (List Stored) → ℕ → Result IndexPages PlanStop → Type 0
FindsPages table stored j (Ok pages) = OfStored table stored (λ rows. ArePagesOf table rows j pages)
FindsPages table stored j (Err stops.Full) = OfStored table stored (IsFull table)
FindsPages table stored j (Err stops.Memory) = ⊤

-- all indexes and segments have so many pages
pub record IsPlanOf (table : TableDef) (rows : Rows) (plan : SpacePlan) : Type 0 where
  pub count : length plan.indexes.items ≡ length table.indexes
  pub each : (j : ℕ) (d : IndexPages) → j < length table.indexes
      → ArePagesOf table rows j (slice_index_or plan.indexes.items j d)
  pub sizes : plan.sizes.items ≡ segment_sizes table rows
  pub fits : FitsSpace table rows

-- how many pages all indexes and segments have, or the rows need too many
abbrev pub FindsPlan : TableDef → List (List Stored) → Result SpacePlan PlanStop → Type 0
FindsPlan table stored (Ok plan) = OfStored table stored (λ rows. IsPlanOf table rows plan)
FindsPlan table stored (Err stops.Full) = OfStored table stored (IsFull table)
FindsPlan table stored (Err stops.Memory) = ⊤
