-- What is put of a whole tablespace, and what that leaves in a store.
use Rattle.std.specs.Prelude.{◌≡◌, ℕ, ◌≤◌, ◌++◌, ◌⊎◌, List, Result, Ok, Err}
use Rattle.page_source.specs.declared.objects.PageStore.{Ghosts as StoreOf}
use Rattle.page_source.specs.Faults.{Rose}
use Rattle.page_source.specs.Objects.{Store}
use Rattle.schema_text.specs.IndexFields.{leaf_fields, node_fields}
use Rattle.schema_text.specs.TableDef.{TableDef}
use Rattle.space_layout.specs.NumberedPages.{Numbered}
use Rattle.tree_layout.specs.Places.{leaf_size}
use Rattle.space_builder.specs.declared.built.PutStop.{PutStop}
use Rattle.space_builder.specs.declared.built.PutStop.TheVariants as stops
use Rattle.space_builder.specs.declared.space.Space.{Space}
use Rattle.space_builder.specs.declared.values.FirstPages.{FirstPages}
use Rattle.space_builder.specs.declared.tree_plan.TreePlan.{TreePlan}
use Rattle.row_store.specs.StoredRows.{Rows, stored_rows}
use Rattle.space_builder.specs.layout.Layout.{tree_counts, segment_sizes, segment_pages}
use Rattle.space_builder.specs.layout.Layout.{system_pages}
use Rattle.space_builder.specs.layout.Laws.{CanBuild}
use Rattle.space_builder.specs.build.Build.{HoldsLayout, HoldsPart, LacksHead, IsSizedFor}
use Rattle.space_builder.specs.calls.Plan.{AreOrders, IsPlanOf}
use Rattle.space_builder.specs.calls.Room.{AreFirstPages}

-- the space is that of these rows
pub record IsSpaceOf (space : Space) (rows : Rows) : Type 0 where
  pub can : CanBuild space.schema.now rows
  pub same : space.rows.now ≡ stored_rows space.schema.now rows
  pub orders : AreOrders space.schema.now space.rows.now space.orders.now
  pub plan : IsPlanOf space.schema.now rows space.plan.now

abbrev pub IsSpace : Space → Type 0
IsSpace space = (rows : Rows) × IsSpaceOf space rows

-- a fact of all rows whose space this is
abbrev pub OfSpace : Space → (Rows → Type 0) → Type 0
OfSpace space Fact = (rows : Rows) → IsSpaceOf space rows → Fact rows

-- how many leaves the first index has in their segment
abbrev pub leaves_of : TableDef → Rows → ℕ
leaves_of table rows = leaf_size (tree_counts table rows 0)

-- the pages on which the fields of a space's rows go on
abbrev pub HasFirstPages : Space → FirstPages → Type 0
HasFirstPages space first =
    OfSpace space (λ rows. AreFirstPages space.schema.now.format (segment_sizes space.schema.now rows)
    (leaves_of space.schema.now rows) space.rows.now first.starts.items first.pages.items)

-- what the tree of index j is put by
pub record IsTreeOf (space : Space) (j : ℕ) (tree : TreePlan) : Type 0 where
  pub index : tree.index ≡ j
  pub leaf : tree.leaf.now ≡ leaf_fields space.schema.now j
  pub node : tree.node.now ≡ node_fields space.schema.now j
  pub sizes : tree.sizes.now ≡ space.plan.now.sizes.items
  pub counts : OfSpace space (λ rows. tree.counts.now ≡ tree_counts space.schema.now rows j)

-- all pages but page 0
abbrev pub pages_behind_head : TableDef → Rows → List Numbered
pages_behind_head table rows = segment_pages table rows ++ system_pages (segment_sizes table rows)

-- what is left in a fresh store
abbrev pub LeavesSpace : {A : Type 0} → TableDef → Rows → Result A PutStop → Store → Store → Type 0
LeavesSpace table rows (Ok a) before now = HoldsLayout table rows before now
LeavesSpace table rows (Err stops.Store) before now = HoldsPart table rows before now
LeavesSpace table rows (Err stops.Memory) before now = LacksHead now

-- if memory ran out, the store wasn't called, or was sized
pub record PutsSpace {T A : Type 0} (g : StoreOf T) (table : TableDef) (rows : Rows) (old new : T)
    (result : Result A PutStop) : Type 0 where
  pub leaves : LeavesSpace table rows result (g.told old) (g.told new)
  pub memory : result ≡ Err stops.Memory → (new ≡ old) ⊎ IsSizedFor table rows (g.told old) (g.told new)
  pub later : g.faults old ≤ g.faults new
  pub store_rose : result ≡ Err stops.Store → Rose (g.faults old) (g.faults new)
