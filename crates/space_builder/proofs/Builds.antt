-- What a build answers at each of its ends.
use Rattle.std.proofs.Common.{◌≡◌, ℕ, ◌≤◌, List, [], length, None, Result, Ok, Err, refl, inl, inr}
use Rattle.std.proofs.Common.{ap, ◌∙◌, arith}
use Rattle.std.specs.FinMap.{get, get-empty}
use Rattle.std.specs.Option.{is_some}
use Rattle.std.specs.Ordering.{nat_cmp}
use Rattle.page_source.specs.declared.objects.ByteSource.{Ghosts as TextOf}
use Rattle.page_source.specs.declared.objects.PageStore.{Ghosts as StoreOf}
use Rattle.page_source.specs.Objects.{PageMap, Store, IsFresh}
use Rattle.page_source.proofs.Told.{map_told}
use Rattle.schema_text.specs.Grammar.{IsTable}
use Rattle.schema_text.specs.TableDef.{TableDef}
use Rattle.row_layout.specs.StoredRow.{Stored}
use Rattle.row_store.specs.declared.stop.RowsStop.{RowsStop}
use Rattle.row_store.specs.declared.stop.RowsStop.TheVariants as reads
use Rattle.space_builder.specs.declared.built.Built.{Built}
use Rattle.space_builder.specs.declared.built.BuildStop.{BuildStop}
use Rattle.space_builder.specs.declared.built.BuildStop.TheVariants as stops
use Rattle.space_builder.specs.declared.built.PutStop.{PutStop}
use Rattle.space_builder.specs.declared.built.PutStop.TheVariants as puts
use Rattle.space_builder.specs.declared.plan.PlanStop.{PlanStop}
use Rattle.space_builder.specs.declared.space.Space.{Space}
use Rattle.space_builder.specs.declared.plan.PlanStop.TheVariants as plans
use Rattle.space_builder.specs.build.RootOrder.{RootOrderChecks}
use Rattle.space_builder.specs.build.Build.{AreRowsRead, Builds, ReadsText, BuildsWithCause, LacksHead}
use Rattle.space_builder.specs.build.Build.{IsUncalledOrSized}
use Rattle.space_builder.specs.calls.Plan.{AreOrders, FindsPlan}
use Rattle.row_store.specs.ReadRows.{AreReadRows, FindsRows, ReadsRows}
use Rattle.space_builder.specs.calls.Space.{IsSpaceOf, PutsSpace, LeavesSpace}
use Rattle.space_builder.specs.calls.StoredRows.{AreStoredRows}
use Rattle.space_builder.specs.calls.Stops.{stop_of_rows, stop_of_put, stop_of_plan}
use Rattle.space_builder.specs.layout.Laws.{CanBuild}
use Rattle.row_store.specs.StoredRows.{Rows}
use Rattle.space_builder.specs.layout.Layout.{FitsSpace, layout_size}

-- a build ends so
abbrev IsEnd : Result Built BuildStop → BuildStop → Type 0
IsEnd result stop = result ≡ Err stop

-- a fresh store lacks page 0
pub fresh_lacks : (store : Store) → IsFresh store → LacksHead store
fresh_lacks store fresh =
    map_told store.held (λ held is. ap is_some (ap (λ (map : PageMap). get map 0) is ∙ get-empty nat_cmp 0)) fresh.held

module _ {R : Type 0} (g : TextOf R) (table : TableDef) (old new : R) where
  -- reading failed
  pub read_failed : (stop : RowsStop) (store : Store) → RootOrderChecks table None → IsFresh store
      → FindsRows g table old new (Err stop) → Builds table (g.left old) (Err (stop_of_rows stop)) store store
  read_failed (reads.Refused line why) store roots fresh finds =
      (roots, map_told (g.left old) (λ text found. found.0) finds, refl)
  read_failed reads.Source store roots fresh finds = (roots, refl)
  read_failed reads.Memory store roots fresh finds = fresh_lacks store fresh

  -- and no more was read
  pub read_short : (stop : RowsStop) → FindsRows g table old new (Err stop)
      → ReadsText g.left old new (Err (stop_of_rows stop))
  read_short (reads.Refused line why) finds = map_told (g.left old) (λ text found. found.1) finds
  read_short reads.Source finds = tt
  read_short reads.Memory finds = tt

  -- the text alone is blamed
  pub read_cause : (store : ℕ) (stop : RowsStop) → ReadsRows g table old new (Err stop)
      → BuildsWithCause (g.faults old) (g.faults new) store store (Err (stop_of_rows stop))
  read_cause store (reads.Refused line why) ends = record {
    source_later = ends.later;
    store_later = omega arith;
    source_rose = λ same. absurd (cc);
    store_rose = λ same. absurd (cc);
  }
  read_cause store reads.Source ends = record {
    source_later = ends.later;
    store_later = omega arith;
    source_rose = λ same. ends.rose refl;
    store_rose = λ same. absurd (cc);
  }
  read_cause store reads.Memory ends = record {
    source_later = ends.later;
    store_later = omega arith;
    source_rose = λ same. absurd (cc);
    store_rose = λ same. absurd (cc);
  }

  -- rows were read
  module _ (stored : List (List Stored)) (is_table : IsTable table) (roots : RootOrderChecks table None)
      (read : AreReadRows g table old new stored) where
    pub are_stored : AreStoredRows table read.rows stored
    are_stored = record { is_table = is_table; good = read.good; same = read.same }

    rows_read : AreRowsRead table (g.left old) read.rows
    rows_read = record { good = read.good; of_text = map_told (g.left old) (λ text of. of.0) read.of_text }

    pub can_build : FitsSpace table read.rows → CanBuild table read.rows
    can_build fits = record {
      is_table = is_table;
      roots = roots;
      are_rows = read.good.are_rows;
      rise = read.good.rise;
      fitted = read.good.fitted;
      few = read.good.few;
      fits = fits;
    }

    -- there is no plan
    pub no_plan : (stop : PlanStop) (store : Store) → IsFresh store → FindsPlan table stored (Err stop)
        → Builds table (g.left old) (Err (stop_of_plan stop)) store store
    no_plan plans.Full store fresh full = ((roots, (read.rows, rows_read, full read.rows are_stored)), refl)
    no_plan plans.Memory store fresh finds = fresh_lacks store fresh

    -- putting stopped, or all is put
    pub not_put : (stop : PutStop) (before now : Store) → FitsSpace table read.rows
        → LeavesSpace {A = Unit {0}} table read.rows (Err stop) before now
        → Builds table (g.left old) (Err (stop_of_put stop)) before now
    not_put puts.Store before now fits part = (roots, (read.rows, rows_read, (fits, part)))
    not_put puts.Memory before now fits lacks = lacks

    pub all_put : (built : Built) (before now : Store) → FitsSpace table read.rows
        → LeavesSpace {A = Unit {0}} table read.rows (Ok tt) before now → built.pages ≡ layout_size table read.rows
        → built.rows ≡ length read.rows → Builds table (g.left old) (Ok built) before now
    all_put built before now fits holds pages count =
        (roots, (read.rows, rows_read, (fits, holds, pages, count)))

    -- memory ran out while pages were put, or before
    pub put_short : {T : Type 0} (h : StoreOf T) (before now : T) (stop : PutStop) → FitsSpace table read.rows
        → PutsSpace {A = Unit {0}} h table read.rows before now (Err stop)
        → IsEnd (Err (stop_of_put stop)) stops.Memory → IsUncalledOrSized h.told table (g.left old) before now
    put_short h before now puts.Store fits ends same = absurd (cc)
    put_short h before now puts.Memory fits ends same = elim (ends.memory refl) [
      | inl uncalled ↦ inl uncalled
      | inr sized ↦ inr (roots, (read.rows, rows_read, (fits, sized)))
    ]

-- rows that were read, with their orders and the plan, are a space
module _ {R : Type 0} (g : TextOf R) (space : Space) (old new : R) (is_table : IsTable space.schema.now)
    (roots : RootOrderChecks space.schema.now None) (read : AreReadRows g space.schema.now old new space.rows.now)
    (orders : AreOrders space.schema.now space.rows.now space.orders.now)
    (plan : FindsPlan space.schema.now space.rows.now (Ok space.plan.now)) where
  pub is_space : IsSpaceOf space read.rows
  is_space =
      let are = are_stored g space.schema.now old new space.rows.now is_table roots read in
      record {
        can =
            can_build g space.schema.now old new space.rows.now is_table roots read (plan read.rows are).fits;
        same = read.same;
        orders = orders;
        plan = plan read.rows are;
      }

-- the store alone is blamed where putting stopped
pub put_cause : {T A : Type 0} (g : StoreOf T) (table : TableDef) (rows : Rows) (old new : T) (source source_now : ℕ)
    (stop : PutStop) → source ≤ source_now → PutsSpace {A = A} g table rows old new (Err stop)
    → BuildsWithCause source source_now (g.faults old) (g.faults new) (Err (stop_of_put stop))
put_cause g table rows old new source source_now puts.Store later ends = record {
  source_later = later;
  store_later = ends.later;
  source_rose = λ same. absurd (cc);
  store_rose = λ same. ends.store_rose refl;
}
put_cause g table rows old new source source_now puts.Memory later ends = record {
  source_later = later;
  store_later = ends.later;
  source_rose = λ same. absurd (cc);
  store_rose = λ same. absurd (cc);
}

pub no_cause : {T A : Type 0} (g : StoreOf T) (table : TableDef) (rows : Rows) (old new : T) (source source_now : ℕ)
    (a : A) (built : Built) → source ≤ source_now → PutsSpace g table rows old new (Ok a)
    → BuildsWithCause source source_now (g.faults old) (g.faults new) (Ok built)
no_cause g table rows old new source source_now a built later ends = record {
  source_later = later;
  store_later = ends.later;
  source_rose = λ same. absurd (cc);
  store_rose = λ same. absurd (cc);
}
