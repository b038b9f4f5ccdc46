-- The checks of the head, and then those of the look-up.
use Rattle.std.proofs.Common.{◌≡◌, ℕ, ◌+◌, ◌≤◌, List, length, Option, None, Some, inl, inr, ap, ◌∙◌, subst, arith}
use Rattle.page_source.specs.declared.objects.PageSource.{Ghosts as FileOf}
use Rattle.page_source.specs.declared.rule.Fault.{Fault}
use Rattle.page_source.specs.declared.checks.Halt.{Halt}
use Rattle.page_source.specs.declared.checks.Halt.TheVariants.{Broken, Source}
use Rattle.page_source.specs.Checks.{HaltsAt, Stops, stop_of}
use Rattle.page_source.specs.Calls.{OfFile}
use Rattle.page_source.specs.Pages.{page_count}
use Rattle.page_source.proofs.Told.{map_told}
use Rattle.column_values.specs.Types.{Fields}
use Rattle.column_values.specs.Order.{Key}
use Rattle.extent_map.specs.Head.{HeadChecks}
use Rattle.schema_text.specs.Formats.{flags_of}
use Rattle.schema_text.specs.TableDef.{TableDef, index_at}
use Rattle.schema_text.specs.IndexFields.{leaf_fields, node_fields}
use Rattle.tree_walk.specs.Index.{Index, index_of, root_level}
use Rattle.table_check.specs.Trees.{index_in, clustered_tree}
use Rattle.table_check.specs.First.{TakesSteps}
use Rattle.key_lookup.specs.GetFirst.{LookUpChecks, GetFirst}
use Rattle.key_lookup.specs.Record.{found_row, found_pages}
use Rattle.key_lookup.specs.Get.{get_steps}

pub index_same : (file : List ℕ) (table : TableDef) (root : ℕ) (leaf node : Fields) → root ≡ (index_at table 0).root
    → leaf ≡ leaf_fields table 0 → node ≡ node_fields table 0 → index_of file root leaf node ≡ clustered_tree file table
unfolding index_in
index_same file table root leaf node r l n =
    ap (λ (r : ℕ). index_of file r leaf node) r
    ∙ ap (λ (f : Fields). index_of file (index_at table 0).root f node) l
    ∙ ap (index_of file (index_at table 0).root (leaf_fields table 0)) n

module _ (file : List ℕ) (table : TableDef) (key : Key) (flags : ℕ) (f : flags ≡ flags_of table.format) where
  head_is : (v : Option Fault) → HeadChecks file flags v → HeadChecks file (flags_of table.format) v
  head_is v x = subst (λ (n : ℕ). HeadChecks file n v) f x

  pub in_head : (halt : Halt) → HaltsAt halt (HeadChecks file flags) → Stops (stop_of halt) (GetFirst file table key)
  unfolding GetFirst
  in_head (Broken fault) x = inl (head_is (Some fault) x)
  in_head Source x = tt

  module _ (index : Index) (is : index ≡ clustered_tree file table) (head : HeadChecks file flags None) where
    pub in_look_up : (halt : Halt) → HaltsAt halt (LookUpChecks index key)
        → Stops (stop_of halt) (GetFirst file table key)
    unfolding GetFirst
    in_look_up (Broken fault) x =
        inr (head_is None head, subst (λ (i : Index). LookUpChecks i key (Some fault)) is x)
    in_look_up Source x = tt

    pub holds : LookUpChecks index key None → GetFirst file table key None
    unfolding GetFirst
    holds x = (head_is None head, subst (λ (i : Index). LookUpChecks i key None) is x)

-- one step for the head, and those behind it
pub all_steps : (file : List ℕ) (table : TableDef) (key : Key) (index : Index) (steps mid spent : ℕ)
    → index ≡ clustered_tree file table → mid ≤ steps + 1
    → spent ≤ mid + root_level index + 1 + length (found_pages index (found_row index key))
    → spent ≤ steps + root_level (clustered_tree file table) + 2
    + length (found_pages (clustered_tree file table) (found_row (clustered_tree file table) key))
all_steps file table key index steps mid spent is one few =
    omega (
      arith,
      one,
      few,
      ap root_level is,
      ap (λ (i : Index). length (found_pages i (found_row i key))) is,
    )
