-- The stages of the checks of a table, one after another.
use Rattle.std.proofs.Common.{◌≡◌, ℕ, ◌+◌, ◌≤◌, List, length, Option, Some, None, inl, inr}
use Rattle.std.proofs.Common.{sym, ◌∙◌, subst, arith}
use Rattle.std.proofs.lemmas.List.Sums.{length-filter}
use Rattle.page_source.specs.declared.objects.PageSource.{Ghosts as FileOf}
use Rattle.page_source.specs.declared.rule.Fault.{Fault}
use Rattle.page_source.specs.declared.checks.Stop.{Stop}
use Rattle.page_source.specs.declared.checks.Stop.TheVariants as stops
use Rattle.page_source.specs.Pages.{page_count}
use Rattle.page_source.specs.Checks.{Stops}
use Rattle.page_source.specs.Calls.{OfFile}
use Rattle.page_source.proofs.Told.{map_told}
use Rattle.schema_text.specs.Formats.{flags_of}
use Rattle.schema_text.specs.TableDef.{TableDef}
use Rattle.space_audit.specs.Audit.{AuditChecks}
use Rattle.tree_walk.specs.declared.ends.TreeEnds.{TreeEnds}
use Rattle.tree_walk.specs.Walk.{IsEndsOf}
use Rattle.tree_walk.specs.Index.{Index, is_live_row, is_deleted_row, leaf_rows}
use Rattle.table_check.specs.Values.{live_rows, deleted_rows}
use Rattle.table_check.specs.First.{First, TableTreeChecks, ValueChecksOf, UnreachedChecks, TakesSteps, check_steps}

module _ (file : List ℕ) (table : TableDef) (flags : ℕ) (is_flags : flags ≡ flags_of table.format) where
  audited : (v : Option Fault) → AuditChecks file flags v → AuditChecks file (flags_of table.format) v
  audited v check = subst (λ (f : ℕ). AuditChecks file f v) is_flags check

  pub stops_in_audit : (stop : Stop) → Stops stop (AuditChecks file flags) → Stops stop (First file table)
  unfolding First
  stops_in_audit (stops.Broken fault) at = inl (audited (Some fault) at)
  stops_in_audit stops.Source at = tt
  stops_in_audit stops.Memory at = tt

  module _ (audit : AuditChecks file flags None) where
    pub stops_in_trees : (stop : Stop) → Stops stop (TableTreeChecks file table) → Stops stop (First file table)
    unfolding First
    stops_in_trees (stops.Broken fault) at = inr (audited None audit, inl at)
    stops_in_trees stops.Source at = tt
    stops_in_trees stops.Memory at = tt

    module _ (trees : TableTreeChecks file table None) where
      pub stops_in_values : (stop : Stop) → Stops stop (ValueChecksOf file table) → Stops stop (First file table)
      unfolding First
      stops_in_values (stops.Broken fault) at = inr (audited None audit, inr (trees, inl at))
      stops_in_values stops.Source at = tt
      stops_in_values stops.Memory at = tt

      pub breaks_unreached : (fault : Fault) → ValueChecksOf file table None → UnreachedChecks file table (Some fault)
          → First file table (Some fault)
      unfolding First
      breaks_unreached fault values at = inr (audited None audit, inr (trees, inr (values, at)))

      pub all_hold : ValueChecksOf file table None → UnreachedChecks file table None → First file table None
      unfolding First
      all_hold values rest = (audited None audit, (trees, (values, rest)))

-- how many rows there are of either kind
pub live_count : (index : Index) (ends : TreeEnds) → IsEndsOf index ends → ends.live ≡ length (live_rows index)
unfolding live_rows
live_count index ends is = is.live ∙ sym (length-filter (is_live_row index) (leaf_rows index))

pub deleted_count : (index : Index) (ends : TreeEnds) → IsEndsOf index ends → ends.deleted ≡ length (deleted_rows index)
unfolding deleted_rows
deleted_count index ends is = is.deleted ∙ sym (length-filter (is_deleted_row index) (leaf_rows index))

-- the steps of the checks of so many pages
pub takes_steps : {S : Type 0} {g : FileOf S} {source : S} {size steps spent : ℕ}
    → OfFile g source (λ file. size ≤ page_count file) → size ≤ 4194304 → spent ≤ steps + check_steps size
    → TakesSteps g source check_steps steps spent
takes_steps {g = g} {source = source} within most few = record {
  told = map_told (g.content source) (λ file less. omega (arith, less, few)) within;
  always = omega (arith, most, few);
}
