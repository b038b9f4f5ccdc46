-- What is named over any file, told or not.
use Rattle.std.proofs.Common.{◌≡◌, ℕ, ◌+◌, ◌<◌, ◌≤◌, List, length, get_or, Result, Ok, Err, inl, inr}
use Rattle.std.proofs.Common.{refl, ap, ◌∙◌, subst, arith}
use Rattle.page_source.specs.declared.rule.Fault.{Fault}
use Rattle.page_source.specs.declared.checks.Halt.{Halt}
use Rattle.page_source.specs.declared.checks.Halt.TheVariants as halts
use Rattle.page_source.specs.declared.checks.Stop.{Stop}
use Rattle.page_source.specs.declared.checks.Stop.TheVariants as checks
use Rattle.column_values.specs.declared.field.FieldType.{FieldType}
use Rattle.column_values.specs.Order.{Key}
use Rattle.schema_text.specs.TableDef.{TableDef}
use Rattle.table_check.specs.Live.{LiveView, CutsOff}
use Rattle.table_check.specs.Trees.{index_count}
use Rattle.cross_index.specs.declared.crossed.CrossStop.{CrossStop}
use Rattle.cross_index.specs.declared.crossed.CrossStop.TheVariants as stops
use Rattle.cross_index.specs.Stops.{cross_stop_of, cross_stop_of_checks}
use Rattle.cross_index.specs.Cross.{IsSecondary, Names}
use Rattle.cross_index.specs.calls.Broken.{BreaksChain, BreaksLeaf, BreaksRow, BreaksReading, BreaksAt}
use Rattle.cross_index.specs.calls.Compare.{Meets, EndsAt, NamesHere}

-- a chain names the page that is due
pub chain_names : (A : Type 0) (halt : Halt) → ((fault : Fault) → halt ≡ halts.Broken fault → BreaksChain fault)
    → BreaksAt {A = A} BreaksChain (Err (cross_stop_of halt))
chain_names A (halts.Broken fault) names = names fault refl
chain_names A halts.Source names = tt

-- the pass over the rows names the leaf in hand, or what the chain of a value names
pub rows_name : (A : Type 0) (rows : LiveView) (halt : Halt)
    → ((fault : Fault) → halt ≡ halts.Broken fault → CutsOff rows fault)
    → BreaksAt {A = A} (BreaksRow rows) (Err (cross_stop_of halt))
rows_name A rows (halts.Broken fault) cuts = inl (inl (cuts fault refl))
rows_name A rows halts.Source cuts = tt

pub row_names : (A B : Type 0) (rows : LiveView) (stop : CrossStop) → BreaksAt {A = A} BreaksChain (Err stop)
    → BreaksAt {A = B} (BreaksRow rows) (Err stop)
row_names A B rows (stops.Broken fault) at = inr at
row_names A B rows (stops.Missing index row) at = at
row_names A B rows (stops.Extra index page) at = at
row_names A B rows stops.Source at = tt
row_names A B rows stops.Memory at = tt

-- the rules of a leaf, and of a row
leaf_rules : (rows : LiveView) (fault : Fault) → BreaksLeaf rows fault → BreaksReading fault
leaf_rules rows fault (inl (inl off)) = elim off.cause [
  | inl chain ↦ inl chain.0
  | inr sibling ↦ inr (inl sibling.0)
]
leaf_rules rows fault (inl (inr (is, counted))) = inl (ap (λ (f : Fault). f.rule) is)
leaf_rules rows fault (inr is) = inr (inr (inl (ap (λ (f : Fault). f.rule) is)))

row_rules : (rows : LiveView) (fault : Fault) → BreaksRow rows fault → BreaksReading fault
row_rules rows fault (inl leaf) = leaf_rules rows fault leaf
row_rules rows fault (inr chain) = inr (inr (inr chain))

pub reading_names : (A B : Type 0) (rows : LiveView) (stop : CrossStop) → BreaksAt {A = A} (BreaksRow rows) (Err stop)
    → BreaksAt {A = B} BreaksReading (Err stop)
reading_names A B rows (stops.Broken fault) at = row_rules rows fault at
reading_names A B rows (stops.Missing index row) at = at
reading_names A B rows (stops.Extra index page) at = at
reading_names A B rows stops.Source at = tt
reading_names A B rows stops.Memory at = tt

-- the comparison of index i with so many rows
module _ (i rows : ℕ) (entries : LiveView) where
  pub halt_names : (halt : Halt) → ((fault : Fault) → halt ≡ halts.Broken fault → CutsOff entries fault)
      → NamesHere i rows entries (Err (cross_stop_of halt))
  halt_names (halts.Broken fault) cuts = inl (cuts fault refl)
  halt_names halts.Source cuts = tt

  module _ (order : List ℕ) (next : ℕ) (below : next < length order → get_or order next 0 < rows) where
    pub meet_names : (kinds : List FieldType) (keys : List Key) (key : Key) (page : ℕ) (stop : CrossStop)
        → page ≡ entries.leaf.number → Meets kinds keys order next key i page (Err stop)
        → NamesHere i rows entries (Err stop)
    meet_names kinds keys key page (stops.Extra index p) number (same, is, less) = (same, is ∙ number)
    meet_names kinds keys key page (stops.Missing index row) number (same, within, is, less) =
        (same, omega (arith, is), omega (arith, is, below within))
    meet_names kinds keys key page (stops.Broken fault) number at = absurd at
    meet_names kinds keys key page stops.Source number at = absurd at
    meet_names kinds keys key page stops.Memory number at = absurd at

    pub end_names : (result : Result ℕ CrossStop) → EndsAt order next i result → NamesHere i rows entries result
    end_names (Ok count) at = tt
    end_names (Err (stops.Missing index row)) (same, within, is) =
        (same, omega (arith, is), omega (arith, is, below within))
    end_names (Err (stops.Extra index page)) at = absurd at
    end_names (Err (stops.Broken fault)) at = absurd at
    end_names (Err stops.Source) at = absurd at
    end_names (Err stops.Memory) at = absurd at

  pub index_names : (result : Result ℕ CrossStop) → NamesHere i rows entries result → Names (λ index. index ≡ i) result
  index_names (Ok count) at = tt
  index_names (Err (stops.Missing index row)) at = (at.0, at.1)
  index_names (Err (stops.Extra index page)) at = at.0
  index_names (Err (stops.Broken fault)) at = tt
  index_names (Err stops.Source) at = tt
  index_names (Err stops.Memory) at = tt

  pub index_rules : (result : Result ℕ CrossStop) → NamesHere i rows entries result → (fault : Fault)
      → result ≡ Err (stops.Broken fault) → BreaksReading fault
  index_rules (Ok count) at fault is = absurd (cc)
  index_rules (Err (stops.Missing index row)) at fault is = absurd (cc)
  index_rules (Err (stops.Extra index page)) at fault is = absurd (cc)
  index_rules (Err (stops.Broken named)) at fault is =
      let same : named ≡ fault = cc in subst BreaksReading same (leaf_rules entries named at)
  index_rules (Err stops.Source) at fault is = absurd (cc)
  index_rules (Err stops.Memory) at fault is = absurd (cc)

-- each index that is compared is a secondary one
pub secondary_named : (A B : Type 0) (table : TableDef) (i : ℕ) (stop : CrossStop) → 1 ≤ i → i < index_count table
    → Names {A = A} (λ index. index ≡ i) (Err stop) → Names {A = B} (IsSecondary table) (Err stop)
secondary_named A B table i (stops.Missing index row) some within at = (
  record { after_clustered = omega (arith, some, at.0); within = omega (arith, within, at.0) },
  at.1,
)
secondary_named A B table i (stops.Extra index page) some within at =
    record { after_clustered = omega (arith, some, at); within = omega (arith, within, at) }
secondary_named A B table i (stops.Broken fault) some within at = tt
secondary_named A B table i stops.Source some within at = tt
secondary_named A B table i stops.Memory some within at = tt

-- the checks and the pass over the rows find no difference
module _ (IsIndex : ℕ → Type 0) where
  pub checks_name : (A : Type 0) (end : Stop) → Names {A = A} IsIndex (Err (cross_stop_of_checks end))
  checks_name A (checks.Broken fault) = tt
  checks_name A checks.Source = tt
  checks_name A checks.Memory = tt

  pub pass_names : (A B : Type 0) (stop : CrossStop) → BreaksAt {A = A} BreaksReading (Err stop)
      → Names {A = B} IsIndex (Err stop)
  pass_names A B (stops.Broken fault) at = tt
  pass_names A B (stops.Missing index row) at = absurd at
  pass_names A B (stops.Extra index page) at = absurd at
  pass_names A B stops.Source at = tt
  pass_names A B stops.Memory at = tt

  pub names_again : (A B : Type 0) (stop : CrossStop) → Names {A = A} IsIndex (Err stop)
      → Names {A = B} IsIndex (Err stop)
  names_again A B (stops.Broken fault) at = tt
  names_again A B (stops.Missing index row) at = at
  names_again A B (stops.Extra index page) at = at
  names_again A B stops.Source at = tt
  names_again A B stops.Memory at = tt
