-- The answers of an index, and of all.
use Rattle.std.proofs.Common.{◌≡◌, ℕ, zero, suc, ◌+◌, ◌-◌, ◌<◌, ◌≤◌, ◌⊎◌, Option, Some, None, List, length, refl, sym}
use Rattle.std.proofs.Common.{ap, ◌∙◌}
use Rattle.std.proofs.Common.{inl, inr, arith, subst}
use Rattle.std.proofs.lemmas.Bool.{cases_lt, cases_order}
use Rattle.page_source.specs.Verdict.{AllBelow, Each}
use Rattle.page_source.proofs.Unique.{IsUnique, some_is_not_none}
use Rattle.schema_text.specs.TableDef.{TableDef}
use Rattle.schema_text.specs.Grammar.{IsTable}
use Rattle.tree_walk.specs.Index.{row_at}
use Rattle.table_check.specs.Trees.{index_count}
use Rattle.table_check.specs.Valid.{IsValid}
use Rattle.cross_index.specs.Entries.{entries_in, entry_kinds, row_keys, entry_keys}
use Rattle.cross_index.specs.Differ.{Difference, Missing, Extra, IndexDiffers, SecondaryDiffers}
use Rattle.cross_index.specs.Differ.{Differ}
use Rattle.cross_index.specs.Laws.{HasOneAnswer, HasOneDifference}
use Rattle.cross_index.specs.Sides.{AreApart}
use Rattle.cross_index.proofs.Sides.{rise_apart, one_lone, one_side, same_not_lone, same_back, have_answer}
use Rattle.cross_index.proofs.Sides.{HaveAnswer}
use Rattle.cross_index.proofs.Rising.{entries_rise}
use Rattle.cross_index.proofs.DistinctKeys.{HasLaws, rows_apart}

-- checks that have one answer each below a count have one
each_unique : {F : Type 0} (count : ℕ) (check : ℕ → Option F → Type 0) → ((k : ℕ) → k < count → IsUnique (check k))
    → IsUnique (Each count check)
each_unique count check u None None p q = refl
each_unique count check u None (Some g) p q = u q.0 q.1 None (Some g) (p q.0 q.1) q.3
each_unique count check u (Some f) None p q = u p.0 p.1 (Some f) None p.3 (q p.0 p.1)
each_unique count check u (Some f) (Some g) p q =
    elim (cases_order p.0 q.0) [
      | inl e ↦ u q.0 q.1 (Some f) (Some g) (subst (λ k. check k (Some f)) e p.3) q.3
      | inr h ↦ elim h [
        | inl below ↦ some_is_not_none f (u p.0 p.1 (Some f) None p.3 (q.2 p.0 below))
        | inr above ↦ some_is_not_none g (u q.0 q.1 (Some g) None q.3 (p.2 q.0 above))
      ]
    ]

module _ (laws : HasLaws) (file : List ℕ) (table : TableDef) (is : IsTable table) (valid : IsValid file table) where
  module _ (i : ℕ) (within : i < length table.indexes) (second : 1 ≤ i) where
    apart : AreApart (entry_kinds table i) (row_keys file table i)
    apart = rows_apart laws file table i is valid within second

    entries_apart : AreApart (entry_kinds table i) (entry_keys file table i)
    entries_apart =
        rise_apart (entry_kinds table i) (entry_keys file table i) (entries_rise laws.rise file table i valid within)

    -- an index has one answer
    index_unique : IsUnique (IndexDiffers file table i)
    index_unique None None p q = refl
    index_unique None (Some (Missing index row)) p (at, lacks) =
        absurd (same_not_lone (entry_kinds table i) (row_keys file table i) (entry_keys file table i) lacks.place p
        lacks.least)
    index_unique None (Some (Extra index page)) p (at, extra) =
        absurd (same_not_lone (entry_kinds table i) (entry_keys file table i) (row_keys file table i) extra.place
        (same_back (entry_kinds table i) (row_keys file table i) (entry_keys file table i) p) extra.least)
    index_unique (Some (Missing index row)) None (at, lacks) q =
        absurd (same_not_lone (entry_kinds table i) (row_keys file table i) (entry_keys file table i) lacks.place q
        lacks.least)
    index_unique (Some (Extra index page)) None (at, extra) q =
        absurd (same_not_lone (entry_kinds table i) (entry_keys file table i) (row_keys file table i) extra.place
        (same_back (entry_kinds table i) (row_keys file table i) (entry_keys file table i) q) extra.least)
    index_unique (Some (Missing a r)) (Some (Missing b s)) (at, p) (bt, q) =
        let e : p.place ≡ q.place = one_lone (entry_kinds table i) (row_keys file table i) (entry_keys file table i)
        p.place q.place apart p.least q.least in
        let rows : r ≡ s = omega (arith, p.row_is, q.row_is, e) in rw (at, bt, rows) refl
    index_unique (Some (Extra a r)) (Some (Extra b s)) (at, p) (bt, q) =
        let e : p.place ≡ q.place = one_lone (entry_kinds table i) (entry_keys file table i) (row_keys file table i)
        p.place q.place entries_apart p.least q.least in
        let pages : r ≡ s =
        p.page_is ∙ ap (λ (k : ℕ). (row_at (entries_in file table i) k).page) e ∙ sym q.page_is in
        rw (at, bt, pages) refl
    index_unique (Some (Missing a r)) (Some (Extra b s)) (at, p) (bt, q) =
        absurd (one_side (entry_kinds table i) (row_keys file table i) (entry_keys file table i) p.place q.place p.least
        q.least)
    index_unique (Some (Extra a r)) (Some (Missing b s)) (at, p) (bt, q) =
        absurd (one_side (entry_kinds table i) (row_keys file table i) (entry_keys file table i) q.place p.place q.least
        p.least)

    -- index i differs in some way, or not at all
    index_answer : (answer : Option Difference) × IndexDiffers file table i answer
    index_answer = by_answer (have_answer (entry_kinds table i) (row_keys file table i) (entry_keys file table i))
      where
        by_answer : HaveAnswer (entry_kinds table i) (row_keys file table i) (entry_keys file table i)
            → (answer : Option Difference) × IndexDiffers file table i answer
        by_answer (inl same) = (None, same)
        by_answer (inr (inl (k, least))) =
            (Some (Missing i (k + 1)), (refl, record { place = k; row_is = refl; least = least }))
        by_answer (inr (inr (k, least))) = (
          Some (Extra i (row_at (entries_in file table i) k).page),
          (refl, record { place = k; page_is = refl; least = least }),
        )

  abbrev count : ℕ
  count = index_count table - 1

  -- the first n secondary indexes have no difference, or one of them is the first that has
  first_of : (n : ℕ) → n ≤ count
      → AllBelow (SecondaryDiffers file table) n
      ⊎ ((answer : Difference) × (k : ℕ) × (k < n) × AllBelow (SecondaryDiffers file table) k
      × SecondaryDiffers file table k (Some answer))
  first_of zero few = inl (λ j less. absurd (omega (arith, less)))
  first_of (suc n) few = by_before (first_of n (omega (arith, few)))
    where
      by_answer : AllBelow (SecondaryDiffers file table) n → (answer : Option Difference)
          → SecondaryDiffers file table n answer
          → AllBelow (SecondaryDiffers file table) (suc n)
          ⊎ ((answer : Difference) × (k : ℕ) × (k < suc n) × AllBelow (SecondaryDiffers file table) k
          × SecondaryDiffers file table k (Some answer))
      by_answer all None here =
          inl (λ j less. elim (cases_lt j n) [
            | inl below ↦ all j below
            | inr last ↦
                let e : n ≡ j = omega (arith, less, last) in
                subst (λ (k : ℕ). SecondaryDiffers file table k None) e here
          ])
      by_answer all (Some answer) here = inr (answer, n, omega arith, all, here)

      by_before : AllBelow (SecondaryDiffers file table) n
          ⊎ ((answer : Difference) × (k : ℕ) × (k < n) × AllBelow (SecondaryDiffers file table) k
          × SecondaryDiffers file table k (Some answer))
          → AllBelow (SecondaryDiffers file table) (suc n)
          ⊎ ((answer : Difference) × (k : ℕ) × (k < suc n) × AllBelow (SecondaryDiffers file table) k
          × SecondaryDiffers file table k (Some answer))
      by_before (inl all) =
          let here = index_answer (n + 1) (omega (arith, few)) (omega arith) in by_answer all here.0 here.1
      by_before (inr (answer, k, below, all, here)) = inr (answer, k, omega (arith, below), all, here)

  -- the answer of a secondary index below the count is one
  pub one_answer : HasOneAnswer file table
  unfolding Differ
  one_answer = by_first (first_of count (omega arith))
    where
      only : (a b : Option Difference) → Each count (SecondaryDiffers file table) a
          → Each count (SecondaryDiffers file table) b → a ≡ b
      only a b p q = each_unique count (SecondaryDiffers file table)
          (λ k below. index_unique (k + 1) (omega (arith, below)) (omega arith)) a b p q

      by_first : AllBelow (SecondaryDiffers file table) count
          ⊎ ((answer : Difference) × (k : ℕ) × (k < count) × AllBelow (SecondaryDiffers file table) k
          × SecondaryDiffers file table k (Some answer))
          → HasOneAnswer file table
      by_first (inl all) = record {
        difference = None;
        differ = all;
        only = λ other differ. only other None differ all;
      }
      by_first (inr (answer, k, below, all, here)) = record {
        difference = Some answer;
        differ = (k, below, all, here);
        only = λ other differ. only other (Some answer) differ (k, below, all, here);
      }

pub has_one_difference : HasLaws → HasOneDifference
has_one_difference laws file table is valid = one_answer laws file table is valid
