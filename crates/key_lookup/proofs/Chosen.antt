-- The choice of a node pointer, record by record.
use Rattle.std.proofs.Common.{◌≡◌, ℕ, ◌+◌, ◌-◌, ◌==◌, ◌<◌, ◌≤◌, Bool, true, false, not, List, get_or, inl, inr, refl}
use Rattle.std.proofs.Common.{sym, ap}
use Rattle.std.proofs.Common.{◌∙◌, subst, arith}
use Rattle.std.specs.declared.cmp.Ordering.{Ordering}
use Rattle.std.specs.Ordering.{is_gt, ordering_index}
use Rattle.std.proofs.lemmas.Bool.{cases_lt, true≢false}
use Rattle.std.proofs.lemmas.Cmp.{is_gt_index}
use Rattle.column_values.specs.Types.{Fields}
use Rattle.column_values.specs.Order.{Key, key_cmp}
use Rattle.compact_record.specs.Header.{next_origin}
use Rattle.compact_record.specs.Reading.{key_of, key_kinds}
use Rattle.index_page.specs.Header.{records_of, record_count}
use Rattle.tree_walk.specs.Records.{IsRecord, PageFacts}
use Rattle.tree_walk.proofs.Records.{record_step, record_at}
use Rattle.key_lookup.specs.declared.choose.Chosen.{Chosen}
use Rattle.key_lookup.specs.Choice.{IsLast}

module _ (page : List ℕ) (node : Fields) (facts : PageFacts page node) (k at here : ℕ) (least : 1 ≤ k)
    (within : k < record_count page) (before : at ≡ get_or (records_of page) (k - 1) 0)
    (next : here ≡ next_origin page at) where
  pub here_more : here ≡ get_or (records_of page) (k + 1 - 1) 0
  here_more = record_step page k at here least within before next

  pub here_is : here ≡ get_or (records_of page) k 0
  here_is = let e : k + 1 - 1 ≡ k = omega arith in here_more ∙ ap (λ (i : ℕ). get_or (records_of page) i 0) e

  pub is_record : IsRecord page node here
  is_record = subst (λ (o : ℕ). IsRecord page node o) (sym here_is) (record_at page node k facts within)

  module _ (key : Key) (chosen : Chosen) (last : IsLast page node key chosen k) (o : Ordering) (origin : ℕ)
      (stands : origin ≡ here) (is : o ≡ key_cmp (key_kinds node) (key_of page origin node) key) where
    order_is : o ≡ key_cmp (key_kinds node) (key_of page (get_or (records_of page) k 0) node) key
    order_is = is ∙ ap (λ (at : ℕ). key_cmp (key_kinds node) (key_of page at node) key) (stands ∙ here_is)

    -- the key isn't greater: this record is the last one so far
    pub takes : not (ordering_index o == 2) ≡ true → IsLast page node key (record { k = k; origin = here }) (k + 1)
    takes e = record {
      within = omega arith;
      origin = here_is;
      up = inr (ap is_gt (sym order_is) ∙ is_gt_index o ∙ not_true (ordering_index o == 2) e);
      last = λ j more less. absurd (omega arith);
    }
      where
        not_true : (b : Bool) → not b ≡ true → b ≡ false
        not_true true e = absurd (true≢false (sym e))
        not_true false e = refl

    -- the key is greater: the record before stays chosen
    pub keeps : not (ordering_index o == 2) ≡ false → IsLast page node key chosen (k + 1)
    keeps e = record {
      within = let w = last.within in omega arith;
      origin = last.origin;
      up = last.up;
      last = λ j more less. elim (cases_lt j k) [
        | inl before ↦ last.last j more before
        | inr behind ↦
            let same : k ≡ j = omega arith in
            subst (λ (i : ℕ). is_gt (key_cmp (key_kinds node) (key_of page (get_or (records_of page) i 0) node) key) ≡
            true) same (ap is_gt (sym order_is) ∙ is_gt_index o ∙ not_false (ordering_index o == 2) e)
      ];
    }
      where
        not_false : (b : Bool) → not b ≡ false → b ≡ true
        not_false true e = refl
        not_false false e = absurd (true≢false e)
