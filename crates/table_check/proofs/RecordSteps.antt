-- The fields of a record, one after another.
use Rattle.std.proofs.Common.{◌≡◌, ℕ, zero, suc, ◌+◌, ◌<◌, ◌≤◌, Bool, List, length, [], ◌∷◌, ◌++◌, flat_map, Option}
use Rattle.std.proofs.Common.{None, inl, inr, refl, ap, ◌∙◌, subst, arith, length-append}
use Rattle.std.specs.List.{range_with_len}
use Rattle.std.proofs.lemmas.List.{append-nil}
use Rattle.std.proofs.lemmas.Grind.{flat_map-append}
use Rattle.std.proofs.lemmas.Bool.{cases_lt}
use Rattle.page_source.specs.declared.rule.Fault.{Fault}
use Rattle.page_source.specs.declared.checks.Halt.{Halt}
use Rattle.page_source.specs.declared.checks.Halt.TheVariants.{Broken, Source}
use Rattle.page_source.specs.Checks.{HaltsAt}
use Rattle.page_source.specs.Verdict.{AllBelow, Each}
use Rattle.page_source.proofs.Lists.{range_next}
use Rattle.column_values.specs.Types.{Fields, field_at}
use Rattle.compact_record.specs.Reading.{place_of, field_count}
use Rattle.offpage_chain.specs.ChainChecks.{PlaceChecks}
use Rattle.table_check.specs.Values.{FieldCheckBy, RecordChecksBy, pages_of_field, pages_of_part}
use Rattle.table_check.specs.Values.{pages_of_record}

-- the numbers below a count, and one more
pub flat_map_more : (f : ℕ → List ℕ) (n : ℕ)
    → flat_map f (range_with_len 0 (n + 1)) ≡ flat_map f (range_with_len 0 n) ++ f n
flat_map_more f n =
    let e : 0 + n ≡ n = omega arith in
    ap (flat_map f) (range_next 0 n ∙ ap (λ (x : ℕ). range_with_len 0 n ++ x ∷ []) e)
    ∙ flat_map-append f (range_with_len 0 n) (n ∷ [])
    ∙ ap (λ (rest : List ℕ). flat_map f (range_with_len 0 n) ++ rest) (append-nil (f n))

-- one more check that holds
pub below_more : (check : ℕ → Option Fault → Type 0) (i : ℕ) → AllBelow check i → check i None → AllBelow check (i + 1)
below_more check i before here j below = elim (cases_lt j i) [
  | inl less ↦ before j less
  | inr more ↦ let e : i ≡ j = omega arith in subst (λ (k : ℕ). check k None) e here
]

-- a check that breaks behind others that hold
pub each_breaks : (count i : ℕ) (check : ℕ → Option Fault → Type 0) (halt : Halt) → i < count → AllBelow check i
    → HaltsAt halt (check i) → HaltsAt halt (Each count check)
each_breaks count i check (Broken fault) within before here = (i, within, before, here)
each_breaks count i check Source within before here = tt

-- the numbers below a count give no more than those below a greater one
flat_map_most : (f : ℕ → List ℕ) (i n : ℕ) → i ≤ n
    → length (flat_map f (range_with_len 0 i)) ≤ length (flat_map f (range_with_len 0 n))
flat_map_most f i zero less = let e : i ≡ 0 = omega arith in rw e (omega arith)
flat_map_most f i (suc n) less = elim (cases_lt n i) [
  | inl all ↦ let e : i ≡ suc n = omega arith in rw e (omega arith)
  | inr some ↦
      let one : n + 1 ≡ suc n = omega arith in
      let more = ap (λ (k : ℕ). length (flat_map f (range_with_len 0 k))) one in
      let step = flat_map_more f n in
      omega (
        arith,
        more,
        ap length step,
        length-append (flat_map f (range_with_len 0 n)) (f n),
        flat_map_most f i n some,
      )
]

module _ (file page : List ℕ) (origin : ℕ) (fields : Fields) where
  pub part_more : (i : ℕ) → pages_of_part file page origin fields (i + 1)
      ≡ pages_of_part file page origin fields i
      ++ pages_of_field file (field_at fields i).kind page (place_of page origin fields i)
  part_more i = flat_map_more (λ j. pages_of_field file (field_at fields j).kind page (place_of page origin fields j)) i

  pub whole_record : pages_of_record file page origin fields ≡ pages_of_part file page origin fields
      (field_count fields)
  unfolding pages_of_record
  whole_record = refl

  -- the first fields have no more pages than all
  pub part_most : (i : ℕ) → i ≤ field_count fields
      → length (pages_of_part file page origin fields i) ≤ length (pages_of_record file page origin fields)
  part_most i within =
      rw whole_record
      (flat_map_most (λ j. pages_of_field file (field_at fields j).kind page (place_of page origin fields j)) i
      (field_count fields) within)

module _ (file : List ℕ) (Ask : PlaceChecks) (leaf : ℕ) (page : List ℕ) (origin : ℕ) (fields : Fields)
    (taken : ℕ → Bool) where
  pub record_breaks : (i : ℕ) (halt : Halt) → i < field_count fields
      → AllBelow (FieldCheckBy file Ask leaf page origin fields taken) i
      → HaltsAt halt (FieldCheckBy file Ask leaf page origin fields taken i)
      → HaltsAt halt (RecordChecksBy file Ask leaf page origin fields taken)
  unfolding RecordChecksBy
  record_breaks i halt = each_breaks (field_count fields) i (FieldCheckBy file Ask leaf page origin fields taken) halt

  pub record_holds : AllBelow (FieldCheckBy file Ask leaf page origin fields taken) (field_count fields)
      → RecordChecksBy file Ask leaf page origin fields taken None
  unfolding RecordChecksBy
  record_holds all = all
