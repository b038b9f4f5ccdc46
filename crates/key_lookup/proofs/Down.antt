-- One step down the way: the chosen node pointer, and the separators of the page below it.
use Rattle.std.proofs.Common.{◌≡◌, ℕ, ◌+◌, ◌<◌, ◌≤◌, Bool, IsTrue}
use Rattle.std.proofs.Common.{List, get_or, Option, Some, inl, inr, refl, sym, ap, ◌∙◌}
use Rattle.std.proofs.Common.{subst, arith}
use Rattle.std.proofs.lemmas.Bool.{cases_lt, lt-ltb, le-ltb}
use Rattle.column_values.specs.Types.{Fields}
use Rattle.column_values.specs.Order.{Key}
use Rattle.compact_record.specs.Header.{next_origin}
use Rattle.compact_record.specs.Reading.{IsSpelled, Reading, IsReading, record_end, key_of}
use Rattle.index_page.specs.Header.{records_of, record_count}
use Rattle.tree_walk.specs.Records.{IsRecord, IsHeld, PageFacts}
use Rattle.tree_walk.proofs.Records.{more_record, next_after, record_at}
use Rattle.key_lookup.specs.Way.{high_behind}

-- a record that was read is held
pub held_by : (page : List ℕ) (fields : Fields) (origin : ℕ) (reading : Reading) (read : Bool)
    → IsRecord page fields origin → (IsSpelled page origin fields → IsTrue read)
    → (IsTrue read → IsReading page origin fields reading) → IsHeld page fields origin reading
held_by page fields origin reading read is reads gives =
    let r = gives (reads is.spelled) in
    record {
      is_record = is;
      whole = record {
        read = subst (λ (o : ℕ). IsReading page o fields reading) (sym r.stands) r;
        ends = subst (λ (o : ℕ). record_end page o fields ≤ 16384) (sym r.stands) is.ends;
      };
      stands = r.stands;
    }

module _ (page : List ℕ) (fields : Fields) (facts : PageFacts page fields) (k origin behind : ℕ)
    (within : k < record_count page) (at : origin ≡ get_or (records_of page) k 0)
    (next : behind ≡ next_origin page origin) where
  next_at : behind ≡ next_origin page (get_or (records_of page) k 0)
  next_at = next ∙ ap (next_origin page) at

  -- no record stands behind the last one
  none_behind : behind < 125 → record_count page ≤ k + 1
  none_behind low = elim (cases_lt (k + 1) (record_count page)) [
    | inl less ↦
        let more = more_record page k less in
        let is = record_at page fields (k + 1) facts less in
        absurd (omega (arith, is.least, more, next_at, low))
    | inr more ↦ more
  ]

  pub one_behind : 125 ≤ behind → k + 1 < record_count page
  one_behind high = next_after page fields k behind facts within next_at high

  behind_is : 125 ≤ behind → behind ≡ get_or (records_of page) (k + 1) 0
  behind_is high = next_at ∙ sym (more_record page k (one_behind high))

  pub is_behind : 125 ≤ behind → IsRecord page fields behind
  is_behind high =
      subst (λ (o : ℕ). IsRecord page fields o) (sym (behind_is high))
      (record_at page fields (k + 1) facts (one_behind high))

  -- the high separator
  pub high_inherits : (high : Option Key) → behind < 125 → high ≡ high_behind page fields k high
  high_inherits high low = rw (le-ltb (k + 1) (record_count page) (none_behind low)) refl

  pub high_is_next : (high : Option Key) → 125 ≤ behind
      → Some (key_of page behind fields) ≡ high_behind page fields k high
  high_is_next high least =
      rw (lt-ltb (k + 1) (record_count page) (one_behind least), behind_is least) refl
