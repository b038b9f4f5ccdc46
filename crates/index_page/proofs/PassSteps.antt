-- One pass over the chain, record by record.
use Rattle.std.proofs.Common.{◌≡◌, ℕ, ◌+◌, ◌-◌, ◌<◌, ◌≤◌, Bool, List, All, sym, ap, ◌∙◌, arith}
use Rattle.column_values.specs.Types.{Fields}
use Rattle.compact_record.specs.Header.{next_origin}
use Rattle.compact_record.specs.Reading.{Reading, IsSpelled}
use Rattle.compact_record.specs.Keys.{IsWholeReading}
use Rattle.index_page.specs.Header.{record_at, records_of, record_count, first_record}
use Rattle.index_page.specs.Page.{HasKind, IsRise, AreSpelled, KeysRise}
use Rattle.index_page.specs.Marks.{Seen, none_seen, PassInTurn, seen_after, LiesFree, with_record}
use Rattle.index_page.proofs.RecordWalk.{record_at_none, places_more, All_of_walk}
use Rattle.index_page.proofs.ChainWalk.{place_next}
use Rattle.index_page.proofs.KeyOrder.{RisesAt, rise_of, rises_behind}
use Rattle.index_page.proofs.Turns.{TurnGoes, turn_start, turn_next, turn_end}

-- where the pass has come: i of n records passed, the last of them is read, and the next stands at this origin
pub record PassGoes (page : List ℕ) (fields : Fields) (leaf lowest_first : Bool) (seen : Seen) (last : Reading)
    (origin n i : ℕ) : Type 0 where
  pub place : origin ≡ record_at page (first_record page) i
  pub kinds : (k : ℕ) → k < i → HasKind page leaf (record_at page (first_record page) k)
  pub spelled : (k : ℕ) → k < i → IsSpelled page (record_at page (first_record page) k) fields
  pub goes : TurnGoes page (LiesFree page fields) (with_record page fields) seen origin n i none_seen
      (first_record page)
  pub read : 0 < i → IsWholeReading page fields last
  pub stands : 0 < i → last.origin ≡ record_at page (first_record page) (i - 1)
  pub rise : (k : ℕ) → k + 1 < i → RisesAt page fields lowest_first k

pub pass_start : (page : List ℕ) (fields : Fields) (leaf lowest_first : Bool) (seen : Seen) (last : Reading)
    (origin n i : ℕ) → i ≡ 0 → seen ≡ none_seen → origin ≡ first_record page
    → PassGoes page fields leaf lowest_first seen last origin n i
pass_start page fields leaf lowest_first seen last origin n i none clear first = rw none (record {
  place = first ∙ sym (record_at_none page (first_record page));
  kinds = λ k below. absurd (omega arith);
  spelled = λ k below. absurd (omega arith);
  goes = rw (clear, first) (turn_start page _ _ _ _ _);
  read = λ some. absurd (omega (arith, some));
  stands = λ some. absurd (omega (arith, some));
  rise = λ k below. absurd (omega (arith, below));
})

-- the record there passes, too
pub record Passes (page : List ℕ) (fields : Fields) (leaf lowest_first : Bool) (seen seen' : Seen) (last here : Reading)
    (origin i : ℕ) : Type 0 where
  pub kind : HasKind page leaf origin
  pub spelled : IsSpelled page origin fields
  pub read : IsWholeReading page fields here
  pub stands : here.origin ≡ origin
  pub free : LiesFree page fields seen origin
  pub marks : seen' ≡ with_record page fields seen origin
  pub rise : 0 < i → IsRise page fields lowest_first (i - 1) last.origin here.origin

pub pass_next : (page : List ℕ) (fields : Fields) (leaf lowest_first : Bool) (seen seen' : Seen) (last here : Reading)
    (origin next n i j : ℕ) → j ≡ i + 1 → i < n → next ≡ next_origin page origin
    → Passes page fields leaf lowest_first seen seen' last here origin i
    → PassGoes page fields leaf lowest_first seen last origin n i
    → PassGoes page fields leaf lowest_first seen' here next n j
pass_next page fields leaf lowest_first seen seen' last here origin next n i j more below is passes so =
    let first = first_record page in
    let e : i ≡ (i + 1) - 1 = omega arith in
    rw more (record {
      place = place_next page first i origin next so.place is;
      kinds = places_more page (HasKind page leaf) first i origin so.place passes.kind so.kinds;
      spelled = places_more page (λ o. IsSpelled page o fields) first i origin so.place passes.spelled so.spelled;
      goes = turn_next page _ _ seen seen' origin next n i none_seen first below is passes.free passes.marks so.goes;
      read = λ _. passes.read;
      stands = λ _. passes.stands ∙ so.place ∙ ap (λ k. record_at page first k) e;
      rise = rises_behind page fields lowest_first i last.origin here.origin so.stands (passes.stands ∙ so.place)
          passes.rise so.rise;
    })

-- all of them passed
pub record AllPass (page : List ℕ) (fields : Fields) (leaf lowest_first : Bool) (seen : Seen) : Type 0 where
  pub kinds : All (HasKind page leaf) (records_of page)
  pub spelled : AreSpelled page fields (records_of page)
  pub free : PassInTurn (LiesFree page fields) (with_record page fields) none_seen (records_of page)
  pub marks : seen ≡ seen_after (with_record page fields) none_seen (records_of page)
  pub rise : KeysRise page fields lowest_first (records_of page)

pub pass_end : (page : List ℕ) (fields : Fields) (leaf lowest_first : Bool) (seen : Seen) (last : Reading)
    (origin n i : ℕ) → n ≡ record_count page → n ≤ i → PassGoes page fields leaf lowest_first seen last origin n i
    → AllPass page fields leaf lowest_first seen
pass_end page fields leaf lowest_first seen last origin n i counted past so =
    let first = first_record page in
    let end = turn_end page _ _ seen origin n i none_seen first past so.goes in
    record {
      kinds = All_of_walk page (HasKind page leaf) first (record_count page) i (omega (arith, counted, past)) so.kinds;
      spelled = All_of_walk page (λ o. IsSpelled page o fields) first (record_count page) i
          (omega (arith, counted, past)) so.spelled;
      free = rw counted at end.0;
      marks = rw counted at end.1;
      rise = rise_of page fields lowest_first (λ k below. so.rise k (omega (arith, counted, past, below)));
    }
