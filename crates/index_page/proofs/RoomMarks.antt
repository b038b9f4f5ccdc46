-- Records whose bytes are marked one after another lie apart.
use Rattle.std.proofs.Common.{◌≡◌, ℕ, ◌<◌, ◌≤◌, ◌↔◌, ◌⊎◌, Bool, List, get_or, All, refl, sym, ◌∙◌, subst, arith, inl}
use Rattle.std.proofs.Common.{inr}
use Rattle.std.specs.Bool.{IsTrue}
use Rattle.std.proofs.lemmas.Bool.{cases_lt, false≢true}
use Rattle.column_values.specs.Types.{Fields}
use Rattle.compact_record.specs.Reading.{IsSpelled, head_length, record_start, record_end}
use Rattle.index_page.specs.Header.{record_count, first_free, records_from, records_of, free_of, free_count, heap_of}
use Rattle.index_page.specs.Header.{first_record, record_at}
use Rattle.index_page.specs.Page.{AreSpelled, HasRoom, AreApart, LieApart}
use Rattle.index_page.specs.Marks.{Seen, none_seen, with_span, IsUnmarked, PassInTurn, seen_after, LiesFree}
use Rattle.index_page.specs.Marks.{with_record}
use Rattle.index_page.proofs.RecordWalk.{places_of_All}
use Rattle.index_page.proofs.MarkBits.{with_span_in, with_span_before, with_span_behind}
use Rattle.index_page.proofs.Turns.{IsMarking, pairs_of_turns, PassInTurn-append}

-- a record has some byte
abbrev HasBytes : List ℕ → Fields → ℕ → Type 0
HasBytes page fields origin = record_start page origin fields < record_end page origin fields

pub has_bytes : (page : List ℕ) (fields : Fields) (origin : ℕ) → IsSpelled page origin fields
    → HasBytes page fields origin
unfolding head_length record_end
has_bytes page fields origin spelled = omega (arith, spelled.room)

abbrev IsFree : List ℕ → Fields → Seen → ℕ → Type 0
IsFree page fields seen origin = IsUnmarked seen (record_start page origin fields) (record_end page origin fields)

-- two spans without a common number
abbrev Apart : ℕ → ℕ → ℕ → ℕ → Type 0
Apart from to from' to' = (to ≤ from') ⊎ (to' ≤ from)

apart_of : (seen : Seen) (from to from' to' : ℕ) → from < to → from' < to'
    → IsUnmarked (with_span seen from to) from' to' → Apart from to from' to'
apart_of seen from to from' to' some some' free =
    elim (cases_lt from' to) [
      | inr behind ↦ inl behind
      | inl before ↦ elim (cases_lt from to') [
        | inr behind ↦ inr behind
        | inl below ↦ elim (cases_lt from from') [
          | inl less ↦ absurd (false≢true (sym (free from' (omega arith) some')
              ∙ with_span_in seen from to from' (omega arith) before))
          | inr more ↦ absurd (false≢true (sym (free from more below)
              ∙ with_span_in seen from to from (omega arith) some))
        ]
      ]
    ]

unmarked_of : (seen : Seen) (from to from' to' : ℕ) → IsUnmarked (with_span seen from to) from' to'
    → IsUnmarked seen from' to'
unmarked_of seen from to from' to' free k least most =
    elim (cases_lt k from) [
      | inl before ↦ sym (with_span_before seen from to k before) ∙ free k least most
      | inr some ↦ elim (cases_lt k to) [
        | inl in' ↦ absurd (false≢true (sym (free k least most) ∙ with_span_in seen from to k some in'))
        | inr behind ↦ sym (with_span_behind seen from to k some behind) ∙ free k least most
      ]
    ]

free_of_apart : (seen : Seen) (from to from' to' : ℕ) → IsUnmarked seen from' to' → Apart from to from' to'
    → IsUnmarked (with_span seen from to) from' to'
free_of_apart seen from to from' to' free apart k least most =
    elim (cases_lt k from) [
      | inl before ↦ with_span_before seen from to k before ∙ free k least most
      | inr some ↦
          let behind : to ≤ k = elim apart [ inl a ↦ omega arith | inr b ↦ absurd (omega arith) ] in
          with_span_behind seen from to k some behind ∙ free k least most
    ]

records_mark : (page : List ℕ) (fields : Fields)
    → IsMarking (LiesFree page fields) (with_record page fields) (HasBytes page fields) (HasRoom page fields)
    (IsFree page fields) (AreApart page fields)
records_mark page fields =
    record {
      splits = λ seen x _. (λ lies. (lies.room, lies.free), λ both. record { room = both.0; free = both.1 });
      grows = λ seen x y some some'. (
        λ free. (unmarked_of seen _ _ _ _ free, apart_of seen _ _ _ _ some some' free),
        λ both. free_of_apart seen _ _ _ _ both.0 both.1,
      );
    }

-- the records lie free in turn exactly where they lie apart
pub apart_of_turns : (page : List ℕ) (fields : Fields) (records : List ℕ) → AreSpelled page fields records
    → PassInTurn (LiesFree page fields) (with_record page fields) none_seen records ↔ LieApart page fields records
apart_of_turns page fields records spelled =
    let good : All (HasBytes page fields) records = λ k d below.
    has_bytes page fields (get_or records k d) (spelled k d below) in
    let turns = pairs_of_turns (LiesFree page fields) (with_record page fields) (HasBytes page fields)
    (HasRoom page fields) (IsFree page fields) (AreApart page fields)
    (records_mark page fields) records none_seen good in (
      λ all. let apart = turns.0 all in record { within = apart.facts; apart = apart.together },
      λ lie. turns.1 (record { facts = lie.within; together = lie.apart; clear = λ k d below. λ b least most. refl }),
    )

-- the record at a place of a walk is spelled
pub spelled_at : (page : List ℕ) (fields : Fields) (first n i origin : ℕ)
    → AreSpelled page fields (records_from page first n) → origin ≡ record_at page first i → i < n
    → IsSpelled page origin fields
spelled_at page fields first n i origin spelled place below =
    let P : ℕ → Type 0 = λ o. IsSpelled page o fields in
    subst P (sym place) (places_of_All page P first n spelled i below)

-- the two calls that the code makes
pub room_exact : (page : List ℕ) (fields : Fields) (seen marked : Seen) (first n free m : ℕ) (r : Bool)
    → AreSpelled page fields (heap_of page)
    → first ≡ first_record page → n ≡ record_count page → free ≡ first_free page → m ≡ free_count page
    → seen ≡ none_seen
    → marked ≡ seen_after (with_record page fields) seen (records_from page first n)
    → PassInTurn (LiesFree page fields) (with_record page fields) seen (records_from page first n)
    → IsTrue r ↔ PassInTurn (LiesFree page fields) (with_record page fields) marked (records_from page free m)
    → IsTrue r ↔ LieApart page fields (heap_of page)
room_exact page fields seen marked first n free m r spelled starts counted frees many clear marks chain rest =
    let exact = apart_of_turns page fields (heap_of page) spelled in
    let both = PassInTurn-append (LiesFree page fields) (with_record page fields) none_seen (records_of page)
    (free_of page) in
    let chain' = rw (starts, counted, clear) at chain in
    let rest' = rw (marks, starts, counted, clear, frees, many) at rest in
    (λ t. exact.0 (both.1 (chain', rest'.0 t)), λ lie. rest'.1 (both.0 (exact.1 lie)).1)

pub room_broken : (page : List ℕ) (fields : Fields) (seen : Seen) (first n : ℕ) (r : Bool)
    → AreSpelled page fields (heap_of page)
    → first ≡ first_record page → n ≡ record_count page → seen ≡ none_seen
    → IsTrue r ↔ PassInTurn (LiesFree page fields) (with_record page fields) seen (records_from page first n)
    → LieApart page fields (heap_of page) → IsTrue r
room_broken page fields seen first n r spelled starts counted clear turns lie =
    let exact = apart_of_turns page fields (heap_of page) spelled in
    let both = PassInTurn-append (LiesFree page fields) (with_record page fields) none_seen (records_of page)
    (free_of page) in
    let here = rw (starts, counted, clear) at turns in
    here.1 (both.0 (exact.1 lie)).0
