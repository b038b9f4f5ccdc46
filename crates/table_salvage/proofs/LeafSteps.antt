-- The records of a leaf one after another.
use Rattle.std.proofs.Common.{◌≡◌, ℕ, ◌+◌, ◌-◌, ◌<◌, ◌≤◌, true, false, List, [], ◌∷◌, ◌++◌, All, refl, sym, ap}
use Rattle.std.proofs.Common.{◌∙◌, subst, arith}
use Rattle.page_source.specs.Pages.{page_of}
use Rattle.column_values.specs.Types.{Fields}
use Rattle.compact_record.specs.Header.{next_origin}
use Rattle.compact_record.specs.Reading.{IsHeapOrigin, IsSpelled, record_end}
use Rattle.index_page.specs.Header.{record_count, record_at, first_record, first_free, free_count, records_from}
use Rattle.index_page.specs.Header.{records_of, free_of}
use Rattle.index_page.specs.Page.{IsOrigin, HasRoom, HasHeader, AreSpelled}
use Rattle.index_page.proofs.RecordWalk.{places_of_All, record_at_none, record_at_more, All-front, All-back}
use Rattle.leaf_salvage.specs.Laws.{HasReadable}
use Rattle.leaf_salvage.specs.Standing.{reach_of}
use Rattle.salvage_model.specs.declared.kind.RecordKind.{RecordKind}
use Rattle.salvage_model.specs.declared.kind.RecordKind.TheVariants.{Live, Deleted, Freed}
use Rattle.salvage_model.specs.Records.{list_start, first_place, list_length, origin_of, is_of, is_place_of}
use Rattle.salvage_model.specs.Outcome.{Leaf}
use Rattle.table_salvage.specs.Ready.{IsRecordOf}
use Rattle.table_salvage.specs.Work.{Work, Start, Progress, job_with, RowsDone, PagesDone}
use Rattle.table_salvage.proofs.MetPages.{met_on}
use Rattle.table_salvage.proofs.Places.{none_before, places_past}
use Rattle.table_salvage.proofs.Firsts.{pages_more, all_rows}

-- a record of a leaf can be read
pub record CanRead (page : List ℕ) (fields : Fields) (origin : ℕ) : Type 0 where
  pub heap : IsHeapOrigin origin
  pub spelled : IsSpelled page origin fields
  pub ends : record_end page origin fields ≤ 16384

can_read : (page : List ℕ) (fields : Fields) (first n : ℕ) → HasHeader page
    → All (IsOrigin page) (records_from page first n) → AreSpelled page fields (records_from page first n)
    → All (HasRoom page fields) (records_from page first n) → (k : ℕ) → k < n
    → CanRead page fields (record_at page first k)
can_read page fields first n header origins spelled room k below =
    let o = places_of_All page (IsOrigin page) first n origins k below in
    let m = places_of_All page (HasRoom page fields) first n room k below in
    record {
      heap = (o.0, omega (arith, o.1, header.top_most));
      spelled = places_of_All page (λ k. IsSpelled page k fields) first n spelled k below;
      ends = omega (arith, m.most, header.top_most);
    }

module _ (page : List ℕ) (fields : Fields) (r : HasReadable page fields) where
  chain_read : (k : ℕ) → k < record_count page → CanRead page fields (record_at page (first_record page) k)
  chain_read =
      can_read page fields (first_record page) (record_count page) r.header r.is_chain.origins
      (All-front (λ k. IsSpelled page k fields) (records_of page) (free_of page) r.spelled)
      (All-front (HasRoom page fields) (records_of page) (free_of page) r.room)

  -- so can each record of the list of a kind
  pub list_read : (kind : RecordKind) (k : ℕ) → k < list_length kind page
      → CanRead page fields (record_at page (list_start kind page) k)
  list_read Live k below = chain_read k below
  list_read Deleted k below = chain_read k below
  list_read Freed k below =
      can_read page fields (first_free page) (free_count page) r.header r.is_free.origins
      (All-back (λ k. IsSpelled page k fields) (records_of page) (free_of page) r.spelled)
      (All-back (HasRoom page fields) (records_of page) (free_of page) r.room) k below

  -- and its places are few
  pub places_few : (kind : RecordKind) → first_place kind page + list_length kind page ≤ 65535
  places_few Live = omega (arith, r.header.heap, r.header.top_most)
  places_few Deleted = omega (arith, r.header.heap, r.header.top_most)
  places_few Freed = omega (arith, r.header.heap, r.header.top_most)

module _ (kind : RecordKind) (page : List ℕ) where
  -- the record that is met next
  origin_at : (k : ℕ) → origin_of kind page (first_place kind page + k) ≡ record_at page (list_start kind page) k
  origin_at k =
      let e : (first_place kind page + k) - first_place kind page ≡ k = omega arith in
      ap (λ (j : ℕ). record_at page (list_start kind page) j) e

  pub is_record : (k origin place : ℕ) → origin ≡ record_at page (list_start kind page) k
      → k < list_length kind page → place ≡ first_place kind page + k → true ≡ is_of kind page origin
      → IsRecordOf kind page place origin
  is_record k origin place at below place_is of = record {
    least = omega (arith, place_is);
    most = omega (arith, place_is, below);
    at = at ∙ sym (origin_at k) ∙ ap (λ (j : ℕ). origin_of kind page j) (sym place_is);
    of = sym of;
  }

  pub is_none : (k origin place : ℕ) → origin ≡ record_at page (list_start kind page) k
      → place ≡ first_place kind page + k → false ≡ is_of kind page origin → is_place_of kind page place ≡ false
  is_none k origin place at place_is of =
      ap (λ (o : ℕ). is_of kind page o) (ap (λ (j : ℕ). origin_of kind page j) place_is ∙ origin_at k ∙ sym at) ∙ sym of

  pub first_origin : (origin : ℕ) → origin ≡ list_start kind page → origin ≡ record_at page (list_start kind page) 0
  first_origin origin is = is ∙ sym (record_at_none page (list_start kind page))

  pub next_at : (found : List ℕ) (origin next k : ℕ) → found ≡ page → origin ≡ record_at page (list_start kind page) k
      → next ≡ next_origin found origin → next ≡ record_at page (list_start kind page) (k + 1)
  next_at found origin next k same at is =
      is ∙ ap (λ (p : List ℕ). next_origin p origin) same ∙ ap (λ (o : ℕ). next_origin page o) at
      ∙ sym (record_at_more page (list_start kind page) k)

-- before the first record of the list
pub leaf_starts : {work : Work} {start : Start} {n : ℕ} {now : Progress} (page : List ℕ) (place : ℕ)
    → page ≡ page_of work.file n → place ≡ first_place work.kind page → RowsDone n 0 work start now
    → RowsDone n place work start now
leaf_starts {work = work} {n = n} page place page_is place_is met =
    let least : place ≤ first_place work.kind (page_of work.file n) =
    subst (λ (p : List ℕ). place ≤ first_place work.kind p) page_is (omega (arith, place_is)) in
    met_on (omega arith) refl (λ pages parts so. record {
      knows = so.knows;
      is_leaf = so.is_leaf;
      outcomes = so.outcomes;
      pages = so.pages;
      rows = so.rows;
      are = so.are;
      places =
          so.places ∙ none_before work.kind (page_of work.file n) 0 (omega arith)
          ∙ sym (none_before work.kind (page_of work.file n) place least);
      kept = so.kept;
    }) met

-- a record that isn't of the kind
pub skipped : {work : Work} {start : Start} {n : ℕ} {now : Progress} (page : List ℕ) (place : ℕ)
    → page ≡ page_of work.file n → first_place work.kind page ≤ place → is_place_of work.kind page place ≡ false
    → RowsDone n place work start now → RowsDone n (place + 1) work start now
skipped {work = work} {n = n} page place page_is least isnt met =
    let none : is_place_of work.kind (page_of work.file n) place ≡ false =
    subst (λ (p : List ℕ). is_place_of work.kind p place ≡ false) page_is isnt in
    let least_at : first_place work.kind (page_of work.file n) ≤ place =
    subst (λ (p : List ℕ). first_place work.kind p ≤ place) page_is least in
    met_on (omega arith) refl (λ pages parts so. record {
      knows = so.knows;
      is_leaf = so.is_leaf;
      outcomes = so.outcomes;
      pages = so.pages;
      rows = so.rows;
      are = so.are;
      places = so.places ∙ sym (places_past work.kind (page_of work.file n) place least_at none);
      kept = so.kept;
    }) met

-- all records of a leaf
pub leaf_ends : {work : Work} {start : Start} {n : ℕ} {now : Progress} (page : List ℕ) (place : ℕ)
    → page ≡ page_of work.file n → n < reach_of work.file
    → place ≡ first_place work.kind page + list_length work.kind page → RowsDone n place work start now
    → PagesDone (n + 1) work start now
leaf_ends {work = work} {n = n} page place page_is below last met =
    let last_at : place ≡ first_place work.kind (page_of work.file n) + list_length work.kind (page_of work.file n) =
    subst (λ (p : List ℕ). place ≡ first_place work.kind p + list_length work.kind p) page_is last in
    met_on (omega arith) refl (λ pages parts so. record {
      knows = so.knows;
      outcomes = so.outcomes ++ Leaf so.rows ∷ [];
      pages =
          pages_more (Leaf so.rows) so.pages below (so.is_leaf, so.are)
          (all_rows (job_with work pages parts) n so.rows place so.places last_at);
      kept = so.kept;
    }) met
