-- Outcomes one after another.
use Rattle.std.proofs.Common.{◌≡◌, ℕ, ◌+◌, ◌<◌, ◌≤◌, Bool, true, List, [], ◌∷◌, ◌++◌, length, map, get_or, refl}
use Rattle.std.proofs.Common.{sym, subst, arith, inl, inr, length-append}
use Rattle.std.proofs.Math.Seq.{get_or-append_seam}
use Rattle.std.proofs.lemmas.Bool.{cases_lt}
use Rattle.std.proofs.lemmas.List.{get_or_append_left}
use Rattle.page_source.specs.Pages.{page_of}
use Rattle.space_audit.specs.Marks.{is_in, is_set, seen}
use Rattle.leaf_salvage.specs.Standing.{reach_of}
use Rattle.salvage_model.specs.Records.{first_place, list_length, is_place_of}
use Rattle.salvage_model.specs.Outcome.{Job, SavedRow, Outcome, Unused, Leaf, ComesOf, IsFull, AreSavedRows}
use Rattle.salvage_model.specs.Outcome.{IsSavedRow}
use Rattle.salvage_model.specs.Outcome.{looked_of_rows, looked_of_pages}
use Rattle.salvage_model.specs.Saved.{AreFirst}
use Rattle.row_salvage.proofs.Followed.{follow_none, follow_more}
use Rattle.table_salvage.specs.Work.{ArePages, places_before}
use Rattle.table_salvage.proofs.Places.{places_more, places_front, places_all}

full_more : (job : Job) (xs : List Outcome) (x : Outcome) → ((k : ℕ) → k < length xs
    → IsFull job k (get_or xs k Unused))
    → IsFull job (length xs) x → (k : ℕ) → k < length xs + 1 → IsFull job k (get_or (xs ++ x ∷ []) k Unused)
full_more job xs x before here k below =
    elim (cases_lt k (length xs)) [
      | inl less ↦
          let g : get_or (xs ++ x ∷ []) k Unused ≡ get_or xs k Unused = get_or_append_left xs (x ∷ []) Unused k less in
          rw g (before k less)
      | inr more ↦
          let e : k ≡ length xs = omega arith in
          let g : get_or (xs ++ x ∷ []) (length xs) Unused ≡ x = get_or-append_seam xs x [] Unused in
          rw e (rw g here)
    ]

-- the last page may have further rows
pub first_more : {job : Job} {n : ℕ} {xs : List Outcome} (x : Outcome) → ArePages job n xs → n < reach_of job.file
    → ComesOf job n (is_in (looked_of_pages xs)) x → AreFirst job (xs ++ x ∷ [])
first_more {job = job} {n = n} {xs = xs} x pages below comes = record {
  few = omega (arith, length-append xs (x ∷ []), pages.all);
  each =
      let come : ComesOf job (length xs) (is_in (looked_of_pages xs)) x =
      subst (λ k. ComesOf job k (is_in (looked_of_pages xs)) x) (sym pages.all) comes in
      follow_more (λ before k outcome. ComesOf job k (is_in
      (looked_of_pages before)) outcome) xs x pages.first.each come;
  full = λ k lower.
      let less : k < length xs = omega (arith, length-append xs (x ∷ [])) in
      let g : get_or (xs ++ x ∷ []) k Unused ≡ get_or xs k Unused = get_or_append_left xs (x ∷ []) Unused k less in
      rw g (pages.full k (omega (arith, pages.all)));
}

-- it has none
pub pages_more : {job : Job} {n : ℕ} {xs : List Outcome} (x : Outcome) → ArePages job n xs → n < reach_of job.file
    → ComesOf job n (is_in (looked_of_pages xs)) x → IsFull job n x → ArePages job (n + 1) (xs ++ x ∷ [])
pages_more {job = job} {n = n} {xs = xs} x pages below comes full = record {
  all = omega (arith, length-append xs (x ∷ []), pages.all);
  first = first_more x pages below comes;
  full =
      let e = pages.all in
      let before : (k : ℕ) → k < length xs → IsFull job k (get_or xs k Unused) =
      λ k less. pages.full k (omega (arith, e)) in
      let here : IsFull job (length xs) x = subst (λ k. IsFull job k x) (sym e) full in
      λ k lower. full_more job xs x before here k (omega (arith, e));
}

-- before the first page
pub no_pages : (job : Job) → ArePages job 0 []
no_pages job = record {
  all = refl;
  first = record {
    few = omega arith;
    each = follow_none (λ before k outcome. ComesOf job k (is_in (looked_of_pages before)) outcome);
    full = λ k below. absurd (omega arith);
  };
  full = λ k below. absurd (omega arith);
}

-- functions that agree everywhere are one
same_function : {A B : Type 0} (f g : A → B) → ((a : A) → f a ≡ g a) → f ≡ g
same_function f g agree = λ i. λ a. agree a i

-- a record of the kind is saved after those before it
pub row_more : {job : Job} {n : ℕ} {taken : ℕ → Bool} {rows : List SavedRow} (marks : List Bool) (place : ℕ)
    (row : SavedRow) → AreSavedRows job n taken rows
    → map (λ (r : SavedRow). r.place) rows ≡ places_before job.kind (page_of job.file n) place
    → is_place_of job.kind (page_of job.file n) place ≡ true → first_place job.kind (page_of job.file n) ≤ place
    → place < first_place job.kind (page_of job.file n) + list_length job.kind (page_of job.file n)
    → row.place ≡ place → ((k : ℕ) → is_set marks k ≡ seen taken (looked_of_rows rows) k)
    → IsSavedRow job n (is_set marks) row → AreSavedRows job n taken (rows ++ row ∷ [])
row_more {job = job} {n = n} {taken = taken}
    {rows = rows} marks place row are places of least most same marked is = record {
      places =
          let page = page_of job.file n in
          places_front job.kind page (rows ++ row ∷ []) (place + 1)
          (places_more job.kind page rows place row places least of same) (omega (arith, most));
      each =
          follow_more (λ before k r. IsSavedRow job n (seen taken (looked_of_rows before)) r) rows row are.each
          (subst (λ (t : ℕ → Bool). IsSavedRow job n t row) (same_function (is_set marks)
          (seen taken (looked_of_rows rows)) marked) is);
    }

-- no record of a leaf was saved yet
pub no_rows : (job : Job) (n : ℕ) (taken : ℕ → Bool) → AreSavedRows job n taken []
no_rows job n taken =
    record { places = refl; each = follow_none (λ before k r. IsSavedRow job n (seen taken (looked_of_rows before)) r) }

-- all were
pub all_rows : (job : Job) (n : ℕ) (rows : List SavedRow) (place : ℕ)
    → map (λ (r : SavedRow). r.place) rows ≡ places_before job.kind (page_of job.file n) place
    → place ≡ first_place job.kind (page_of job.file n) + list_length job.kind (page_of job.file n)
    → IsFull job n (Leaf rows)
all_rows job n rows place places last = places_all job.kind (page_of job.file n) rows place places last
