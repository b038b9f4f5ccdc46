-- The pages that were met, and those of them that were missed.
use Rattle.std.proofs.Common.{◌≡◌, ℕ, ◌+◌, ◌<◌, ◌≤◌, Bool, true, false, cond, eqb, List, [], ◌∷◌, ◌++◌, refl}
use Rattle.std.proofs.Common.{sym, ap, ◌∙◌, subst, arith, inl, inr, length-append}
use Rattle.std.specs.Prelude.{All}
use Rattle.std.proofs.lemmas.List.Elements.{All-head, All-tail}
use Rattle.tree_walk.proofs.Levels.{is_in-append}
use Rattle.std.proofs.lemmas.Bool.{false≢true, cases_Bool}
use Rattle.std.proofs.lemmas.Bool.Decides.{nat_tests}
use Rattle.page_source.specs.Faults.{Rose}
use Rattle.space_audit.specs.Marks.{is_in, is_set}
use Rattle.salvage_model.specs.Outcome.{Job}
use Rattle.row_salvage.specs.Missed.{IsNewly, UnderMissed}
use Rattle.table_salvage.specs.Work.{Work, Start, Progress, job_with, job_missing, Met}

-- a mark in one of two lists that are one
marked_in : {before after : List Bool} (k : ℕ) → after ≡ before → is_set before k ≡ true → is_set after k ≡ true
marked_in k same set = ap (λ (m : List Bool). is_set m k) same ∙ set

-- a fact becomes another one
pub met_on : {work : Work} {start : Start} {n : ℕ} {now next : Progress} {A B : Job → Type 0} → now.faults ≤ next.faults
    → next.marks ≡ now.marks
    → ((pages parts : ℕ → Bool) → A (job_with work pages parts) → B (job_with work pages parts))
    → Met work start n now A → Met work start n next B
met_on least same on met = record {
  later = omega (arith, least, met.later);
  missed = met.missed;
  cause = omega (arith, least, met.cause);
  pages = met.pages;
  parts = λ k there. marked_in k same (met.parts k there);
  holds = λ pages parts may. on pages parts (met.holds pages parts
      (record { pages = may.pages; parts = λ k set. may.parts k (marked_in k same set) }));
}

not_below : (b : Bool) (n : ℕ) → (b ≡ true → n < n) → b ≡ false
not_below true n below = absurd (let h = below refl in omega arith)
not_below false n below = refl

-- page n was met, and wasn't missed
pub met_page : {work : Work} {start : Start} {n : ℕ} {now next : Progress} {A B : Job → Type 0}
    → now.faults ≤ next.faults
    → next.marks ≡ now.marks
    → ((pages parts : ℕ → Bool) → pages n ≡ false → A (job_with work pages parts) → B (job_with work pages parts))
    → Met work start n now A → Met work start (n + 1) next B
met_page {n = n} least same on met = record {
  later = omega (arith, least, met.later);
  missed = met.missed;
  cause = omega (arith, least, met.cause);
  pages = λ k there. let h = met.pages k there in omega arith;
  parts = λ k there. marked_in k same (met.parts k there);
  holds = λ pages parts may.
      on pages parts (may.pages n (omega arith) ∙ not_below (is_in met.missed.pages n) n (met.pages n))
      (met.holds pages parts (record {
        pages = λ k below. may.pages k (omega arith);
        parts = λ k set. may.parts k (marked_in k same set);
      }));
}

in_push : (xs : List ℕ) (n k : ℕ) → is_in (xs ++ n ∷ []) k ≡ cond (is_in xs k) true (cond (eqb n k) true false)
in_push xs n k = is_in-append xs (n ∷ []) k

push_other : (xs : List ℕ) (n k : ℕ) → k < n → is_in (xs ++ n ∷ []) k ≡ is_in xs k
push_other xs n k below =
    let e : eqb n k ≡ false = grind (arith, nat_tests) in
    in_push xs n k ∙ ap (λ (b : Bool). cond (is_in xs k) true (cond b true false)) e ∙ same (is_in xs k)
  where
    same : (b : Bool) → cond b true false ≡ b
    same true = refl
    same false = refl

push_same : (xs : List ℕ) (n : ℕ) → is_in (xs ++ n ∷ []) n ≡ true
push_same xs n =
    let e : eqb n n ≡ true = grind (arith, nat_tests) in
    in_push xs n n ∙ ap (λ (b : Bool). cond (is_in xs n) true (cond b true false)) e ∙ same (is_in xs n)
  where
    same : (b : Bool) → cond b true true ≡ true
    same true = refl
    same false = refl

push_cases : (xs : List ℕ) (n k : ℕ) → is_in (xs ++ n ∷ []) k ≡ true → (is_in xs k ≡ true → k < n) → k < n + 1
push_cases xs n k there rest =
    elim (cases_Bool (is_in xs k)) [
      | inl old ↦ let h = rest old in omega arith
      | inr new ↦ elim (cases_Bool (eqb n k)) [
        | inl same ↦ let e : n ≡ k = grind (arith, nat_tests) in omega arith
        | inr other ↦
            absurd (false≢true (ap (λ (b : Bool). cond false true (cond b true false)) (sym other)
            ∙ ap (λ (b : Bool). cond b true (cond (eqb n k) true false)) (sym new) ∙ sym (in_push xs n k) ∙ there))
      ]
    ]

-- page n was missed
pub met_missed : {work : Work} {start : Start} {n : ℕ} {now next : Progress} {A B : Job → Type 0}
    → now.faults ≤ next.faults → next.marks ≡ now.marks → Rose now.faults next.faults
    → ((pages parts : ℕ → Bool) → pages n ≡ true → A (job_with work pages parts) → B (job_with work pages parts))
    → Met work start n now A → Met work start (n + 1) next B
met_missed {n = n} least same rose on met = record {
  later = omega (arith, least, met.later);
  missed = record { pages = met.missed.pages ++ n ∷ []; parts = met.missed.parts };
  cause = omega (arith, rose, met.cause, length-append met.missed.pages (n ∷ []));
  pages = λ k there. push_cases met.missed.pages n k there (met.pages k);
  parts = λ k there. marked_in k same (met.parts k there);
  holds = λ pages parts may. on pages parts (may.pages n (omega arith) ∙ push_same met.missed.pages n)
      (met.holds pages parts (record {
        pages = λ k below. may.pages k (omega arith) ∙ push_other met.missed.pages n k below;
        parts = λ k set. may.parts k (marked_in k same set);
      }));
}

-- a member of a list, of all of whose members something holds
of_member : (P : ℕ → Type 0) (xs : List ℕ) (k : ℕ) → All P xs → is_in xs k ≡ true → P k
of_member P [] k all there = absurd (false≢true there)
of_member P (x ∷ xs) k all there =
    elim (cases_Bool (eqb x k)) [
      | inl same ↦ let e : x ≡ k = grind (arith, nat_tests) in subst P e (All-head P x xs all)
      | inr other ↦
          of_member P xs k (All-tail P x xs all)
          (sym (ap (λ (b : Bool). cond b true (is_in xs k)) other) ∙ there)
    ]

join_front : (xs ys : List ℕ) (k : ℕ) → is_in ys k ≡ false → is_in (xs ++ ys) k ≡ is_in xs k
join_front xs ys k none =
    is_in-append xs ys k ∙ ap (λ (b : Bool). cond (is_in xs k) true b) none ∙ same (is_in xs k)
  where
    same : (b : Bool) → cond b true false ≡ b
    same true = refl
    same false = refl

join_back : (xs ys : List ℕ) (k : ℕ) → is_in xs k ≡ false → is_in (xs ++ ys) k ≡ is_in ys k
join_back xs ys k none = is_in-append xs ys k ∙ ap (λ (b : Bool). cond b true (is_in ys k)) none

isnt : (b : Bool) → (b ≡ true → ⊥) → b ≡ false
isnt true never = absurd (never refl)
isnt false never = refl

-- pages were looked at for values: what was missed then is what was missed before, and these
pub met_parts : {work : Work} {start : Start} {n : ℕ} {now next : Progress} {A B : Job → Type 0}
    (Fact : (ℕ → Bool) → Type 0) → now.faults ≤ next.faults
    → ((missed : ℕ → Bool) → Fact missed → (k : ℕ) → is_set now.marks k ≡ true → is_set next.marks k ≡ true)
    → ((pages parts : ℕ → Bool) → A (job_with work pages parts) → Fact parts → B (job_with work pages parts))
    → UnderMissed now.marks next.marks now.faults next.faults Fact → Met work start n now A → Met work start n next B
met_parts {now = now} {next = next} Fact least grow on under met =
    let list = under.list in
    let keep : (k : ℕ) → is_set now.marks k ≡ true → is_set next.marks k ≡ true =
    grow (is_in list) (under.holds (is_in list) (λ k newly. refl)) in
    let news : (k : ℕ) → is_in list k ≡ true → IsNewly now.marks next.marks k =
    λ k there. of_member (IsNewly now.marks next.marks) list k under.newly there in
    let olds : (k : ℕ) → is_set now.marks k ≡ true → is_in list k ≡ false =
    λ k set. isnt (is_in list k) (λ there. false≢true (sym (news k there).unmarked ∙ set)) in
    let firsts : (k : ℕ) → is_set now.marks k ≡ false → is_in met.missed.parts k ≡ false =
    λ k unset. isnt (is_in met.missed.parts k) (λ there. false≢true (sym unset ∙ met.parts k there)) in
    record {
      later = omega (arith, least, met.later);
      missed = record { pages = met.missed.pages; parts = met.missed.parts ++ list };
      cause = omega (arith, under.cause, met.cause, length-append met.missed.parts list);
      pages = met.pages;
      parts = λ k there. elim (cases_Bool (is_in list k)) [
        | inl new ↦ (news k new).marked
        | inr old ↦ keep k (met.parts k (sym (join_front met.missed.parts list k old) ∙ there))
      ];
      holds = λ pages parts may. on pages parts
          (met.holds pages parts (record {
            pages = may.pages;
            parts = λ k set. may.parts k (keep k set) ∙ join_front met.missed.parts list k (olds k set);
          }))
          (under.holds parts (λ k newly.
          may.parts k newly.marked ∙ join_back met.missed.parts list k (firsts k newly.unmarked)));
    }

-- the job that misses just these pages
pub met_now : {work : Work} {start : Start} {n : ℕ} {now : Progress} {A : Job → Type 0}
    → (met : Met work start n now A) → A (job_missing work met.missed)
met_now met =
    met.holds (is_in met.missed.pages) (is_in met.missed.parts)
    (record { pages = λ k below. refl; parts = λ k set. refl })
