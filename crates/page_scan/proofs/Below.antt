-- The newest versions of pages among the places below an offset.
use Rattle.std.proofs.Common.{◌≡◌, ℕ, ◌<◌, ◌≤◌, Bool, true, false, nat_lt, cond, List, Option, Some, None}
use Rattle.std.proofs.Common.{refl, ap, subst, arith, ⊎_elim}
use Rattle.std.proofs.lemmas.Bool.{cases_lt, ltb-true, ltb-false}
use Rattle.page_scan.specs.Found.{IsFound, page_at, lsn_of}
use Rattle.page_scan.specs.Newest.{Newest}

-- the newest of the versions at the places below p
pub record IsNewestBelow (image : List ℕ) (p space n o : ℕ) : Type 0 where
  pub below : o < p
  pub found : IsFound image o space n
  pub greatest : (q : ℕ) → q < p → IsFound image q space n → lsn_of (page_at image q) ≤ lsn_of (page_at image o)
  pub first : (q : ℕ) → q < p → IsFound image q space n
      → lsn_of (page_at image q) ≡ lsn_of (page_at image o) → o ≤ q

-- its page, none if no version stands there
abbrev pub NewestBelow : List ℕ → ℕ → ℕ → ℕ → Option (List ℕ) → Type 0
NewestBelow image p space n (Some page) = (o : ℕ) × IsNewestBelow image p space n o × (page ≡ page_at image o)
NewestBelow image p space n None = (q : ℕ) → q < p → ¬ (IsFound image q space n)

pub newest_at_start : (image : List ℕ) (space n : ℕ) → NewestBelow image 0 space n None
newest_at_start image space n q below found = omega (arith, below)

-- the page is found at one place from p up to the next offset, or at none
abbrev pub IsOnly : List ℕ → ℕ → ℕ → ℕ → ℕ → ℕ → Type 0
IsOnly image p next at space n = (q : ℕ) → p ≤ q → q < next → IsFound image q space n → q ≡ at

abbrev pub AreNone : List ℕ → ℕ → ℕ → ℕ → ℕ → Type 0
AreNone image p next space n = (q : ℕ) → p ≤ q → q < next → ¬ (IsFound image q space n)

-- the page that counts of the one that was the newest and the one that is met
abbrev pub newer_page : Option (List ℕ) → List ℕ → List ℕ
newer_page None page = page
newer_page (Some kept) page = cond (nat_lt (lsn_of kept) (lsn_of page)) page kept

first_met : (image : List ℕ) (p next at space n : ℕ) → NewestBelow image p space n None → p ≤ at → at < next
    → IsFound image at space n → IsOnly image p next at space n → IsNewestBelow image next space n at
first_met image p next at space n none from to found only =
    let here : (q : ℕ) → q < next → IsFound image q space n → q ≡ at = λ q below it.
    ⊎_elim (λ before. absurd (none q before it)) (λ after. only q after below it) (cases_lt q p) in
    record {
      below = to;
      found = found;
      greatest = λ q below it. let same = here q below it in
          omega (arith, ap (λ (k : ℕ). lsn_of (page_at image k)) same);
      first = λ q below it equal. omega (arith, here q below it);
    }

newer_met : (image : List ℕ) (p next at o space n : ℕ) → IsNewestBelow image p space n o
    → lsn_of (page_at image o) < lsn_of (page_at image at) → p ≤ at → at < next
    → IsFound image at space n → IsOnly image p next at space n → IsNewestBelow image next space n at
newer_met image p next at o space n kept less from to found only = record {
  below = to;
  found = found;
  greatest = λ q below it.
      ⊎_elim (λ before. omega (arith, kept.greatest q before it, less))
      (λ after. omega (arith, ap (λ (k : ℕ). lsn_of (page_at image k)) (only q after below it))) (cases_lt q p);
  first = λ q below it equal.
      ⊎_elim (λ before. omega (arith, kept.greatest q before it, less, equal))
      (λ after. omega (arith, only q after below it)) (cases_lt q p);
}

older_met : (image : List ℕ) (p next at o space n : ℕ) → IsNewestBelow image p space n o
    → lsn_of (page_at image at) ≤ lsn_of (page_at image o) → p ≤ at → at < next
    → IsOnly image p next at space n → IsNewestBelow image next space n o
older_met image p next at o space n kept more from to only = record {
  below = omega (arith, kept.below);
  found = kept.found;
  greatest = λ q below it.
      ⊎_elim (λ before. kept.greatest q before it)
      (λ after. omega (arith, more, ap (λ (k : ℕ). lsn_of (page_at image k)) (only q after below it))) (cases_lt q p);
  first = λ q below it equal.
      ⊎_elim (λ before. kept.first q before it equal)
      (λ after. omega (arith, only q after below it, kept.below)) (cases_lt q p);
}

-- a version is met
pub newest_met : (image : List ℕ) (p next at space n : ℕ) (kept : Option (List ℕ)) → NewestBelow image p space n kept
    → p ≤ at → at < next → IsFound image at space n → IsOnly image p next at space n
    → NewestBelow image next space n (Some (newer_page kept (page_at image at)))
newest_met image p next at space n None none from to found only =
    (at, first_met image p next at space n none from to found only, refl)
newest_met image p next at space n (Some page) newest from to found only =
    by_lsn (nat_lt (lsn_of page) (lsn_of (page_at image at))) refl
  where
    by_lsn : (less : Bool) → nat_lt (lsn_of page) (lsn_of (page_at image at)) ≡ less
        → NewestBelow image next space n (Some (cond less (page_at image at) page))
    by_lsn true is =
        let less : lsn_of (page_at image newest.0) < lsn_of (page_at image at) =
        subst (λ (old : List ℕ). lsn_of old < lsn_of (page_at image at)) newest.2 (ltb-true _ _ is) in
        (at, newer_met image p next at newest.0 space n newest.1 less from to found only, refl)
    by_lsn false is =
        let more : lsn_of (page_at image at) ≤ lsn_of (page_at image newest.0) =
        subst (λ (old : List ℕ). lsn_of (page_at image at) ≤ lsn_of old) newest.2 (ltb-false _ _ is) in
        (newest.0, older_met image p next at newest.0 space n newest.1 more from to only, newest.2)

-- none is met
pub newest_kept : (image : List ℕ) (p next space n : ℕ) (kept : Option (List ℕ)) → NewestBelow image p space n kept
    → p ≤ next → AreNone image p next space n → NewestBelow image next space n kept
newest_kept image p next space n None none to others = λ q below it.
    ⊎_elim (λ before. none q before it) (λ after. others q after below it) (cases_lt q p)
newest_kept image p next space n (Some page) newest to others = (
  newest.0,
  record {
    below = omega (arith, newest.1.below);
    found = newest.1.found;
    greatest = λ q below it.
        ⊎_elim (λ before. newest.1.greatest q before it) (λ after. absurd (others q after below it)) (cases_lt q p);
    first = λ q below it equal.
        ⊎_elim (λ before. newest.1.first q before it equal) (λ after. absurd (others q after below it)) (cases_lt q p);
  },
  newest.2,
)

-- nothing is found from p on
pub newest_of_all : (image : List ℕ) (p space n : ℕ) (kept : Option (List ℕ)) → NewestBelow image p space n kept
    → ((q : ℕ) → p ≤ q → ¬ (IsFound image q space n)) → Newest image space n kept
newest_of_all image p space n None none others = λ q it.
    ⊎_elim (λ before. none q before it) (λ after. others q after it) (cases_lt q p)
newest_of_all image p space n (Some page) newest others = (
  newest.0,
  record {
    found = newest.1.found;
    greatest = λ q it.
        ⊎_elim (λ before. newest.1.greatest q before it) (λ after. absurd (others q after it)) (cases_lt q p);
    first = λ q it equal.
        ⊎_elim (λ before. newest.1.first q before it equal) (λ after. absurd (others q after it)) (cases_lt q p);
  },
  newest.2,
)
