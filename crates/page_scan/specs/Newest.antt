-- The newest of the versions of a page that are found in an image.
use Rattle.std.specs.Prelude.{◌≡◌, ◌≤◌, ℕ, List, All, Contains, Option, Some, None}
use Rattle.page_scan.specs.Found.{IsFound, page_at, lsn_of}

-- the place of the version with the greatest LSN, the first of those with that LSN
pub record IsNewest (image : List ℕ) (space n o : ℕ) : Type 0 where
  pub found : IsFound image o space n
  pub greatest : (p : ℕ) → IsFound image p space n → lsn_of (page_at image p) ≤ lsn_of (page_at image o)
  pub first : (p : ℕ) → IsFound image p space n → lsn_of (page_at image p) ≡ lsn_of (page_at image o) → o ≤ p

-- no version of the page is found
abbrev pub IsNowhere : List ℕ → ℕ → ℕ → Type 0
IsNowhere image space n = (o : ℕ) → ¬ (IsFound image o space n)

-- the newest version of page n, none if no version is found
abbrev pub Newest : List ℕ → ℕ → ℕ → Option (List ℕ) → Type 0
Newest image space n (Some page) = (o : ℕ) × IsNewest image space n o × (page ≡ page_at image o)
Newest image space n None = IsNowhere image space n

-- the greatest of some numbers: one of them, which none exceeds
pub record IsGreatest (numbers : List ℕ) (n : ℕ) : Type 0 where
  pub among : Contains numbers n
  pub most : All (λ m. m ≤ n) numbers
