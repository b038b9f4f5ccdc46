-- What is kept of the descriptor pages that were met so far.
use Rattle.std.specs.Prelude.{◌≡◌, ◌≢◌, ℕ, Bool, List, Option, Some, None}
use Rattle.page_source.specs.Pages.{page_of}
use Rattle.space_header.specs.Header.{free_limit}
use Rattle.leaf_salvage.specs.Unused.{map_page, IsMap, IsPastLimit}

-- the free limit, if page 0 told it, and the last descriptor page, if it told anything
pub record Known : Type 0 where
  pub limit : Option ℕ
  pub map : Option (List ℕ)

-- the limit is that of page 0, none if it told none
abbrev pub TellsLimit : List ℕ → (ℕ → Bool) → Option ℕ → Type 0
TellsLimit file missed (Some limit) = IsMap file missed 0 × (limit ≡ free_limit (page_of file 0))
TellsLimit file missed None = ¬ (IsMap file missed 0)

-- this is descriptor page d, none if it told nothing
abbrev pub TellsMap : List ℕ → (ℕ → Bool) → ℕ → Option (List ℕ) → Type 0
TellsMap file missed d (Some page) = IsMap file missed d × (page ≡ page_of file d)
TellsMap file missed d None = ¬ (IsMap file missed d)

-- all that the pages below n tell of page n. From the free limit on no descriptor page is met
pub record Knows (file : List ℕ) (missed : ℕ → Bool) (n : ℕ) (known : Known) : Type 0 where
  pub limit : n ≢ 0 → TellsLimit file missed known.limit
  pub map : n ≢ map_page n → ¬ (IsPastLimit file missed n) → TellsMap file missed (map_page n) known.map
