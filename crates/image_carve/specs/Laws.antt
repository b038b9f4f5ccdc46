-- Laws of what is carved, each the contract of a function in the module of laws.
use Rattle.std.specs.Prelude.{◌≡◌, ◌<◌, ◌⊎◌, ℕ, List, Some}
use Rattle.std.specs.FinMap.{get}
use Rattle.page_source.specs.Pages.{page_of, page_count}
use Rattle.page_source.specs.Objects.{PageMap}
use Rattle.page_scan.specs.Found.{IsPlace, IsPageOf, IsFound, page_at, lsn_of}
use Rattle.image_carve.specs.Carved.{IsCarved}

-- the page stands at some place of the image
abbrev pub Occurs : List ℕ → List ℕ → Type 0
Occurs image page = (o : ℕ) × IsPlace image o × (page_at image o ≡ page)

-- each version of the page with this number that is found is older, or the same
abbrev pub IsLatest : List ℕ → ℕ → ℕ → List ℕ → Type 0
IsLatest image space n page =
    (o : ℕ) → IsFound image o space n → (lsn_of (page_at image o) < lsn_of page) ⊎ (page_at image o ≡ page)

-- a page of a tablespace that stands, occurs in the image, and is the latest there, is carved
abbrev pub WhatStoodIsCarved : Type 0
WhatStoodIsCarved =
    (image file : List ℕ) (space : ℕ) (held : PageMap) (n : ℕ) → IsCarved image space held → n < page_count file
    → IsPageOf (page_of file n) space n → Occurs image (page_of file n) → IsLatest image space n (page_of file n)
    → get held n ≡ Some (page_of file n)

-- one map at most is carved of a space
abbrev pub HasOneCarvedMap : Type 0
HasOneCarvedMap =
    (image : List ℕ) (space : ℕ) (a b : PageMap) → IsCarved image space a → IsCarved image space b → a ≡ b

-- each page that is carved stands by itself, under its number
abbrev pub CarvedPagesStand : Type 0
CarvedPagesStand =
    (image : List ℕ) (space : ℕ) (held : PageMap) (n : ℕ) (page : List ℕ) → IsCarved image space held
    → get held n ≡ Some page → IsPageOf page space n
