-- What is seen in the bytes that are ahead in a window.
use Rattle.std.specs.Prelude.{◌≡◌, ◌≢◌, ◌<◌, ◌≤◌, ◌+◌, ◌%◌, ℕ, List, [], length, drop, Contains, Option, Some, None}
use Rattle.page_source.specs.Pages.{page_size, num}
use Rattle.fil_frame.specs.Frame.{kind_of, space_of}
use Rattle.leaf_salvage.specs.Standing.{most_pages}
use Rattle.page_scan.specs.Found.{IsPlace, IsPageOf, page_at, sector_size, table_kinds}
use Rattle.page_scan.specs.declared.scanner.FoundPage.{FoundPage}

-- what a page of a table tells besides its checksums: a type, the echo of its LSN, a number and a space
pub record LooksLikePage (bytes : List ℕ) : Type 0 where
  pub has_kind : Contains table_kinds (kind_of bytes)
  pub echo : num bytes 16380 4 ≡ num bytes 20 4
  pub below : num bytes 4 4 < most_pages
  pub some_space : space_of bytes ≢ 0

-- the bytes are no page, of whatever space and number
abbrev pub IsNoPage : List ℕ → Type 0
IsNoPage bytes = (space n : ℕ) → ¬ (IsPageOf bytes space n)

-- the bytes are a page, which was copied, or they are none
abbrev pub Sees : List ℕ → Option FoundPage → List ℕ → Type 0
Sees bytes None page = IsNoPage bytes
Sees bytes (Some found) page = (page ≡ bytes) × IsPageOf page found.space found.number

-- each sector below this one begins a whole page's bytes, and they are no page
pub record Passes (bytes : List ℕ) (o : ℕ) : Type 0 where
  pub sector : o % sector_size ≡ 0
  pub each : (p : ℕ) → p < o → p % sector_size ≡ 0 → (p + page_size ≤ length bytes) × IsNoPage (page_at bytes p)

-- the first page that is seen, and how many bytes were passed, those of its first sector among them
pub record SeesFirst (bytes : List ℕ) (passed : ℕ) (found : FoundPage) (page : List ℕ) : Type 0 where
  pub o : ℕ
  pub before : Passes bytes o
  pub place : IsPlace bytes o
  pub sees : Sees (page_at bytes o) (Some found) page
  pub after : passed ≡ o + sector_size

-- so many bytes were passed up to the first page that is seen, or up to the last sector that begins a whole page's
abbrev pub SeesNext : List ℕ → ℕ → Option FoundPage → List ℕ → Type 0
SeesNext bytes passed None page = Passes bytes passed × (page_size ≤ length bytes → sector_size ≤ passed)
SeesNext bytes passed (Some found) page = SeesFirst bytes passed found page

-- what was ahead, and what is ahead after the bytes that were passed
abbrev pub Looks : List ℕ → List ℕ → Option FoundPage → List ℕ → Type 0
Looks ahead ahead_now found page =
    (passed : ℕ) × (passed ≤ length ahead) × (ahead_now ≡ drop passed ahead) × SeesNext ahead passed found page

-- a source that tells what it has left has nothing left
abbrev pub HasNothingLeft : Option (List ℕ) → Option (List ℕ) → Type 0
HasNothingLeft None left_now = left_now ≡ None
HasNothingLeft (Some left) left_now = left_now ≡ Some []
