-- The next page that is found in the rest of an image, sector by sector.
use Rattle.std.specs.Prelude.{◌≡◌, ◌<◌, ◌+◌, ◌%◌, ◌^◌, ℕ, List, [], ◌++◌, length, drop, option_map, Option, Some}
use Rattle.std.specs.Prelude.{None, Result, Ok, Err}
use Rattle.page_scan.specs.Found.{IsFound, page_at, sector_size}
use Rattle.page_scan.specs.declared.scanner.FoundPage.{FoundPage}

-- nothing is found below this offset
abbrev pub NothingBelow : List ℕ → ℕ → Type 0
NothingBelow image o = (p space n : ℕ) → p < o → ¬ (IsFound image p space n)

-- the first page that is found in the rest, and what is left after the sector in which it begins
pub record IsNext (rest : List ℕ) (found : FoundPage) (page rest_now : List ℕ) : Type 0 where
  pub o : ℕ
  pub is_found : IsFound rest o found.space found.number
  pub first : NothingBelow rest o
  pub bytes : page ≡ page_at rest o
  pub after : rest_now ≡ drop (o + sector_size) rest

-- some sectors were passed in which nothing begins that is found
pub record PassesSome (rest rest_now : List ℕ) : Type 0 where
  pub o : ℕ
  pub sector : o % sector_size ≡ 0
  pub none : NothingBelow rest o
  pub after : rest_now ≡ drop o rest

-- what a scan of the rest of an image answers; at its end nothing more is found
abbrev pub Scans : {E : Type 0} → List ℕ → Result (Option FoundPage) E → List ℕ → List ℕ → Type 0
Scans rest (Ok (Some found)) page rest_now = IsNext rest found page rest_now
Scans rest (Ok None) page rest_now = (o space n : ℕ) → ¬ (IsFound rest o space n)
Scans rest (Err e) page rest_now = PassesSome rest rest_now

-- the rest of an image, where its source tells what it has left: what was read of it and is ahead, and what is left
abbrev pub rest_of : List ℕ → Option (List ℕ) → Option (List ℕ)
rest_of ahead left = option_map (λ bytes. ahead ++ bytes) left

-- what a scan answers of a rest of an image that is told, if its bytes can be counted
abbrev pub ScansTold : {E : Type 0} → Option (List ℕ) → Result (Option FoundPage) E → List ℕ → Option (List ℕ)
    → Type 0
ScansTold None result page rest_now = rest_now ≡ None
ScansTold (Some rest) result page rest_now =
    length rest < 2 ^ 64 → (now : List ℕ) × (rest_now ≡ Some now) × Scans rest result page now

-- the source of a rest has nothing left, where it tells that
abbrev pub IsReadOut : Option (List ℕ) → Option (List ℕ) → Type 0
IsReadOut None left_now = left_now ≡ None
IsReadOut (Some rest) left_now = length rest < 2 ^ 64 → left_now ≡ Some []
