-- One tablespace put together of the pages that are found in an image.
use Rattle.std.specs.Prelude.{◌≡◌, ◌≢◌, ◌+◌, ℕ, List, length, filter_map, option_map}
use Rattle.std.specs.Prelude.{slice_index_or, Option, None}
use Rattle.std.specs.FinMap.{get}
use Rattle.page_source.specs.Objects.{PageMap}
use Rattle.page_scan.specs.Found.{lsn_of}
use Rattle.page_scan.specs.Newest.{Newest, IsGreatest}
use Rattle.image_carve.specs.declared.taken.Taken.{Taken}

-- the map holds each page of the space that is found, in its newest version, and no other page
abbrev pub IsCarved : List ℕ → ℕ → PageMap → Type 0
IsCarved image space held = (n : ℕ) → Newest image space n (get held n)

-- the LSNs of the pages of a map by their numbers, up to the greatest; none for a page that isn't held
pub record AreLsnsOf (held : PageMap) (lsns : List (Option ℕ)) : Type 0 where
  pub each : (n : ℕ) → slice_index_or lsns n None ≡ option_map lsn_of (get held n)
  pub last : (n : ℕ) → length lsns ≡ n + 1 → slice_index_or lsns n None ≢ None

-- the LSNs of a list that are there
abbrev pub known : List (Option ℕ) → List ℕ
known lsns = filter_map (λ lsn. lsn) lsns

-- the numbers of a list of LSNs: how many are there, of how many, and the greatest
pub record AreNumbersOf (lsns : List (Option ℕ)) (taken : Taken) : Type 0 where
  pub pages : taken.pages ≡ length (known lsns)
  pub size : taken.size ≡ length lsns
  pub newest : IsGreatest (known lsns) taken.newest

-- how many pages a map holds, of how many up to the greatest, and the greatest LSN
pub record IsTaken (held : PageMap) (taken : Taken) : Type 0 where
  pub lsns : List (Option ℕ)
  pub are : AreLsnsOf held lsns
  pub numbers : AreNumbersOf lsns taken
