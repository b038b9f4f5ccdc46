-- The pages that are kept so far, and what a page that is met does to them.
use Rattle.std.specs.Prelude.{◌≡◌, ◌≢◌, ◌⊎◌, ◌<◌, ◌+◌, ◌≤◌, ◌^◌, ℕ, max, Bool, cond, List, [], length, map, zip}
use Rattle.std.specs.Prelude.{slice_index_or, All, Contains, Option, Some, None, IfSome}
use Rattle.std.specs.Prelude.{Result, Ok, Err}
use Rattle.page_source.specs.Objects.{PageMap, IsTold, HoldsPage, HoldsOthers}
use Rattle.page_scan.specs.Found.{lsn_of}
use Rattle.image_carve.specs.declared.taken.TakeStop.{TakeStop}
use Rattle.image_carve.specs.declared.taken.TakeStop.TheVariants.{Nothing, Source, Store, Memory}
use Rattle.image_carve.specs.Carved.{IsCarved, AreLsnsOf}
use Rattle.image_carve.specs.Takes.{IsFresh, HasPart, HasPartBut}

-- the LSN of each number that has a mark, none of another
abbrev pub marked : List Bool → List ℕ → List (Option ℕ)
marked marks lsns = map (λ (pair : Bool × ℕ). cond pair.0 (Some pair.1) None) (zip marks lsns)

-- this LSN is greater than the one that is noted under the number, or none is
abbrev pub IsNewer : List (Option ℕ) → ℕ → ℕ → Type 0
IsNewer lsns n lsn = IfSome (slice_index_or lsns n None) (λ noted. noted < lsn)

-- the LSN was noted under the number
pub record Notes (old new : List (Option ℕ)) (n lsn : ℕ) : Type 0 where
  pub here : slice_index_or new n None ≡ Some lsn
  pub others : (m : ℕ) → m ≢ n → slice_index_or new m None ≡ slice_index_or old m None
  pub size : length new ≡ max (length old) (n + 1)

-- places without an LSN were added, up to this one
pub record Grows (old new : List (Option ℕ)) (place : ℕ) : Type 0 where
  pub same : (m : ℕ) → slice_index_or new m None ≡ slice_index_or old m None
  pub size : length new ≡ max (length old) (place + 1)

-- how many numbers there are, and the greatest, or 0
pub record IsTally (numbers : List ℕ) (count greatest : ℕ) : Type 0 where
  pub counts : count ≡ length numbers
  pub most : All (λ m. m ≤ greatest) numbers
  pub among : ((numbers ≡ []) × (greatest ≡ 0)) ⊎ Contains numbers greatest

-- what is kept: the LSNs that were noted, and what the file holds where it tells that
pub record Kept : Type 0 where
  pub lsns : List (Option ℕ)
  pub held : Option PageMap

-- the page is no newer than the one that is kept, which stays
pub record KeepsOld (old new : Kept) (n : ℕ) (page : List ℕ) : Type 0 where
  pub older : ¬ (IsNewer old.lsns n (lsn_of page))
  pub same : new ≡ old

-- the page is newer than the one that is kept, or the first, and was put
pub record PutsNew (old new : Kept) (n : ℕ) (page : List ℕ) : Type 0 where
  pub newer : IsNewer old.lsns n (lsn_of page)
  pub notes : Notes old.lsns new.lsns n (lsn_of page)
  pub holds : HoldsPage old.held new.held n page

-- a page was met, and put if it is newer
abbrev pub PutsNewer : Kept → Kept → ℕ → List ℕ → Result (Unit {0}) TakeStop → Type 0
PutsNewer old new n page (Ok u) = KeepsOld old new n page ⊎ PutsNew old new n page
PutsNewer old new n page (Err Memory) = new.held ≡ old.held
PutsNewer old new n page (Err Store) = HoldsOthers old.held new.held n
PutsNewer old new n page (Err Source) = ⊥
PutsNewer old new n page (Err Nothing) = ⊥

-- the map holds what was carved, the LSNs are its pages', and the file holds it
pub record IsKept (image : List ℕ) (space : ℕ) (start : Option PageMap) (kept : Kept) : Type 0 where
  pub map : PageMap
  pub carved : IsCarved image space map
  pub lsns_of : AreLsnsOf map kept.lsns
  pub holds : IsTold start kept.held map

-- an image was gone through
abbrev pub Carves : List ℕ → ℕ → Option PageMap → Kept → Result (Unit {0}) TakeStop → Type 0
Carves image space start kept (Ok u) = IsKept image space start kept
Carves image space start kept (Err Source) = HasPart image space start kept.held
Carves image space start kept (Err Store) = HasPartBut image space start kept.held
Carves image space start kept (Err Memory) = HasPart image space start kept.held
Carves image space start kept (Err Nothing) = ⊥

abbrev pub CarvesTold : Option (List ℕ) → ℕ → Option PageMap → Kept → Result (Unit {0}) TakeStop → Type 0
CarvesTold None space start kept result = Unit {0}
CarvesTold (Some image) space start kept result =
    length image < 2 ^ 64 → IsFresh start → Carves image space start kept result
