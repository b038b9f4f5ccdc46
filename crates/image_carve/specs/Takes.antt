-- What a take answers over an image that is told, and what the file then holds.
use Rattle.std.specs.Prelude.{◌≡◌, ◌<◌, ◌^◌, ℕ, List, length, take, Option, Some, None, IfSome, Result, Ok, Err}
use Rattle.std.specs.FinMap.{empty}
use Rattle.page_source.specs.Objects.{PageMap, IsTold, HoldsOthers}
use Rattle.page_scan.specs.Newest.{IsNowhere}
use Rattle.image_carve.specs.declared.taken.Taken.{Taken}
use Rattle.image_carve.specs.declared.taken.TakeStop.{TakeStop}
use Rattle.image_carve.specs.declared.taken.TakeStop.TheVariants.{Nothing, Source, Store, Memory}
use Rattle.image_carve.specs.Carved.{IsCarved, IsTaken}

-- nothing is held yet
abbrev pub IsFresh : Option PageMap → Type 0
IsFresh start = IfSome start (λ held. held ≡ empty)

-- all of the space was carved, and the file holds it
pub record HasTaken (image : List ℕ) (space : ℕ) (start now : Option PageMap) (taken : Taken) : Type 0 where
  pub held : PageMap
  pub carved : IsCarved image space held
  pub numbers : IsTaken held taken
  pub holds : IsTold start now held

-- what stands in the image up to some byte was carved, and the file holds it
pub record HasPart (image : List ℕ) (space : ℕ) (start now : Option PageMap) : Type 0 where
  pub upto : ℕ
  pub held : PageMap
  pub carved : IsCarved (take upto image) space held
  pub holds : IsTold start now held

-- the file holds the map but for one page
abbrev pub HoldsBut : Option PageMap → Option PageMap → PageMap → ℕ → Type 0
HoldsBut None now held n = now ≡ None
HoldsBut (Some start) now held n = HoldsOthers (Some held) now n

pub record HasPartBut (image : List ℕ) (space : ℕ) (start now : Option PageMap) : Type 0 where
  pub upto : ℕ
  pub held : PageMap
  pub carved : IsCarved (take upto image) space held
  pub but : ℕ
  pub holds : HoldsBut start now held but

-- the answer over an image
abbrev pub Takes : List ℕ → ℕ → Option PageMap → Option PageMap → Result Taken TakeStop → Type 0
Takes image space start now (Ok taken) = HasTaken image space start now taken
Takes image space start now (Err Nothing) = (n : ℕ) → IsNowhere image space n
Takes image space start now (Err Source) = HasPart image space start now
Takes image space start now (Err Store) = HasPartBut image space start now
Takes image space start now (Err Memory) = HasPart image space start now

-- what a take answers if the image is told, its bytes can be counted, and the file holds nothing at the start
abbrev pub TakesTold : Option (List ℕ) → ℕ → Option PageMap → Option PageMap → Result Taken TakeStop → Type 0
TakesTold None space start now result = Unit {0}
TakesTold (Some image) space start now result =
    length image < 2 ^ 64 → IsFresh start → Takes image space start now result
