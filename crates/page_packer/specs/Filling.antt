-- The records that stand on a page while it is filled.
use Rattle.std.specs.Prelude.{◌≡◌, ℕ, ◌+◌, ◌-◌, ◌*◌, ◌<◌, ◌≤◌, List, length, map, take, flat_map, slice_index}
use Rattle.std.specs.Prelude.{slice_index_or}
use Rattle.std.specs.Prelude.{slice_range}
use Rattle.page_packer.specs.declared.packer.Spot.{Spot}
use Rattle.page_packer.specs.Packing.{Pushed, IsWhole, slots_for, total_size, pushed_at, start_of, origin_at}

-- the record at a spot of a page
abbrev pub pushed_from : List ℕ → Spot → Pushed
pushed_from page spot = record { bytes = slice_range page spot.start spot.end; origin = spot.origin - spot.start }

-- the records at these spots
unfoldable pub pushed_in : List ℕ → List Spot → List Pushed
pushed_in page spots = map (pushed_from page) spots

-- the bytes of records as they were pushed, one after another: no record owns others or leads to a next one
abbrev pub unlinked_bytes : List Pushed → List ℕ
unlinked_bytes records = flat_map (λ (r : Pushed). r.bytes) records

-- spot k
abbrev pub spot_at : List Spot → ℕ → Spot
spot_at spots k = slice_index_or spots k (record { start = 0; origin = 0; end = 0 })

-- a record of the heap lies there, below the heap top, and owns none
pub record IsSpot (page : List ℕ) (top : ℕ) (spot : Spot) : Type 0 where
  pub least : 120 ≤ spot.start
  pub header : spot.start + 5 ≤ spot.origin
  pub inside : spot.origin ≤ spot.end
  pub most : spot.end ≤ top
  pub info : slice_index page (spot.origin - 5) ≤ 16

-- so many spots hold the records of a page up to its heap top, one after another, and there is room for the directory
pub record IsFilled (page : List ℕ) (spots : List Spot) (count top : ℕ) : Type 0 where
  pub room : length spots ≡ 4096
  pub few : 5 * count + 120 ≤ top
  pub top_is : top ≡ 120 + total_size (pushed_in page (take count spots))
  pub fits : top + 2 * slots_for count ≤ 16376
  pub each : (k : ℕ) → k < count → IsSpot page top (spot_at spots k)
  pub starts : (k : ℕ) → k < count → (spot_at spots k).start ≡ start_of (pushed_in page (take count spots)) k

-- record k lies there, and owns none
pub record HasSpot (records : List Pushed) (k : ℕ) (spot : Spot) : Type 0 where
  pub start_is : spot.start ≡ start_of records k
  pub origin_is : spot.origin ≡ origin_at records k
  pub end_is : spot.end ≡ start_of records k + length (pushed_at records k).bytes
  pub whole : IsWhole (pushed_at records k)
  pub first : 120 ≤ spot.start
  pub header : spot.start + 5 ≤ spot.origin
  pub inside : spot.origin ≤ spot.end
  pub last : spot.end ≤ 16376
  pub info_is : slice_index (pushed_at records k).bytes ((pushed_at records k).origin - 5) ≤ 16
