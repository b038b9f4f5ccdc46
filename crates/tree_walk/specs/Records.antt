-- What is known of a page whose checks held, and of a record in it.
use Rattle.std.specs.Prelude.{◌≡◌, ℕ, ◌≤◌, List, ◌∷◌, All, Option, Some, None, slice_index, slice_index_or}
use Rattle.column_values.specs.Types.{Fields}
use Rattle.column_values.specs.Order.{Key}
use Rattle.compact_record.specs.Reading.{IsSpelled, record_end, key_of, Reading}
use Rattle.compact_record.specs.Keys.{IsWholeReading}
use Rattle.index_page.specs.Header.{infimum, records_of}
use Rattle.index_page.specs.Page.{HasHeader, IsChain, IsDirectory}

-- a record that can be read: it is spelled, and ends on the page
pub record IsRecord (page : List ℕ) (fields : Fields) (origin : ℕ) : Type 0 where
  pub least : 125 ≤ origin
  pub most : origin ≤ 16384
  pub spelled : IsSpelled page origin fields
  pub ends : record_end page origin fields ≤ 16384

-- there is a record at this origin, and it was read
pub record IsHeld (page : List ℕ) (fields : Fields) (origin : ℕ) (reading : Reading) : Type 0 where
  pub is_record : IsRecord page fields origin
  pub whole : IsWholeReading page fields reading
  pub stands : reading.origin ≡ origin

-- the page's chain is one of records that can be read, and its slots are those of the chain
pub record PageFacts (page : List ℕ) (fields : Fields) : Type 0 where
  pub header : HasHeader page
  pub is_chain : IsChain page (records_of page)
  pub directory : IsDirectory page (records_of page)
  pub records : All (IsRecord page fields) (records_of page)

-- the key of record k of the chain
abbrev pub record_key : List ℕ → Fields → ℕ → Key
record_key page fields k = key_of page (slice_index (records_of page) k) fields

-- the key of the record at an origin, where there is one
abbrev pub held_key : List ℕ → Fields → Option ℕ → Option Key
held_key page fields None = None
held_key page fields (Some origin) = Some (key_of page origin fields)

-- the record that stands behind k - 1 others of the chain, the infimum where k is 0
abbrev pub HasPassed : List ℕ → ℕ → ℕ → Type 0
HasPassed page k at = at ≡ slice_index_or (infimum ∷ records_of page) k 0
