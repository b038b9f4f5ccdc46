-- The key of the row that is sought, as it is kept: bytes, and where those of each field lie.
use Rattle.std.specs.Prelude.{ℕ, ◌≤◌}
use Rattle.compact_record.specs.declared.places.Place.{Place}

-- a place among so many bytes
pub record LiesIn (most : ℕ) (place : Place) : Type 0 where
  pub rising : place.from ≤ place.until
  pub inside : place.until ≤ most
