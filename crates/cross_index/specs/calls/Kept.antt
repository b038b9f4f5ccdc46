-- The values that are kept of the rows, one after another, so many for each row.
use Rattle.std.specs.Prelude.{◌≡◌, ℕ, zero, suc, ◌+◌, ◌*◌, ◌/◌, ◌%◌, ◌==◌, ◌≤◌, List, [], ◌∷◌, map, slice_index_or}
use Rattle.std.specs.Prelude.{None, false}
use Rattle.std.specs.List.{range_with_len}
use Rattle.column_values.specs.Order.{Key}
use Rattle.compact_record.specs.declared.places.Place.{Place}

-- a place among so many bytes
pub record LiesIn (most : ℕ) (place : Place) : Type 0 where
  pub rising : place.from ≤ place.until
  pub inside : place.until ≤ most

-- the places of values by their marks, twice where each ends, and 1 more if it is null: it begins where the one
-- before it ends, the first from here on
abbrev pub places_of_marks : ℕ → List ℕ → List Place
places_of_marks from [] = []
places_of_marks from (mark ∷ marks) =
    record { null = mark % 2 == 1; external = false; from = from; until = mark / 2 } ∷ places_of_marks (mark / 2) marks

-- where value i begins
abbrev pub value_start : List ℕ → ℕ → ℕ
value_start marks zero = 0
value_start marks (suc i) = slice_index_or marks i 0 / 2

-- no value ends before it begins, and the last one ends there
abbrev pub LieTo : ℕ → List ℕ → ℕ → Type 0
LieTo from [] most = from ≡ most
LieTo from (mark ∷ marks) most = (from ≤ mark / 2) × LieTo (mark / 2) marks most

-- the key at these slots of a row's values
unfoldable pub kept_key : Key → ℕ → List ℕ → ℕ → Key
kept_key cells width slots row = map (λ slot. slice_index_or cells (row * width + slot) None) slots

-- the keys at these slots of so many rows' values
unfoldable pub kept_keys : Key → ℕ → List ℕ → ℕ → List Key
kept_keys cells width slots count = map (kept_key cells width slots) (range_with_len 0 count)
