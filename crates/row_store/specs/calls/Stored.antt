-- A row as it is stored, by where each of its fields ends among its bytes.
use Rattle.std.specs.Prelude.{ℕ, zero, suc, ◌<◌, ◌≤◌, List, length, map, slice_index_or, slice_range, true, false}
use Rattle.std.specs.List.{range_with_len}
use Rattle.row_layout.specs.StoredRow.{Stored}
use Rattle.row_store.specs.declared.marks.FieldSpot.{FieldSpot}

-- spot i; past the last one an empty one
abbrev pub spot_at : List FieldSpot → ℕ → FieldSpot
spot_at spots i = slice_index_or spots i (record { null = true; off = false; end = 0 })

-- where field i begins: each but the first where the one before it ends
abbrev pub spot_start : List FieldSpot → ℕ → ℕ
spot_start spots zero = 0
spot_start spots (suc i) = (spot_at spots i).end

-- the spots lie in order within the bytes
pub record AreSpots (spots : List FieldSpot) (bytes : List ℕ) : Type 0 where
  pub rising : (i : ℕ) → i < length spots → spot_start spots i ≤ (spot_at spots i).end
  pub inside : (i : ℕ) → i < length spots → (spot_at spots i).end ≤ length bytes

-- a field that begins there, and ends at its spot
abbrev pub field_from : List ℕ → ℕ → FieldSpot → Stored
field_from bytes start spot =
    record { null = spot.null; off = spot.off; bytes = slice_range bytes start spot.end }

-- field i of some bytes, and the row of all fields
abbrev pub field_in : List FieldSpot → List ℕ → ℕ → Stored
field_in spots bytes i = field_from bytes (spot_start spots i) (spot_at spots i)

unfoldable pub row_of : List FieldSpot → List ℕ → List Stored
row_of spots bytes = map (field_in spots bytes) (range_with_len 0 (length spots))
