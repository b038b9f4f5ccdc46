-- The row with a key on a page, as it is found.
use Rattle.std.specs.Prelude.{◌≡◌, ℕ, Bool, ◌&&◌, Option, Some, None}
use Rattle.column_values.specs.Order.{Key}
use Rattle.tree_walk.specs.Index.{Index, Row, is_live_row}
use Rattle.key_lookup.specs.Record.{has_key, row_on}

-- the record of a page at an origin
abbrev pub row_at_origin : ℕ → ℕ → Row
row_at_origin n origin = record { page = n; origin = origin }

-- whether a row has the key and no delete mark
abbrev pub is_sought : Index → Key → Row → Bool
is_sought index key row = has_key index key row && is_live_row index row

-- the row on the page is this one, or there is none
abbrev pub IsRowOn : Index → Key → ℕ → Option ℕ → Type 0
IsRowOn index key n None = row_on index key n ≡ None
IsRowOn index key n (Some origin) = row_on index key n ≡ Some (row_at_origin n origin)
