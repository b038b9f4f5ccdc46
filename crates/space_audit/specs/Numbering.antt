-- The place of a key in a list.
use Rattle.std.specs.Prelude.{◌≡◌, ℕ, ◌<◌, ◌==◌, List, length, Option, Some, None}
use Rattle.std.specs.List.{position_or_len}

-- the place of the first key that is equal to this one; the number of all keys if there is none
abbrev pub place_in : List ℕ → ℕ → ℕ
place_in keys key = position_or_len (λ k. k == key) keys

-- a search found the place of a key, or found that there is none
abbrev pub FindsKey : List ℕ → ℕ → Option ℕ → Type 0
FindsKey keys key None = place_in keys key ≡ length keys
FindsKey keys key (Some place) = (place < length keys) × (place_in keys key ≡ place)
