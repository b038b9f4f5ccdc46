-- Marks that are set one by one: what is taken before, and what was marked since.
use Rattle.std.specs.Prelude.{◌≡◌, ◌==◌, ℕ, List, [], ◌∷◌, slice_index_or, Bool, true, false, cond}

-- whether a number stands in a list
abbrev pub is_in : List ℕ → ℕ → Bool
is_in [] n = false
is_in (x ∷ xs) n = cond (x == n) true (is_in xs n)

-- whether a number is marked
abbrev pub is_set : List Bool → ℕ → Bool
is_set marks n = slice_index_or marks n false

-- whether a number was taken at the start, or stands in a list
abbrev pub seen : (ℕ → Bool) → List ℕ → ℕ → Bool
seen taken list n = cond (taken n) true (is_in list n)

-- the marks are what was taken at the start and a list
abbrev pub Marked : (ℕ → Bool) → List Bool → List ℕ → Type 0
Marked taken marks list = (n : ℕ) → is_set marks n ≡ seen taken list n

-- each number that was marked is marked still
abbrev pub StaysMarked : List Bool → List Bool → Type 0
StaysMarked old new = (n : ℕ) → is_set old n ≡ true → is_set new n ≡ true
