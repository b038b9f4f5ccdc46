-- Outcomes one after another, each of which may depend on those before it.
use Rattle.std.specs.Prelude.{ℕ, ◌<◌, List, length, take, slice_index_or}

-- each outcome fits its place, after the outcomes before it
abbrev pub Follow : {X : Type 0} → (List X → ℕ → X → Type 0) → List X → Type 0
Follow {X = X} Fits outcomes =
    (k : ℕ) (d : X) → k < length outcomes → Fits (take k outcomes) k (slice_index_or outcomes k d)
