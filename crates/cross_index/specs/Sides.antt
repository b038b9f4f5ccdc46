-- Two lists of keys, and the least key that only one of them has.
use Rattle.std.specs.Prelude.{◌≡◌, ℕ, ◌<◌, ◌≤◌, ◌⊎◌, List, [], length, All, Any, Contains, slice_index_or}
use Rattle.std.specs.List.{AllPairs}
use Rattle.column_values.specs.declared.field.FieldType.{FieldType}
use Rattle.column_values.specs.Order.{Key, IsBelow, AreEqualKeys}

-- a key equal to this one is among these
abbrev pub HoldsKey : List FieldType → List Key → Key → Type 0
HoldsKey kinds keys key = Any (λ other. AreEqualKeys kinds other key) keys

-- a key of this side that the other lacks
pub record IsLone (kinds : List FieldType) (side other : List Key) (key : Key) : Type 0 where
  pub among : Contains side key
  pub lacking : ¬ (HoldsKey kinds other key)

-- no key that only one side has is below this one
abbrev pub IsLeast : List FieldType → List Key → List Key → Key → Type 0
IsLeast kinds side other key =
    (lone : Key) → IsLone kinds side other lone ⊎ IsLone kinds other side lone → ¬ (IsBelow kinds lone key)

-- key k of this side is the least that only one side has
pub record IsLeastLone (kinds : List FieldType) (side other : List Key) (k : ℕ) : Type 0 where
  pub within : k < length side
  pub lacking : ¬ (HoldsKey kinds other (slice_index_or side k []))
  pub least : IsLeast kinds side other (slice_index_or side k [])

-- each side has the keys of the other
pub record HaveSameKeys (kinds : List FieldType) (side other : List Key) : Type 0 where
  pub forth : All (HoldsKey kinds other) side
  pub back : All (HoldsKey kinds side) other

-- the first j keys of both sides are equal, one by one
pub record AreMatched (kinds : List FieldType) (side other : List Key) (j : ℕ) : Type 0 where
  pub few : j ≤ length side
  pub other_few : j ≤ length other
  pub each : (i : ℕ) → i < j → AreEqualKeys kinds (slice_index_or side i []) (slice_index_or other i [])

-- each key is below all later ones
abbrev pub Rise : List FieldType → List Key → Type 0
Rise kinds keys = AllPairs (IsBelow kinds) keys

-- no two keys are equal
abbrev pub AreApart : List FieldType → List Key → Type 0
AreApart kinds keys =
    (i j : ℕ) → i < length keys → j < length keys
    → AreEqualKeys kinds (slice_index_or keys i []) (slice_index_or keys j []) → i ≡ j
