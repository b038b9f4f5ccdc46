-- What a reader of a text keeps, as it is seen.
use Rattle.std.specs.Prelude.{◌≡◌, ℕ, ◌+◌, ◌<◌, ◌≤◌, ◌⊎◌, List, [], ◌∷◌, ◌++◌, length, Option, Some, None}
use Rattle.column_values.specs.declared.utf8.Pending.{Pending}
use Rattle.column_values.specs.declared.utf8.Pending.TheVariants.{Nothing, One, Two, Three}
use Rattle.column_values.specs.declared.utf8.Joined.{Joined}
use Rattle.column_values.specs.declared.utf8.Joined.TheVariants.{Whole, Front, Neither}
use Rattle.column_values.specs.declared.utf8.Progress.{Progress}
use Rattle.column_values.specs.declared.utf8.Progress.TheVariants as kept
use Rattle.column_values.specs.Characters.{IsIn, IsFurther, IsStartOfThree, IsStartOfFour, IsCharacter}
use Rattle.column_values.specs.Utf8Reader.{State, Bad, Good, Reader, Any, Limited, StandsFor}

-- the bytes that are pending
abbrev pub pending_bytes : Pending → List ℕ
pending_bytes Nothing = []
pending_bytes (One a) = a ∷ []
pending_bytes (Two a b) = a ∷ b ∷ []
pending_bytes (Three a b c) = a ∷ b ∷ c ∷ []

abbrev pub state_of : Progress → State
state_of kept.Bad = Bad
state_of (kept.Good characters pending) = Good characters (pending_bytes pending)

-- a reader of texts up to a limit has a state; a reader without a limit has none
abbrev pub reader_of : Option ℕ → Progress → Reader
reader_of None progress = Any
reader_of (Some limit) progress = Limited limit (state_of progress)

-- the front of a character, and not all of it
abbrev pub IsFront : List ℕ → Type 0
IsFront [] = Unit {0}
IsFront (a ∷ []) = IsIn 0xC2 0xF4 a
IsFront (a ∷ b ∷ []) = IsStartOfThree a b ⊎ IsStartOfFour a b
IsFront (a ∷ b ∷ c ∷ []) = IsStartOfFour a b × IsFurther c
IsFront _ = ⊥

-- what some bytes are together
abbrev pub Joins : List ℕ → Joined → Type 0
Joins bytes Whole = IsCharacter bytes
Joins bytes (Front pending) = IsFront bytes × (pending_bytes pending ≡ bytes)
Joins bytes Neither = ¬ (IsCharacter bytes) × ¬ (IsFront bytes)

-- the state behind so many characters and these bytes
abbrev pub state_after : ℕ → Joined → State
state_after count Whole = Good (count + 1) []
state_after count (Front pending) = Good count (pending_bytes pending)
state_after count Neither = Bad

-- the state after one byte more
abbrev pub StepsTo : State → ℕ → State → Type 0
StepsTo Bad byte new = new ≡ Bad
StepsTo (Good count pending) byte new =
    (joined : Joined) × Joins (pending ++ byte ∷ []) joined × (new ≡ state_after count joined)

-- one more character can be counted
abbrev pub CanStep : State → Type 0
CanStep Bad = Unit {0}
CanStep (Good count pending) = count < 8589934591

-- so many more characters can be counted
abbrev pub RoomFor : State → ℕ → Type 0
RoomFor Bad more = Unit {0}
RoomFor (Good count pending) more = count + more ≤ 8589934591

-- the number of characters is at most this
abbrev pub UpTo : ℕ → State → Type 0
UpTo most Bad = Unit {0}
UpTo most (Good count pending) = count ≤ most

-- from one state these bytes lead to the other
pub record ReadsOn (old new : State) (bytes : List ℕ) : Type 0 where
  pub stands : (text : List ℕ) → StandsFor old text → StandsFor new (text ++ bytes)
  pub room : (more : ℕ) → RoomFor old (length bytes + more) → RoomFor new more
  pub few : (most : ℕ) → UpTo most old → UpTo (most + length bytes) new
