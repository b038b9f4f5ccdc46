-- The characters at the front of a block of bytes, by what may follow the three bytes before a byte.
use Rattle.std.specs.Prelude.{◌≡◌, ℕ, suc, ◌<◌, ◌≤◌, ◌⊎◌, ◌||◌, Bool, nat_lt, nat_le, List, ◌∷◌, length, take}
use Rattle.std.specs.Prelude.{slice_index}
use Rattle.column_values.specs.Characters.{IsFurther, HasCharacters}

-- a character that began in the three bytes before isn't whole without a further byte
abbrev pub GoesOn : ℕ → ℕ → ℕ → Type 0
GoesOn x y z = (0xC2 ≤ z) ⊎ (0xE0 ≤ y) ⊎ (0xF0 ≤ x)

-- each character that began in the three bytes before is whole
pub record IsClosed (x y z : ℕ) : Type 0 where
  pub four : x < 0xF0
  pub three : y < 0xE0
  pub two : z < 0xC2

-- the byte may follow x, y and z
pub record MayFollow (x y z byte : ℕ) : Type 0 where
  pub further : GoesOn x y z → IsFurther byte
  pub only : IsFurther byte → GoesOn x y z
  pub known : (byte < 0xC0) ⊎ ((0xC2 ≤ byte) × (byte ≤ 0xF4))
  pub of_three : z ≡ 0xE0 → 0xA0 ≤ byte
  pub of_four : z ≡ 0xF0 → 0x90 ≤ byte
  pub of_last : z ≡ 0xF4 → byte ≤ 0x8F

-- the byte behind three others may follow them
abbrev pub FollowsAt : List ℕ → ℕ → Type 0
FollowsAt bytes i =
    MayFollow (slice_index bytes i) (slice_index bytes (suc i)) (slice_index bytes (suc (suc i)))
    (slice_index bytes (suc (suc (suc i))))

-- each byte may follow the three before it, where a character begins with the first one
abbrev pub behind_zeros : List ℕ → List ℕ
behind_zeros bytes = 0 ∷ 0 ∷ 0 ∷ bytes

abbrev pub AllFollow : List ℕ → Type 0
AllFollow bytes = (i : ℕ) → i < length bytes → FollowsAt (behind_zeros bytes) i

-- whether a character begins with the byte
abbrev pub is_start : ℕ → Bool
is_start byte = nat_lt byte 0x80 || nat_le 0xC0 byte

-- a character begins behind so many bytes, or the bytes end there and each character is whole
abbrev pub EndsAt : List ℕ → ℕ → Type 0
EndsAt bytes at =
    ((at < length bytes) × (0xC0 ≤ slice_index bytes at))
    ⊎ ((at ≡ length bytes)
    × IsClosed (slice_index (behind_zeros bytes) at) (slice_index (behind_zeros bytes) (suc at))
    (slice_index (behind_zeros bytes) (suc (suc at))))

-- so many bytes at the front are so many characters
pub record HasFront (bytes : List ℕ) (size count : ℕ) : Type 0 where
  pub some : 1 ≤ size
  pub within : size ≤ length bytes
  pub few : count ≤ size
  pub characters : HasCharacters (take size bytes) count
