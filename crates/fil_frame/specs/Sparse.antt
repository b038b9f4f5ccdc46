-- The sparse multiple of the polynomial of CRC-32C by which the body of a page is shortened.
use Rattle.std.specs.Prelude.{◌≡◌, ℕ, zero, suc, ◌+◌, ◌*◌, List, [], ◌∷◌, slice_index, drop, bit_xor}
use Rattle.fil_frame.specs.Crc.{crc_state}

-- the state after so many bytes of zeros
unfoldable pub zero_bytes : ℕ → ℕ → ℕ
zero_bytes zero state = state
zero_bytes (suc n) state = crc_state (zero_bytes n state) (0 ∷ [])

-- the exclusive-or of what f is at these numbers
unfoldable pub xor_sum : (ℕ → ℕ) → List ℕ → ℕ
xor_sum f [] = 0
xor_sum f (k ∷ ks) = bit_xor (f k) (xor_sum f ks)

-- the sum of x^(8 k) for these k is a multiple of the polynomial: one state after so many zeros each adds up to 0
abbrev pub Cancel : List ℕ → Type 0
Cancel ks = xor_sum (λ k. zero_bytes k 0x82F6_3B78) ks ≡ 0

-- the exponents of x^209 + x^144 + x^54 + x^39 + x^14 + 1 at a scale
abbrev pub exponents : ℕ → List ℕ
exponents scale = 209 * scale ∷ 144 * scale ∷ 54 * scale ∷ 39 * scale ∷ 14 * scale ∷ 0 ∷ []

-- byte i of the body, with the copies of the quotient that the bytes before it are cleared by
unfoldable pub remaining : List ℕ → List ℕ → ℕ → ℕ → ℕ
remaining body quotient scale i =
    bit_xor (slice_index body i) (xor_sum (λ k. slice_index quotient (i + k)) (drop 1 (exponents scale)))
