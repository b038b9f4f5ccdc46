-- The steps of a CRC are linear in the state and the bytes.
use Rattle.std.proofs.Common.{◌≡◌, ℕ, zero, suc, ◌/◌, ◌%◌, ◌<◌, ◌^◌, ◌==◌, if◌then◌else◌, List, [], ◌∷◌, map, fold}
use Rattle.std.proofs.Common.{bit_xor, refl, sym, ◌∙◌, ap, eq-eqb, arith}
use Rattle.std.specs.List.{range_with_len}
use Rattle.std.specs.Int.Bits.{xor_assoc, xor_self, xor_zero_r}
use Rattle.std.proofs.lemmas.Bool.{cond-true}
use Rattle.std.proofs.lemmas.Nat.{xor_comm, xor_shr, xor_mod, xor_lt}
use Rattle.fil_frame.specs.Crc.{crc_step, crc_state}

-- (x + y) + z, as (x + z) + y
pub xor_swap : (x y z : ℕ) → bit_xor (bit_xor x y) z ≡ bit_xor (bit_xor x z) y
xor_swap x y z = xor_assoc x y z ∙ ap (bit_xor x) (xor_comm y z) ∙ sym (xor_assoc x z y)

-- (x + y) + (z + w), as (x + z) + (y + w)
pub xor_cross : (x y z w : ℕ) → bit_xor (bit_xor x y) (bit_xor z w) ≡ bit_xor (bit_xor x z) (bit_xor y w)
xor_cross x y z w = sym (xor_assoc (bit_xor x y) z w) ∙ ap (λ (r : ℕ). bit_xor r w) (xor_swap x y z)
    ∙ xor_assoc (bit_xor x z) y w

-- a number added twice is gone
pub xor_twice : (x y : ℕ) → bit_xor (bit_xor x y) y ≡ x
xor_twice x y = xor_assoc x y y ∙ ap (bit_xor x) (xor_self y) ∙ xor_zero_r x

pub xor_both : (x y z w : ℕ) → x ≡ z → y ≡ w → bit_xor x y ≡ bit_xor z w
xor_both x y z w at_x at_y = ap (λ (r : ℕ). bit_xor r y) at_x ∙ ap (bit_xor z) at_y

-- a step by the state's half and its lowest bit
abbrev step_of : ℕ → ℕ → ℕ → ℕ
step_of half low bit = if low == bit then half else bit_xor half 0x82F6_3B78

-- the bit may be added to the lowest one
step_of-bit : (half low bit : ℕ) → low < 2 → bit < 2 → step_of half low bit ≡ step_of half (bit_xor low bit) 0
step_of-bit half zero zero _ _ = refl
step_of-bit half zero (suc zero) _ _ = refl
step_of-bit half (suc zero) zero _ _ = refl
step_of-bit half (suc zero) (suc zero) _ _ = refl
step_of-bit half (suc (suc low)) bit h _ = absurd (omega (arith, h))
step_of-bit half zero (suc (suc bit)) _ h = absurd (omega (arith, h))
step_of-bit half (suc zero) (suc (suc bit)) _ h = absurd (omega (arith, h))

step_of-xor : (x y p q : ℕ) → p < 2 → q < 2 → step_of (bit_xor x y) (bit_xor p q) 0 ≡ bit_xor (step_of x p 0)
    (step_of y q 0)
step_of-xor x y zero zero _ _ = refl
step_of-xor x y zero (suc zero) _ _ = xor_assoc x y 0x82F6_3B78
step_of-xor x y (suc zero) zero _ _ = xor_swap x y 0x82F6_3B78
step_of-xor x y (suc zero) (suc zero) _ _ =
    sym (xor_cross x 0x82F6_3B78 y 0x82F6_3B78 ∙ ap (bit_xor (bit_xor x y)) (xor_self 0x82F6_3B78)
    ∙ xor_zero_r (bit_xor x y))
step_of-xor x y (suc (suc p)) q h _ = absurd (omega (arith, h))
step_of-xor x y zero (suc (suc q)) _ h = absurd (omega (arith, h))
step_of-xor x y (suc zero) (suc (suc q)) _ h = absurd (omega (arith, h))

crc_step-low : (s bit : ℕ) → bit < 2 → crc_step s bit ≡ step_of (s / 2) (bit_xor (s % 2) bit) 0
crc_step-low s bit is_bit = step_of-bit (s / 2) (s % 2) bit (omega arith) is_bit

-- of states and bits
pub crc_step-xor : (s t a b : ℕ) → a < 2 → b < 2 → crc_step (bit_xor s t) (bit_xor a b) ≡ bit_xor (crc_step s a)
    (crc_step t b)
crc_step-xor s t a b is_a is_b =
    let low_s : s % 2 < 2 = omega arith in
    let low_t : t % 2 < 2 = omega arith in
    crc_step-low (bit_xor s t) (bit_xor a b) (xor_lt 1 a b is_a is_b)
    ∙ ap (λ (half : ℕ). step_of half (bit_xor (bit_xor s t % 2) (bit_xor a b)) 0) (xor_shr s t 1)
    ∙ ap (λ (low : ℕ). step_of (bit_xor (s / 2) (t / 2)) low 0)
    (ap (λ (low : ℕ). bit_xor low (bit_xor a b)) (xor_mod s t 1) ∙ xor_cross (s % 2) (t % 2) a b)
    ∙ step_of-xor (s / 2) (t / 2) (bit_xor (s % 2) a) (bit_xor (t % 2) b) (xor_lt 1 (s % 2) a low_s is_a) (xor_lt 1
    (t % 2) b low_t is_b)
    ∙ xor_both _ _ _ _ (sym (crc_step-low s a is_a)) (sym (crc_step-low t b is_b))

-- a number added to the state comes in bit by bit
pub crc_step-shift : (s n : ℕ) → crc_step (bit_xor s n) 0 ≡ bit_xor (crc_step s (n % 2)) (n / 2)
crc_step-shift s n =
    let is_bit : n % 2 < 2 = omega arith in
    ap (crc_step (bit_xor s n)) (sym (xor_self (n % 2)))
    ∙ crc_step-xor s n (n % 2) (n % 2) is_bit is_bit
    ∙ ap (bit_xor (crc_step s (n % 2))) (cond-true (n % 2 == n % 2) (n / 2) (bit_xor (n / 2) 0x82F6_3B78) (eq-eqb
    (n % 2) (n % 2) refl))

-- the bit of a byte at k
abbrev bit_at : ℕ → ℕ → ℕ
bit_at byte k = byte / 2 ^ k % 2

bit_at-xor : (a b k : ℕ) → bit_at (bit_xor a b) k ≡ bit_xor (bit_at a k) (bit_at b k)
bit_at-xor a b k = ap (λ (n : ℕ). n % 2) (xor_shr a b k) ∙ xor_mod (a / 2 ^ k) (b / 2 ^ k) 1

bits-xor : (s t a b : ℕ) (ks : List ℕ) → fold crc_step (bit_xor s t) (map (bit_at (bit_xor a b)) ks)
    ≡ bit_xor (fold crc_step s (map (bit_at a) ks)) (fold crc_step t (map (bit_at b) ks))
bits-xor s t a b [] = refl
bits-xor s t a b (k ∷ ks) =
    let is_a : bit_at a k < 2 = omega arith in
    let is_b : bit_at b k < 2 = omega arith in
    ap (λ (state : ℕ). fold crc_step state (map (bit_at (bit_xor a b)) ks))
    (ap (crc_step (bit_xor s t)) (bit_at-xor a b k) ∙ crc_step-xor s t (bit_at a k) (bit_at b k) is_a is_b)
    ∙ bits-xor (crc_step s (bit_at a k)) (crc_step t (bit_at b k)) a b ks

-- of states and bytes
pub byte-xor : (s t a b : ℕ) → crc_state (bit_xor s t) (bit_xor a b ∷ []) ≡ bit_xor (crc_state s (a ∷ []))
    (crc_state t (b ∷ []))
unfolding crc_state
byte-xor s t a b = bits-xor s t a b (range_with_len 0 8)
