-- A list keeps its state as shifted copies of another are added to it, if the states of the shifts cancel out.
use Rattle.std.proofs.Common.{◌≡◌, ℕ, zero, suc, ◌+◌, ◌/◌, ◌%◌, ◌^◌, ◌<◌, ◌≤◌, List, [], ◌∷◌, map, fold, bit_xor, refl}
use Rattle.std.proofs.Common.{sym, ◌∙◌, ap, arith}
use Rattle.std.specs.List.{range_with_len, AllByRecursion}
use Rattle.std.specs.Int.Bits.{xor_self, xor_zero_r}
use Rattle.fil_frame.specs.Crc.{crc_step, crc_state}
use Rattle.fil_frame.specs.Sparse.{zero_bytes, xor_sum, Cancel, exponents}
use Rattle.fil_frame.proofs.Linear.{xor_cross, xor_both, crc_step-xor, byte-xor}
use Rattle.fil_frame.proofs.States.{state_of, state_of-xor, state_of-zeros, state_of-before, state_of-behind}
use Rattle.fil_frame.proofs.States.{zero_bytes-none}

pub cancel_1 : Cancel (exponents 1)
unfolding zero_bytes xor_sum crc_state
cancel_1 = refl

pub cancel_4 : Cancel (exponents 4)
unfolding zero_bytes xor_sum crc_state
cancel_4 = refl

-- all ones, after as many bytes as the body of a page has
pub ones_after_body : zero_bytes 16338 0xFFFF_FFFF ≡ 0xD272_5D08
unfolding zero_bytes crc_state
ones_after_body = refl

-- the states after zeros are linear, and a zero bit may come first or last
pub zero_bytes-xor : (k s t : ℕ) → zero_bytes k (bit_xor s t) ≡ bit_xor (zero_bytes k s) (zero_bytes k t)
unfolding zero_bytes
zero_bytes-xor zero s t = refl
zero_bytes-xor (suc k) s t =
    ap (λ (r : ℕ). crc_state r (0 ∷ [])) (zero_bytes-xor k s t) ∙ byte-xor (zero_bytes k s) (zero_bytes k t) 0 0

zero_bytes-bit : (k s : ℕ) → zero_bytes k (crc_step s 0) ≡ crc_step (zero_bytes k s) 0
unfolding zero_bytes crc_state
zero_bytes-bit zero s = refl
zero_bytes-bit (suc k) s = ap (λ (r : ℕ). crc_state r (0 ∷ [])) (zero_bytes-bit k s)

-- so are their sums
abbrev sum_after : List ℕ → ℕ → ℕ
sum_after ks s = xor_sum (λ k. zero_bytes k s) ks

sum_after-xor : (ks : List ℕ) (s t : ℕ) → sum_after ks (bit_xor s t) ≡ bit_xor (sum_after ks s) (sum_after ks t)
unfolding xor_sum
sum_after-xor [] s t = refl
sum_after-xor (k ∷ ks) s t =
    xor_both _ _ _ _ (zero_bytes-xor k s t) (sum_after-xor ks s t)
    ∙ xor_cross (zero_bytes k s) (zero_bytes k t) (sum_after ks s) (sum_after ks t)

sum_after-bit : (ks : List ℕ) (s : ℕ) → sum_after ks (crc_step s 0) ≡ crc_step (sum_after ks s) 0
unfolding xor_sum
sum_after-bit [] s = refl
sum_after-bit (k ∷ ks) s =
    xor_both _ _ _ _ (zero_bytes-bit k s) (sum_after-bit ks s)
    ∙ sym (crc_step-xor (zero_bytes k s) (sum_after ks s) 0 0 (omega arith) (omega arith))

-- the sum is 0 at each state that bits leave
cancel_zero : (ks : List ℕ) (s : ℕ) → sum_after ks s ≡ 0 → sum_after ks (crc_step s 0) ≡ 0
cancel_zero ks s none = sum_after-bit ks s ∙ ap (λ (r : ℕ). crc_step r 0) none

cancel_step : (ks : List ℕ) (s bit : ℕ) → Cancel ks → bit < 2 → sum_after ks s ≡ 0 → sum_after ks (crc_step s bit) ≡ 0
cancel_step ks s zero cancels is_bit none = cancel_zero ks s none
cancel_step ks s (suc zero) cancels is_bit none =
    ap (sum_after ks) (ap (λ (r : ℕ). crc_step r 1) (sym (xor_zero_r s))
    ∙ crc_step-xor s 0 0 1 (omega arith) (omega arith))
    ∙ sum_after-xor ks (crc_step s 0) 0x82F6_3B78
    ∙ xor_both _ _ 0 0 (cancel_zero ks s none) cancels
cancel_step ks s (suc (suc bit)) cancels is_bit none = absurd (omega (arith, is_bit))

cancel_bits : (ks : List ℕ) (s byte : ℕ) (places : List ℕ) → Cancel ks → sum_after ks s ≡ 0
    → sum_after ks (fold crc_step s (map (λ k. byte / 2 ^ k % 2) places)) ≡ 0
cancel_bits ks s byte [] cancels none = none
cancel_bits ks s byte (k ∷ places) cancels none =
    let bit = byte / 2 ^ k % 2 in
    cancel_bits ks (crc_step s bit) byte places cancels (cancel_step ks s bit cancels (omega arith) none)

cancel_state : (ks : List ℕ) (f : ℕ → ℕ) (n : ℕ) → Cancel ks → sum_after ks (state_of 0 f n) ≡ 0
unfolding state_of crc_state
cancel_state ks f zero cancels = sum_after-xor ks 0 0 ∙ xor_self (sum_after ks 0)
cancel_state ks f (suc n) cancels = cancel_bits ks (state_of 0 f n) (f n) (range_with_len 0 8) cancels
    (cancel_state ks f n cancels)

-- the copies of g, which is 0 before the place d and from n on, each shifted back by at most d
pub copies_state : (g : ℕ → ℕ) (n d : ℕ) (ks : List ℕ) → ((j : ℕ) → j < d → g j ≡ 0) → ((j : ℕ) → n ≤ j → g j ≡ 0)
    → AllByRecursion (λ k. k ≤ d) ks → state_of 0 (λ j. xor_sum (λ k. g (j + k)) ks) n ≡ sum_after ks (state_of 0 g n)
unfolding xor_sum
copies_state g n d [] before behind near = state_of-zeros 0 (λ _. 0) n (λ _ _. refl) ∙ zero_bytes-none n
copies_state g n d (k ∷ ks) before behind near =
    state_of-xor 0 0 (λ j. g (j + k)) (λ j. xor_sum (λ i. g (j + i)) ks) n
    ∙ xor_both _ _ _ _
    (sym (state_of-before g n k (λ j h. before j (omega arith))) ∙ state_of-behind 0 g n k (λ j h _. behind j h))
    (copies_state g n d ks before behind near.1)

-- added to f, they leave its state
pub keeps_state : (f g : ℕ → ℕ) (n d : ℕ) (ks : List ℕ) → Cancel ks → ((j : ℕ) → j < d → g j ≡ 0) → ((j : ℕ)
    → n ≤ j → g j ≡ 0)
    → AllByRecursion (λ k. k ≤ d) ks → state_of 0 (λ j. bit_xor (f j) (xor_sum (λ k. g (j + k)) ks)) n ≡ state_of 0 f n
keeps_state f g n d ks cancels before behind near =
    state_of-xor 0 0 f (λ j. xor_sum (λ k. g (j + k)) ks) n
    ∙ ap (bit_xor (state_of 0 f n)) (copies_state g n d ks before behind near ∙ cancel_state ks g n cancels)
    ∙ xor_zero_r (state_of 0 f n)
