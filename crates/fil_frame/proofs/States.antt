-- The states after the values of a function.
use Rattle.std.proofs.Common.{◌≡◌, ℕ, zero, suc, ◌+◌, ◌<◌, ◌≤◌, List, [], ◌∷◌, length, get_or, take, bit_xor, refl, sym}
use Rattle.std.proofs.Common.{◌∙◌, ap, add-zero, add-one, zero-add, arith}
use Rattle.std.proofs.lemmas.List.{take_all}
use Rattle.std.proofs.Math.Nat.{add-suc, suc-add}
use Rattle.std.specs.Int.Bits.{xor_zero_l, xor_zero_r}
use Rattle.fil_frame.specs.Crc.{crc_state}
use Rattle.fil_frame.specs.Sparse.{zero_bytes}
use Rattle.fil_frame.proofs.CrcLemmas.{crc_state_more}
use Rattle.fil_frame.proofs.Linear.{byte-xor}

-- the state after the first n values of f
unfoldable pub state_of : ℕ → (ℕ → ℕ) → ℕ → ℕ
state_of s f zero = s
state_of s f (suc n) = crc_state (state_of s f n) (f n ∷ [])

-- one more value
state_of-next : (s : ℕ) (f : ℕ → ℕ) (n r b : ℕ) → state_of s f n ≡ r → f n ≡ b
    → state_of s f (suc n) ≡ crc_state r (b ∷ [])
unfolding state_of
state_of-next s f n r b at_state at_byte = ap (λ (q : ℕ). crc_state q (f n ∷ [])) at_state
    ∙ ap (λ (c : ℕ). crc_state r (c ∷ [])) at_byte

pub state_of-xor : (s t : ℕ) (f g : ℕ → ℕ) (n : ℕ)
    → state_of (bit_xor s t) (λ j. bit_xor (f j) (g j)) n ≡ bit_xor (state_of s f n) (state_of t g n)
unfolding state_of
state_of-xor s t f g zero = refl
state_of-xor s t f g (suc n) =
    ap (λ (r : ℕ). crc_state r (bit_xor (f n) (g n) ∷ [])) (state_of-xor s t f g n)
    ∙ byte-xor (state_of s f n) (state_of t g n) (f n) (g n)

pub state_of-same : (s : ℕ) (f g : ℕ → ℕ) (n : ℕ) → ((j : ℕ) → j < n → f j ≡ g j) → state_of s f n ≡ state_of s g n
unfolding state_of
state_of-same s f g zero same = refl
state_of-same s f g (suc n) same =
    state_of-next s f n (state_of s g n) (g n) (state_of-same s f g n (λ j h. same j (omega arith))) (same n
    (omega arith))

-- zeros behind the others
pub state_of-behind : (s : ℕ) (f : ℕ → ℕ) (n k : ℕ) → ((j : ℕ) → n ≤ j → j < n + k → f j ≡ 0)
    → state_of s f (n + k) ≡ zero_bytes k (state_of s f n)
unfolding zero_bytes
state_of-behind s f n zero zeros = ap (state_of s f) (add-zero n)
state_of-behind s f n (suc k) zeros =
    ap (state_of s f) (add-suc n k)
    ∙ state_of-next s f (n + k) (zero_bytes k (state_of s f n)) 0 (state_of-behind s f n k (λ j h l. zeros j h
    (omega arith)))
    (zeros (n + k) (omega arith) (omega arith))

pub state_of-zeros : (s : ℕ) (f : ℕ → ℕ) (n : ℕ) → ((j : ℕ) → j < n → f j ≡ 0) → state_of s f n ≡ zero_bytes n s
unfolding state_of
state_of-zeros s f n zeros = ap (state_of s f) (sym (zero-add n))
    ∙ state_of-behind s f 0 n (λ j _ h. zeros j (omega arith))

-- zeros before the others, which leave the state 0
pub zero_bytes-none : (n : ℕ) → zero_bytes n 0 ≡ 0
unfolding zero_bytes crc_state
zero_bytes-none zero = refl
zero_bytes-none (suc n) = ap (λ (s : ℕ). crc_state s (0 ∷ [])) (zero_bytes-none n)

pub state_of-before : (f : ℕ → ℕ) (n k : ℕ) → ((j : ℕ) → j < k → f j ≡ 0)
    → state_of 0 f (n + k) ≡ state_of 0 (λ j. f (j + k)) n
unfolding state_of
state_of-before f zero k zeros = ap (state_of 0 f) (zero-add k) ∙ state_of-zeros 0 f k zeros ∙ zero_bytes-none k
state_of-before f (suc n) k zeros =
    ap (state_of 0 f) (suc-add n k) ∙ state_of-next 0 f (n + k) (state_of 0 (λ j. f (j + k)) n) (f (n + k))
    (state_of-before f n k zeros) refl

-- the values of a list
state_of-take : (s : ℕ) (xs : List ℕ) (n : ℕ) → n ≤ length xs
    → state_of s (λ j. get_or xs j 0) n ≡ crc_state s (take n xs)
unfolding state_of crc_state
state_of-take s xs zero within = refl
state_of-take s xs (suc n) within =
    ap (λ (r : ℕ). crc_state r (get_or xs n 0 ∷ [])) (state_of-take s xs n (omega arith))
    ∙ sym (crc_state_more s xs n (omega arith)) ∙ ap (λ (k : ℕ). crc_state s (take k xs)) (add-one n)

pub state_of-list : (s : ℕ) (xs : List ℕ) (n : ℕ) → length xs ≡ n → state_of s (λ j. get_or xs j 0) n ≡ crc_state s xs
state_of-list s xs n size = state_of-take s xs n (omega arith) ∙ ap (crc_state s) (take_all n xs (omega arith))

-- the state from s, by the one from 0
pub from_start : (s : ℕ) (xs : List ℕ) (n : ℕ) → length xs ≡ n
    → crc_state s xs ≡ bit_xor (crc_state 0 xs) (zero_bytes n s)
from_start s xs n size =
    let f = λ (j : ℕ). get_or xs j 0 in
    sym (state_of-list s xs n size)
    ∙ ap (λ (r : ℕ). state_of r f n) (sym (xor_zero_l s))
    ∙ state_of-same (bit_xor 0 s) f (λ j. bit_xor (f j) 0) n (λ j _. sym (xor_zero_r (f j)))
    ∙ state_of-xor 0 s f (λ _. 0) n
    ∙ ap (bit_xor (state_of 0 f n)) (state_of-zeros s (λ _. 0) n (λ _ _. refl))
    ∙ ap (λ (r : ℕ). bit_xor r (zero_bytes n s)) (state_of-list 0 xs n size)
