-- What is left of a list by shortening has its state.
use Rattle.std.proofs.Common.{◌≡◌, ℕ, ◌+◌, ◌*◌, ◌<◌, ◌≤◌, ◌≢◌, List, [], ◌∷◌, length, get_or, set, drop, bit_xor, refl}
use Rattle.std.proofs.Common.{sym, ◌∙◌, ap, arith, get_or-set_same, get_or-set_other, length-set, below_more}
use Rattle.std.specs.List.{AllByRecursion}
use Rattle.std.specs.Int.Bits.{xor_self, xor_zero_l}
use Rattle.fil_frame.specs.Crc.{crc_state}
use Rattle.fil_frame.specs.Sparse.{xor_sum, Cancel, exponents, remaining}
use Rattle.fil_frame.proofs.Linear.{xor_twice}
use Rattle.fil_frame.proofs.States.{state_of, state_of-same, state_of-before, state_of-list}
use Rattle.fil_frame.proofs.Cancels.{keeps_state}

-- the first i bytes of the body are cleared: the quotient has a byte for each, between zeros
pub record IsCleared (body quotient : List ℕ) (scale i : ℕ) : Type 0 where
  pub size : length quotient ≡ length body + 144 * scale
  pub start : (j : ℕ) → j < 209 * scale → get_or quotient j 0 ≡ 0
  pub next : (j : ℕ) → j < i → get_or quotient (j + 209 * scale) 0 ≡ remaining body quotient scale j
  pub rest : (j : ℕ) → i + 209 * scale ≤ j → get_or quotient j 0 ≡ 0

xor_sum-same : (f g : ℕ → ℕ) (ks : List ℕ) → AllByRecursion (λ k. f k ≡ g k) ks → xor_sum f ks ≡ xor_sum g ks
unfolding xor_sum
xor_sum-same f g [] same = refl
xor_sum-same f g (k ∷ ks) same = ap (λ (r : ℕ). bit_xor r (xor_sum f ks)) same.0
    ∙ ap (bit_xor (g k)) (xor_sum-same f g ks same.1)

-- a byte of the quotient that comes later isn't read
remaining-set : (body quotient : List ℕ) (scale i j at v : ℕ) → 1 ≤ scale → at ≡ i + 209 * scale → j ≤ i
    → remaining body (set quotient at v) scale j ≡ remaining body quotient scale j
unfolding remaining
remaining-set body quotient scale i j at v real where_at below =
    let same : (k : ℕ) → k ≤ 144 * scale → get_or (set quotient at v) (j + k) 0 ≡ get_or quotient (j + k) 0
    = λ k h. get_or-set_other quotient at (j + k) v 0 (omega arith) in
    ap (bit_xor (get_or body j 0)) (xor_sum-same _ _ (drop 1 (exponents scale)) (
      same _ (omega arith),
      (
        same _ (omega arith),
        (
          same _ (omega arith),
          (
            same _ (omega arith),
            (
              same _
                  (omega arith),
              tt,
            ),
          ),
        ),
      ),
    ))

-- one more byte
pub IsCleared-more : (body quotient : List ℕ) (scale i at v : ℕ) → 1 ≤ scale → at ≡ i + 209 * scale
    → at < length quotient
    → v ≡ remaining body quotient scale i → IsCleared body quotient scale i
    → IsCleared body (set quotient at v) scale (i + 1)
IsCleared-more body quotient scale i at v real where_at inside value is_cleared =
    let other : (j : ℕ) → j ≢ at → get_or (set quotient at v) j 0 ≡ get_or quotient j 0
    = λ j h. get_or-set_other quotient at j v 0 h in
    let clear : (j : ℕ) → j ≤ i → remaining body quotient scale j ≡ remaining body (set quotient at v) scale j
    = λ j h. sym (remaining-set body quotient scale i j at v real where_at h) in
    record {
      size = length-set quotient at v ∙ is_cleared.size;
      start = λ j h. other j (omega arith) ∙ is_cleared.start j h;
      next = below_more (λ j. get_or (set quotient at v) (j + 209 * scale) 0 ≡ remaining body
          (set quotient at v) scale j) i
          (λ j h. other (j + 209 * scale) (omega arith) ∙ is_cleared.next j h ∙ clear j (omega arith))
          (ap (λ (k : ℕ). get_or (set quotient at v) k 0) (sym where_at) ∙ get_or-set_same quotient at v 0 inside
          ∙ value ∙ clear i (omega arith));
      rest = λ j h. other j (omega arith) ∙ is_cleared.rest j (omega arith);
    }

-- the first i bytes that are left, from the place count on
pub record IsLeft (body quotient rest : List ℕ) (scale count i : ℕ) : Type 0 where
  pub size : length rest ≡ 209 * scale
  pub bytes : (j : ℕ) → j < i → get_or rest j 0 ≡ remaining body quotient scale (count + j)

-- one more byte
pub IsLeft-more : (body quotient rest : List ℕ) (scale count i v : ℕ) → i < 209 * scale
    → v ≡ remaining body quotient scale (count + i)
    → IsLeft body quotient rest scale count i → IsLeft body quotient (set rest i v) scale count (i + 1)
IsLeft-more body quotient rest scale count i v inside value is_left =
    record {
      size = length-set rest i v ∙ is_left.size;
      bytes = below_more (λ j. get_or (set rest i v) j 0 ≡ remaining body quotient scale (count + j)) i
          (λ j h. get_or-set_other rest i j v 0 (omega arith) ∙ is_left.bytes j h)
          (get_or-set_same rest i v 0 (omega (arith, is_left.size)) ∙ value);
    }

-- a byte with all its copies, where the first is what the others leave, and where there is no first
difference : List ℕ → List ℕ → ℕ → ℕ → ℕ
difference body quotient scale j = bit_xor (get_or body j 0) (xor_sum (λ k. get_or quotient (j + k) 0)
    (exponents scale))

difference-none : (body quotient : List ℕ) (scale j : ℕ) → get_or quotient
    (j + 209 * scale) 0 ≡ remaining body quotient scale j
    → difference body quotient scale j ≡ 0
unfolding difference remaining xor_sum
difference-none body quotient scale j first =
    let others = xor_sum (λ k. get_or quotient (j + k) 0) (drop 1 (exponents scale)) in
    ap (bit_xor (get_or body j 0)) (ap (λ (r : ℕ). bit_xor r others) first ∙ xor_twice (get_or body j 0) others)
    ∙ xor_self (get_or body j 0)

difference-left : (body quotient : List ℕ) (scale j : ℕ) → get_or quotient (j + 209 * scale) 0 ≡ 0
    → difference body quotient scale j ≡ remaining body quotient scale j
unfolding difference remaining xor_sum
difference-left body quotient scale j first =
    let others = xor_sum (λ k. get_or quotient (j + k) 0) (drop 1 (exponents scale)) in
    ap (bit_xor (get_or body j 0)) (ap (λ (r : ℕ). bit_xor r others) first ∙ xor_zero_l others)

-- the rest, once all but 209 bytes at this scale are cleared
pub shortened : (body quotient rest : List ℕ) (scale count : ℕ) → Cancel (exponents scale)
    → length body ≡ count + 209 * scale
    → IsCleared body quotient scale count → IsLeft body quotient rest scale count (209 * scale)
    → crc_state 0 rest ≡ crc_state 0 body
unfolding difference
shortened body quotient rest scale count cancels size is_cleared is_left =
    let size_of = 209 * scale in
    let kept : state_of 0 (difference body quotient scale) (count + size_of) ≡ state_of 0 (λ j. get_or body j 0)
    (count + size_of)
    = keeps_state (λ j. get_or body j 0) (λ j. get_or quotient j 0) (count + size_of) size_of (exponents scale) cancels
    is_cleared.start is_cleared.rest
    (omega arith, (omega arith, (omega arith, (omega arith, (omega arith, (omega arith, tt)))))) in
    let last : (j : ℕ) → j < size_of → get_or rest j 0 ≡ difference body quotient scale (j + count)
    = λ j h. is_left.bytes j h ∙ ap (remaining body quotient scale) (omega arith)
    ∙ sym (difference-left body quotient scale (j + count) (is_cleared.rest (j + count + size_of) (omega arith))) in
    sym (state_of-list 0 rest size_of is_left.size)
    ∙ state_of-same 0 (λ j. get_or rest j 0) (λ j. difference body quotient scale (j + count)) size_of last
    ∙ sym (state_of-before (difference body quotient scale) size_of count
    (λ j h. difference-none body quotient scale j (is_cleared.next j h)))
    ∙ ap (state_of 0 (difference body quotient scale)) (omega arith)
    ∙ kept ∙ state_of-list 0 body (count + size_of) size
