-- Marks as bits of words.
use Rattle.std.proofs.Common.{◌≡◌, ◌==◌, ℕ, ◌+◌, ◌-◌, ◌*◌, ◌^◌, ◌/◌, ◌%◌, ◌<◌, ◌≤◌, ◌↔◌, true, false, List, length}
use Rattle.std.proofs.Common.{get_or, set, max, replicate, w64, pow-add, refl, sym, ap, ◌∙◌, arith, inl, inr, eq-eqb}
use Rattle.std.proofs.Common.{get_or-set_same, get_or-set_other}
use Rattle.std.proofs.lemmas.Bool.{false≢true, cases_eq, cases_lt, ne_eqb, lt-ltb, le-ltb, le-leb, lt-leb}
use Rattle.std.specs.Int.{bit_at}
use Rattle.std.specs.Int.Bits.{bit_and}
use Rattle.std.specs.Int.RustNames.{bit_or}
use Rattle.std.proofs.lemmas.Nat.Bits.{bit_at-zero, bit_at-lt, bit_at_and, bit_at_or, bit_at_set_same}
use Rattle.std.proofs.lemmas.Nat.Bits.{bit_at_set_other, bit_at_mask_inside, bit_at_mask_below, bit_at_mask_above}
use Rattle.std.proofs.lemmas.Nat.Bits.{same_from_bits, ones_shr}
use Rattle.std.proofs.Math.Nat.{pow-le-pow_right, mod-eq_of_lt, mul-sub}
use Rattle.std.proofs.lemmas.List.{get_or-replicate, get_or_past, length-replicate}
use Rattle.std.proofs.Math.Path.{fun_ext}
use Rattle.index_page.specs.Marks.{Seen, bits_of, none_seen, with_mark, with_span, IsUnmarked}

pub with_mark_same : (seen : Seen) (n : ℕ) → with_mark seen n n ≡ true
unfolding with_mark
with_mark_same seen n = rw (eq-eqb n n refl) refl

pub with_mark_other : (seen : Seen) (n k : ℕ) → (k ≡ n → ⊥) → with_mark seen n k ≡ seen k
unfolding with_mark
with_mark_other seen n k other = rw (ne_eqb k n other) refl

pub with_span_in : (seen : Seen) (from to k : ℕ) → from ≤ k → k < to → with_span seen from to k ≡ true
unfolding with_span
with_span_in seen from to k least most = rw (le-leb from k least, lt-ltb k to most) refl

pub with_span_before : (seen : Seen) (from to k : ℕ) → k < from → with_span seen from to k ≡ seen k
unfolding with_span
with_span_before seen from to k before = rw (lt-leb from k before) refl

pub with_span_behind : (seen : Seen) (from to k : ℕ) → from ≤ k → to ≤ k → with_span seen from to k ≡ seen k
unfolding with_span
with_span_behind seen from to k least behind = rw (le-leb from k least, le-ltb k to behind) refl

-- no number lies between
pub with_span_none : (seen : Seen) (from to : ℕ) → to ≤ from → with_span seen from to ≡ seen
with_span_none seen from to none =
    fun_ext (λ k. elim (cases_lt k from) [
      | inl before ↦ with_span_before seen from to k before
      | inr least ↦ with_span_behind seen from to k least (omega arith)
    ])

-- one span behind another
pub with_span_join : (seen : Seen) (from mid to : ℕ) → from ≤ mid → mid ≤ to
    → with_span (with_span seen from mid) mid to ≡ with_span seen from to
with_span_join seen from mid to first second =
    fun_ext (λ k. elim (cases_lt k mid) [
      | inl before ↦
          with_span_before (with_span seen from mid) mid to k before ∙ elim (cases_lt k from) [
            | inl out ↦ with_span_before seen from mid k out ∙ sym (with_span_before seen from to k out)
            | inr least ↦ with_span_in seen from mid k least before
                ∙ sym (with_span_in seen from to k least (omega arith))
          ]
      | inr least ↦ elim (cases_lt k to) [
        | inl most ↦ with_span_in (with_span seen from mid) mid to k least most
            ∙ sym (with_span_in seen from to k (omega arith) most)
        | inr behind ↦
            with_span_behind (with_span seen from mid) mid to k least behind
            ∙ with_span_behind seen from mid k (omega arith) least
            ∙ sym (with_span_behind seen from to k (omega arith) behind)
      ]
    ])

pub unmarked_join : (seen : Seen) (from mid to : ℕ) → from ≤ mid → IsUnmarked seen from mid
    → IsUnmarked (with_span seen from mid) mid to → IsUnmarked seen from to
unmarked_join seen from mid to some first second k least most =
    elim (cases_lt k mid) [
      | inl before ↦ first k least before
      | inr behind ↦ sym (with_span_behind seen from mid k least behind) ∙ second k behind most
    ]

pub unmarked_part : (seen : Seen) (from mid end to : ℕ) → from ≤ mid → end ≤ to → IsUnmarked seen from to
    → IsUnmarked (with_span seen from mid) mid end
unmarked_part seen from mid end to some within free k least most =
    with_span_behind seen from mid k (omega arith) least ∙ free k (omega arith) (omega arith)

-- a bit that isn't 1
no_one : (bit : ℕ) → bit < 2 → (bit == 1) ≡ false → bit ≡ 0
no_one bit few other = elim (cases_eq bit 1) [
  | inl e ↦ absurd (false≢true (sym other ∙ eq-eqb bit 1 e))
  | inr apart ↦
      omega arith
]

-- the words with one more bit
pub bits_of_set : (words : List ℕ) (n : ℕ) → n / 64 < length words
    → bits_of (set words (n / 64) (bit_or (get_or words (n / 64) 0) (1 * 2 ^ (n % 64) % 2 ^ 64)))
    ≡ with_mark (bits_of words) n
unfolding bits_of
bits_of_set words n within =
    let word = n / 64 in
    let v = bit_or (get_or words word 0) (1 * 2 ^ (n % 64) % 2 ^ 64) in
    let low : n % 64 < 64 = omega arith in
    fun_ext (λ k. elim (cases_eq k n) [
      | inl e ↦ rw (
        e,
        with_mark_same (λ x. bit_at (get_or words (x / 64) 0) (x % 64) == 1) n,
        get_or-set_same words word v 0 within,
        bit_at_set_same w64 (get_or words word 0) (n % 64) low,
      ) refl
      | inr other ↦
          rw (with_mark_other (λ x. bit_at (get_or words (x / 64) 0) (x % 64) == 1) n k other)
          (elim (cases_eq (k / 64) word) [
            | inl same ↦
                let place : k % 64 ≡ n % 64 → ⊥ = λ p. other (omega arith) in
                rw (
                  same,
                  get_or-set_same words word v 0 within,
                  bit_at_set_other w64 (get_or words word 0) (n % 64) low (k % 64) place,
                ) refl
            | inr away ↦ rw (get_or-set_other words word (k / 64) v 0 away) refl
          ])
    ])

pub bits_of_zeros : (n : ℕ) → bits_of (replicate n 0) ≡ none_seen
unfolding bits_of
bits_of_zeros n = fun_ext (λ k. let e : get_or {A = ℕ} (replicate n 0) (k / 64) 0 ≡ 0 = elim (cases_lt (k / 64) n) [
  | inl in' ↦ get_or-replicate n (k / 64) 0 0 in'
  | inr out ↦ get_or_past (replicate n 0) (k / 64) 0 (omega (arith, length-replicate {A = ℕ} n 0))
] in rw (e, bit_at-zero (k % 64)) refl)

-- a run of ones, shifted up
pub span_is : (low high : ℕ) → low < high → high ≤ 64 → (18446744073709551615 / 2 ^ (64 - (high - low))) * 2 ^ low %
    18446744073709551616 ≡ 2 ^ high - 2 ^ low
span_is low high rising inside =
    let d = high - low in
    let ones : 18446744073709551615 / 2 ^ (64 - d) ≡ 2 ^ (64 - (64 - d)) - 1 = ones_shr 64 (64 - d) (omega arith) in
    let e : 64 - (64 - d) ≡ d = omega arith in
    let up : 2 ^ (d + low) ≡ 2 ^ d * 2 ^ low = pow-add 2 d low in
    let f : d + low ≡ high = omega arith in
    let whole : 2 ^ high ≡ 2 ^ d * 2 ^ low = ap (λ k. 2 ^ k) (sym f) ∙ up in
    let most : 2 ^ high ≤ 2 ^ 64 = pow-le-pow_right {n = 2} (omega arith) {i = high} {j = 64} inside in
    let some : 1 ≤ 2 ^ low = pow-le-pow_right {n = 2} (omega arith) {i = 0} {j = low} (omega arith) in
    let times : (2 ^ d - 1) * 2 ^ low ≡ 2 ^ d * 2 ^ low - 2 ^ low = omega (arith, mul-sub (2 ^ low) (2 ^ d) 1) in
    rw (ones, e, times, ← whole) (mod-eq_of_lt (omega arith))

-- the words with the bits of a span more
pub bits_of_span : (words : List ℕ) (from to : ℕ) → from < to → to ≤ 64 * (from / 64) + 64 → from / 64 < length words
    → bits_of (set words (from / 64) (bit_or (get_or words (from / 64) 0)
    (2 ^ (to - 64 * (from / 64)) - 2 ^ (from % 64)))) ≡ with_span (bits_of words) from to
unfolding bits_of
bits_of_span words from to rising one within =
    let word = from / 64 in
    let old = get_or words word 0 in
    let lo = from % 64 in
    let hi = to - 64 * word in
    let span = 2 ^ hi - 2 ^ lo in
    let v = bit_or old span in
    let seen : Seen = λ x. bit_at (get_or words (x / 64) 0) (x % 64) == 1 in
    fun_ext (λ k. elim (cases_eq (k / 64) word) [
      | inl same ↦
          let place : k ≡ 64 * word + k % 64 = omega arith in
          let here : (bit_at (get_or (set words word v) (k / 64) 0) (k % 64) == 1) ≡
          (max (bit_at old (k % 64)) (bit_at span (k % 64)) == 1) =
          rw (same, get_or-set_same words word v 0 within, bit_at_or old span (k % 64)) refl in
          here ∙ elim (cases_lt k from) [
            | inl before ↦
                let none : bit_at span (k % 64) ≡ 0 = bit_at_mask_below lo hi (k % 64) (omega arith) in
                let keeps : max (bit_at old (k % 64)) 0 ≡ bit_at old (k % 64) = omega arith in
                rw (none, keeps, with_span_before seen from to k before, same) refl
            | inr least ↦ elim (cases_lt k to) [
              | inl most ↦
                  let one' : bit_at span (k % 64) ≡ 1 =
                  bit_at_mask_inside lo hi (k % 64) (omega arith) (omega arith) in
                  let few = bit_at-lt old (k % 64) in
                  let all : max (bit_at old (k % 64)) 1 ≡ 1 = omega arith in
                  rw (one', all, with_span_in seen from to k least most) refl
              | inr behind ↦
                  let none : bit_at span (k % 64) ≡ 0 = bit_at_mask_above lo hi (k % 64) (omega arith) in
                  let keeps : max (bit_at old (k % 64)) 0 ≡ bit_at old (k % 64) = omega arith in
                  rw (none, keeps, with_span_behind seen from to k least behind, same) refl
            ]
          ]
      | inr away ↦
          let there : (bit_at (get_or (set words word v) (k / 64) 0) (k % 64) == 1) ≡ seen k =
          rw (get_or-set_other words word (k / 64) v 0 away) refl in
          there ∙ elim (cases_lt k from) [
            | inl before ↦ sym (with_span_before seen from to k before)
            | inr least ↦ sym (with_span_behind seen from to k least (omega arith))
          ]
    ])

-- a span has no bit in common with a word exactly where none of its numbers is marked
pub span_is_free : (words : List ℕ) (from to : ℕ) → from < to → to ≤ 64 * (from / 64) + 64
    → (bit_and (get_or words (from / 64) 0) (2 ^ (to - 64 * (from / 64)) - 2 ^ (from % 64)) ≡ 0)
    ↔ IsUnmarked (bits_of words) from to
unfolding bits_of
span_is_free words from to rising one =
    let word = from / 64 in
    let old = get_or words word 0 in
    let lo = from % 64 in
    let hi = to - 64 * word in
    let span = 2 ^ hi - 2 ^ lo in (
      λ none k least most.
          let same : k / 64 ≡ word = omega arith in
          let one' : bit_at span (k % 64) ≡ 1 = bit_at_mask_inside lo hi (k % 64) (omega arith) (omega arith) in
          let both = ap (λ n. bit_at n (k % 64)) none ∙ bit_at-zero (k % 64) in
          let parts = bit_at_and old span (k % 64) in
          let zero' : bit_at old (k % 64) ≡ 0 = omega (arith, both, parts, one') in
          rw (same, zero') refl,
      λ free.
          same_from_bits (bit_and old span) 0 (λ i. bit_at_and old span i ∙ elim (cases_lt i lo) [
            | inl below ↦ let none : bit_at span i ≡ 0 =
                bit_at_mask_below lo hi i below in rw (none, bit_at-zero i) (omega arith)
            | inr least ↦ elim (cases_lt i hi) [
              | inr above ↦ let none : bit_at span i ≡ 0 =
                  bit_at_mask_above lo hi i above in rw (none, bit_at-zero i) (omega arith)
              | inl most ↦
                  let k = 64 * word + i in
                  let quotient : k / 64 ≡ word = omega arith in
                  let rest : k % 64 ≡ i = omega arith in
                  let here = rw (quotient, rest) at (free k (omega arith) (omega arith)) in
                  let few = bit_at-lt old i in
                  let none : bit_at old i ≡ 0 = no_one (bit_at old i) few here in
                  rw (none, bit_at-zero i) (omega arith)
            ]
          ]),
    )
