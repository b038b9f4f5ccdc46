-- Pieces that follow one another: of each number between the ends, which piece it is in, and where.
use Rattle.std.proofs.Common.{◌≡◌, ℕ, zero, suc, ◌+◌, ◌-◌, ◌<◌, ◌≤◌, nat_lt, inl, inr, sym, ap, ◌∙◌, subst, arith}
use Rattle.std.proofs.lemmas.Bool.{cases_lt, cases_order, lt-ltb, le-ltb}

-- piece s begins at start s and has count s members, for the first n pieces
pub record FollowOn (start count : ℕ → ℕ) (n : ℕ) : Type 0 where
  pub next : (s : ℕ) → s < n → start (s + 1) ≡ start s + count s

pub start_rises : (start count : ℕ → ℕ) (n : ℕ) → FollowOn start count n → (s d : ℕ) → s + d ≤ n
    → start s ≤ start (s + d)
start_rises start count n h s zero l = let e : s + 0 ≡ s = omega arith in rw e (omega arith)
start_rises start count n h s (suc d) l =
    let before = start_rises start count n h s d (omega arith) in
    let step = h.next (s + d) (omega arith) in
    let e : s + suc d ≡ s + d + 1 = omega arith in
    rw e (omega arith)

-- what is in an earlier piece comes before a later one
pub piece_before : (start count : ℕ → ℕ) (n : ℕ) → FollowOn start count n → (s t i : ℕ) → s < t → t ≤ n
    → i < count s → start s + i < start t
piece_before start count n h s t i less within inside =
    let d = t - (s + 1) in
    let e : s + 1 + d ≡ t = omega arith in
    let later : start (s + 1) ≤ start t = subst (λ k. start (s + 1) ≤ start k) e
    (start_rises start count n h (s + 1) d (omega arith)) in
    let step = h.next s (omega arith) in
    omega arith

-- a number is in one place of one piece
pub one_place : (start count : ℕ → ℕ) (n : ℕ) → FollowOn start count n → (s t i j : ℕ) → s < n → t < n → i < count s
    → j < count t → start s + i ≡ start t + j → (s ≡ t) × (i ≡ j)
one_place start count n h s t i j sn tn ic jc same = elim (cases_order s t) [
  | inl e ↦ let at : start s ≡ start t = ap start e in (e, omega arith)
  | inr q ↦ elim q [
    | inl less ↦ absurd (let b = piece_before start count n h s t i less (omega arith) ic in omega arith)
    | inr more ↦ absurd (let b = piece_before start count n h t s j more (omega arith) jc in omega arith)
  ]
]

-- and it is in some place
pub record Place (start count : ℕ → ℕ) (n x : ℕ) : Type 0 where
  pub piece : ℕ
  pub at : ℕ
  pub below : piece < n
  pub inside : at < count piece
  pub there : start piece + at ≡ x

pub some_place : (start count : ℕ → ℕ) (n : ℕ) → FollowOn start count n → (x : ℕ) → start 0 ≤ x → x < start n
    → Place start count n x
some_place start count zero h x low high = absurd (omega arith)
some_place start count (suc n) h x low high = elim (cases_lt x (start n)) [
  | inl before ↦
      let r = some_place start count n (record { next = λ s l. h.next s (omega arith) }) x low before in
      record { piece = r.piece; at = r.at; below = omega (arith, r.below); inside = r.inside; there = r.there }
  | inr here ↦
      let step = h.next n (omega arith) in
      let e : suc n ≡ n + 1 = omega arith in
      let end : start (suc n) ≡ start n + count n = ap start e ∙ step in
      record { piece = n; at = x - start n; below = omega arith; inside = omega arith; there = omega arith }
]

-- two tests that hold together are the same
pub less_same : (a b c d : ℕ) → (a < b → c < d) → (c < d → a < b) → nat_lt a b ≡ nat_lt c d
less_same a b c d there back = elim (cases_lt a b) [
  | inl l ↦ lt-ltb a b l ∙ sym (lt-ltb c d (there l))
  | inr l ↦ le-ltb a b l ∙ sym (elim
      (cases_lt c d) [ inl k ↦ absurd (let r = back k in omega arith) | inr k ↦ le-ltb c d k ])
]
