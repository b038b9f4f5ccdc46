-- What a used page is, and a page of a fragment extent.
use Rattle.std.proofs.Common.{◌≡◌, ℕ, ◌/◌, ◌%◌, ◌<◌, ◌≤◌, Bool, true, false, not, ◌&&◌, ◌||◌, ◌==◌, List, refl}
use Rattle.std.proofs.Common.{subst, ap, inl, inr, arith}
use Rattle.std.proofs.lemmas.Bool.{false≢true}
use Rattle.std.proofs.lemmas.Bool.Decides.{eqb_tells}
use Rattle.space_header.specs.Header.{limit_of}
use Rattle.extent_map.specs.Extents.{is_used, IsUsed, extent_count, is_fragment_extent, is_fragment_page}
use Rattle.extent_map.specs.Extents.{is_system_page, extent_state}

pub and_left : (a b : Bool) → (a && b) ≡ true → a ≡ true
and_left true b h = refl
and_left false b h = absurd (false≢true h)

pub and_right : (a b : Bool) → (a && b) ≡ true → b ≡ true
and_right true b h = h
and_right false b h = absurd (false≢true h)

pub both_true : (a b : Bool) → a ≡ true → b ≡ true → (a && b) ≡ true
both_true true b h k = k
both_true false b h k = absurd (false≢true h)

-- a page below the free limit is in an extent below the count
pub used_extent : (file : List ℕ) (n : ℕ) → limit_of file % 64 ≡ 0 → n < limit_of file → n / 64 < extent_count file
used_extent file n w h = omega arith

-- what a fragment page is
pub fragment_used : (file : List ℕ) (n : ℕ) → is_fragment_page file n ≡ true → IsUsed file n
fragment_used file n h = and_left (is_used file n) (is_fragment_extent file (n / 64)) (and_left
    (is_used file n && is_fragment_extent file (n / 64)) (not (is_system_page n)) h)

pub fragment_extent : (file : List ℕ) (n : ℕ) → is_fragment_page file n ≡ true → is_fragment_extent file (n / 64) ≡ true
fragment_extent file n h = and_right (is_used file n) (is_fragment_extent file (n / 64)) (and_left
    (is_used file n && is_fragment_extent file (n / 64)) (not (is_system_page n)) h)

pub fragment_not_own : (file : List ℕ) (e : ℕ) → is_fragment_extent file e ≡ true → ¬ (extent_state file e ≡ 4)
fragment_not_own file e h s = false≢true (subst (λ k. ((k == 2) || (k == 3)) ≡ true) s h)

pub state_fragment : (file : List ℕ) (e : ℕ) → 1 ≤ extent_state file e → extent_state file e ≤ 4
    → ¬ (extent_state file e ≡ 1) → ¬ (extent_state file e ≡ 4) → is_fragment_extent file e ≡ true
state_fragment file e a b c d = elim (eqb_tells (extent_state file e) 2) [
  | inl q ↦ rw q.0 refl
  | inr q ↦ let t : extent_state file e ≡ 3 = omega (arith, a, b, c, d, q.1) in rw q.0 (ap (λ k. k == 3) t)
]
